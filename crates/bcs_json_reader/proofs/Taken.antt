-- The members of an object, and those that are left; and arrays that aren't pairs.
use Rattle.bcs_json_reader.proofs.Prelude.{◌≡◌, ◌∙◌, ℕ, List, [], ◌∷◌, String, Global, Bool, true, false, cond, option_map, string_bytes, nat_cmp, is_eq, Result, Ok, Err, IfOk, IfErr, refl, ap, sym, is_eq-slice_cmp, is_at, slice_cmp, lookup, remove_entry, Data, Members, member, no_members, Items, no_items, item, array, get_member, view, members_view, view-lookup, Tree, JsonFault, BadShape, without, Read, read_pair}
use Rattle.serde_json.specs.declared.value.Value.{Value}

here : (b : Bool) (e : String Global × Value) (es rest : List (String Global × Value)) (ms : Members) → members_view rest ≡ ms
    → members_view (cond b es (e ∷ rest)) ≡ cond b (members_view es) (member (string_bytes e.0) (view e.1) ms)
here true e es rest ms h = refl
here false e es rest ms h = ap (member (string_bytes e.0) (view e.1)) h

pub left_without : (name : List ℕ) (es : List (String Global × Value))
    → members_view (remove_entry (is_at (λ k. slice_cmp nat_cmp name (string_bytes k))) es) ≡ without name (members_view es)
left_without name [] = refl
left_without name (e ∷ es) =
    here (is_eq (slice_cmp nat_cmp name (string_bytes e.0))) e es _ (without name (members_view es)) (left_without name es)
    ∙ ap (λ b. cond b (members_view es) (member (string_bytes e.0) (view e.1) (without name (members_view es)))) (is_eq-slice_cmp name (string_bytes e.0))

pub found_member : (name : List ℕ) (es : List (String Global × Value))
    → option_map view (lookup (is_at (λ k. slice_cmp nat_cmp name (string_bytes k))) es) ≡ get_member name (members_view es)
found_member = view-lookup

-- an array that hasn't exactly two items isn't a map entry
pub not_two : (ds : Items) → ((a b : Data) → ds ≡ item a (item b no_items) → ⊥) → (k v : Data → Read Tree) → read_pair k v (array ds) ≡ Err BadShape
not_two no_items other k v = refl
not_two (item a no_items) other k v = refl
not_two (item a (item b no_items)) other k v = absurd (other a b refl)
not_two (item a (item b (item c ds))) other k v = refl

-- an array of two items is a map entry
pub entry_of : (d : Data) (ds : Items) → d ≡ array ds → (r : Result (Value × Value) JsonFault)
    → IfOk r (λ p. ds ≡ item (view p.0) (item (view p.1) no_items)) → IfOk r (λ p. d ≡ array (item (view p.0) (item (view p.1) no_items)))
entry_of d ds is (Ok p) h = is ∙ ap array h
entry_of d ds is (Err e) h = tt

pub no_entry : (d : Data) (ds : Items) → d ≡ array ds → (r : Result (Value × Value) JsonFault)
    → IfErr r (λ _. (a b : Data) → ds ≡ item a (item b no_items) → ⊥) → IfErr r (λ e. e ≡ BadShape) → IfErr r (λ e. (k v : Data → Read Tree) → read_pair k v d ≡ Err e)
no_entry d ds is (Ok p) other fault = tt
no_entry d ds is (Err e) other fault = λ k v. ap (read_pair k v) is ∙ not_two ds other k v ∙ ap Err (sym fault)

-- an object that isn't empty has a member
pub some_left : (es : List (String Global × Value)) → (es ≡ [] → ⊥) → members_view es ≡ no_members → ⊥
some_left [] some h = some refl
some_left (e ∷ es) some h = cc
