-- The JSON of a value nests no deeper than the JSON of any equal value.
use Rattle.bcs_json_spec.proofs.Prelude.{◌≡◌, ℕ, inl, inr, ◌≤◌, max, List, [], ◌∷◌, ◌&&◌, ◌==◌, Option, Some, None, Bool, true, false, if◌then◌else◌, refl, ap, sym, subst, arith, max-le, le-max_left, le-max_right, signed_decimal, false≢true, or_cases, encode_lower, Data, number, whole, string, array, Items, no_items, item, Members, put, depth, items_depth, members_depth, get_member, of_integer, Field, Payload, newtype, tuple, Entries, choice_numbered, Shape, Shapes, no_shapes, shape, IsWellFormed, nat-same, same, all_same, is_within, has_pair, all_pairs, Tree, Trees, no_trees, tree, Pairs, no_pairs, pair, is_byte, trees_bytes, JsonContent, of, fields, one_of, json_content_at, payload_content, ShownIsReadBack, shown, shown_all, shown_each, shown_pairs, shown_fields, shown_choice, is_wide}
use Rattle.std.specs.Fmt.{decimal}
use Rattle.bcs_registry_model.specs.Container as container
use Rattle.bcs_registry_model.specs.Shape as shape
use Rattle.bcs_value_model.specs.Tree as tree
use Rattle.bcs_json_spec.proofs.DistinctNames.{has_names, well_formed_names, payload_names_differ}
use Rattle.bcs_json_spec.proofs.Fitting.{and_left, and_right}
use Rattle.bcs_json_spec.proofs.Lowest.{pair_under, put_depth, shown_is_lowest}
use Rattle.bcs_json_spec.proofs.Members.{put_own_depth, put_others_depth, new_field, later_names}
use Rattle.bcs_json_spec.proofs.ReadBack.{spelled_back}

-- ---- sequences of parts

both_under : (a b c d : ℕ) → a ≤ c → b ≤ d → max a b ≤ max c d
both_under a b c d h g = max-le (omega (arith, h, le-max_left c d)) (omega (arith, g, le-max_right c d))

text_or_array : (b : Bool) (s r : List ℕ) (ds es : Items) → items_depth ds ≤ items_depth es → depth (if b then string s else array ds) ≤ depth (if b then string r else array es)
text_or_array true s r ds es h = omega arith
text_or_array false s r ds es h = omega (arith, h)

leaf_depth : (b : Bool) (s r : List ℕ) (d e : Data) → depth d ≤ depth e → depth (if b then string s else d) ≤ depth (if b then string r else e)
leaf_depth true s r d e h = omega arith
leaf_depth false s r d e h = h

put_under : (k : List ℕ) (x : Data) (xs : Members) (d : Data) (ms : Members) → get_member k ms ≡ None → depth x ≤ depth d → members_depth xs ≤ members_depth ms
    → members_depth (put k x xs) ≤ members_depth (put k d ms)
put_under k x xs d ms new h g =
    let own = put_own_depth k d ms in
    let others = put_others_depth k d ms new in
    let all : max (depth x) (members_depth xs) ≤ members_depth (put k d ms) = max-le (omega (arith, h, own)) (omega (arith, g, others)) in
    omega (arith, put_depth k x xs, all)

choice_depth : (show other : JsonContent → Data) (o : Option (List ℕ × Payload)) → ((p : List ℕ × Payload) → o ≡ Some p → depth (show (payload_content p.1)) ≤ depth (other (payload_content p.1)))
    → depth (shown_choice show o) ≤ depth (shown_choice other o)
choice_depth show other None h = omega arith
choice_depth show other (Some (name, container.unit)) h = omega arith
choice_depth show other (Some (name, newtype s)) h =
    omega (arith, both_under (depth (show (of s))) 0 (depth (other (of s))) 0 (h (name, newtype s) refl) (omega arith))
choice_depth show other (Some (name, tuple ss)) h =
    omega (arith, both_under (depth (show (of (shape.tuple ss)))) 0 (depth (other (of (shape.tuple ss)))) 0 (h (name, tuple ss) refl) (omega arith))
choice_depth show other (Some (name, container.fields fs)) h =
    omega (arith, both_under (depth (show (fields fs))) 0 (depth (other (fields fs))) 0 (h (name, container.fields fs) refl) (omega arith))

-- ---- trees

module _ (registry : Entries) (well : IsWellFormed registry) where
  -- an entry, and a list of entries that contains an equal one
  matched : (k v : Shape) (l w : Tree) (ps : Pairs) → ((m : Tree) → same m l ≡ true → depth (shown registry l (of k)) ≤ depth (shown registry m (of k)))
      → ((x : Tree) → same x w ≡ true → depth (shown registry w (of v)) ≤ depth (shown registry x (of v))) → has_pair ps l w ≡ true
      → depth (array (item (shown registry l (of k)) (item (shown registry w (of v)) no_items))) ≤ items_depth (shown_pairs registry ps k v)
  matched k v l w no_pairs f g h = absurd (false≢true h)
  matched k v l w (pair m x ps) f g h =
      let one : Data = array (item (shown registry m (of k)) (item (shown registry x (of v)) no_items)) in
      let others : ℕ = items_depth (shown_pairs registry ps k v) in
      elim (or_cases (same m l && same x w) (has_pair ps l w) h) [
        | inl here ↦
            (let low = pair_under (shown registry l (of k)) (shown registry w (of v)) (shown registry m (of k)) (shown registry x (of v)) (f m (and_left _ _ here)) (g x (and_right (same m l) _ here)) in
            omega (arith, low, le-max_left (depth one) others))
        | inr there ↦ omega (arith, matched k v l w ps f g there, le-max_right (depth one) others)
      ]

  mutual
    same_depth : (c v : Tree) (f : JsonContent) → has_names f ≡ true → same v c ≡ true → depth (shown registry c f) ≤ depth (shown registry v f)
    same_depth tree.unit tree.unit f names h = omega arith
    same_depth (tree.truth b) (tree.truth a) (of shape.truth) names h = omega arith
    same_depth (tree.truth b) (tree.truth a) f names h = omega arith
    same_depth (tree.unsigned n) (tree.unsigned m) (of (shape.unsigned w)) names h = leaf_depth (is_wide w) (decimal n) (decimal m) (number (whole n)) (number (whole m)) (omega arith)
    same_depth (tree.unsigned n) (tree.unsigned m) f names h = omega arith
    same_depth (tree.signed z) (tree.signed y) (of (shape.signed w)) names h = leaf_depth (is_wide w) (signed_decimal z) (signed_decimal y) (number (of_integer z)) (number (of_integer y)) (omega arith)
    same_depth (tree.signed z) (tree.signed y) f names h = omega arith
    same_depth (tree.text s) (tree.text r) (of shape.text) names h = omega arith
    same_depth (tree.text s) (tree.text r) f names h = omega arith
    same_depth (tree.bytes s) (tree.bytes r) (of shape.bytes) names h = omega arith
    same_depth (tree.bytes s) (tree.bytes r) f names h = omega arith
    same_depth tree.absent tree.absent f names h = omega arith
    same_depth (tree.present c) (tree.present v) (of (shape.option s)) names h =
        omega (arith, both_under (depth (shown registry c (of s))) 0 (depth (shown registry v (of s))) 0 (same_depth c v (of s) refl h) (omega arith))
    same_depth (tree.present c) (tree.present v) f names h = omega arith
    same_depth (tree.items ts) (tree.items us) (of (shape.seq s)) names h =
        text_or_array (is_byte s) (encode_lower (trees_bytes ts)) (encode_lower (trees_bytes us)) (shown_all registry ts s) (shown_all registry us s) (all_depth ts us s h)
    same_depth (tree.items ts) (tree.items us) (of (shape.tuple ss)) names h = omega (arith, each_depth ts us ss h)
    same_depth (tree.items ts) (tree.items us) (of (shape.array s n)) names h =
        text_or_array (is_byte s) (encode_lower (trees_bytes ts)) (encode_lower (trees_bytes us)) (shown_all registry ts s) (shown_all registry us s) (all_depth ts us s h)
    same_depth (tree.items ts) (tree.items us) (fields fs) names h = omega (arith, fields_depth ts us fs names h)
    same_depth (tree.items ts) (tree.items us) f names h = omega arith
    same_depth (tree.variant n c) (tree.variant m v) (one_of cs) names h =
        let number : m ≡ n = nat-same m n (and_left (m == n) (same v c) h) in
        let low = choice_depth (shown registry c) (shown registry v) (choice_numbered n cs)
        (λ p found. same_depth c v (payload_content p.1) (payload_names_differ n cs p names found) (and_right (m == n) (same v c) h)) in
        subst (λ i. depth (shown_choice (shown registry c) (choice_numbered n cs)) ≤ depth (shown_choice (shown registry v) (choice_numbered i cs))) (sym number) low
    same_depth (tree.variant n c) (tree.variant m v) f names h = omega arith
    same_depth (tree.pairs qs) (tree.pairs ps) (of (shape.map k v)) names h = omega (arith, pairs_depth qs ps k v (and_right (is_within ps qs) _ h))
    same_depth (tree.pairs qs) (tree.pairs ps) f names h = omega arith
    same_depth (tree.named c) (tree.named v) (of (shape.name n)) names h = same_depth c v (json_content_at n registry) (well_formed_names n registry well) h
    same_depth (tree.named c) (tree.named v) f names h = omega arith
    same_depth _ _ f names h = absurd (false≢true h)

    all_depth : (ts us : Trees) (s : Shape) → all_same us ts ≡ true → items_depth (shown_all registry ts s) ≤ items_depth (shown_all registry us s)
    all_depth no_trees us s h = omega arith
    all_depth (tree t ts) (tree u us) s h =
        both_under (depth (shown registry t (of s))) (items_depth (shown_all registry ts s)) (depth (shown registry u (of s))) (items_depth (shown_all registry us s))
        (same_depth t u (of s) refl (and_left _ _ h)) (all_depth ts us s (and_right (same u t) _ h))
    all_depth (tree t ts) no_trees s h = absurd (false≢true h)

    each_depth : (ts us : Trees) (ss : Shapes) → all_same us ts ≡ true → items_depth (shown_each registry ts ss) ≤ items_depth (shown_each registry us ss)
    each_depth (tree t ts) (tree u us) (shape s ss) h =
        both_under (depth (shown registry t (of s))) (items_depth (shown_each registry ts ss)) (depth (shown registry u (of s))) (items_depth (shown_each registry us ss))
        (same_depth t u (of s) refl (and_left _ _ h)) (each_depth ts us ss (and_right (same u t) _ h))
    each_depth no_trees us ss h = omega arith
    each_depth (tree t ts) us no_shapes h = omega arith
    each_depth (tree t ts) no_trees (shape s ss) h = absurd (false≢true h)

    pairs_depth : (qs ps : Pairs) (k v : Shape) → all_pairs (has_pair ps) qs ≡ true → items_depth (shown_pairs registry qs k v) ≤ items_depth (shown_pairs registry ps k v)
    pairs_depth no_pairs ps k v h = omega arith
    pairs_depth (pair l w qs) ps k v h =
        max-le (matched k v l w ps (λ m. same_depth l m (of k) refl) (λ x. same_depth w x (of v) refl) (and_left _ _ h)) (pairs_depth qs ps k v (and_right (has_pair ps l w) _ h))

    fields_depth : (ts us : Trees) (fs : List Field) → has_names (fields fs) ≡ true → all_same us ts ≡ true → members_depth (shown_fields registry ts fs) ≤ members_depth (shown_fields registry us fs)
    fields_depth (tree t ts) (tree u us) (f ∷ fs) names h =
        put_under f.0 (shown registry t (of f.1)) (shown_fields registry ts fs) (shown registry u (of f.1)) (shown_fields registry us fs) (new_field registry f us fs (and_left _ _ names))
        (same_depth t u (of f.1) refl (and_left _ _ h)) (fields_depth ts us fs (ap (λ b. b && true) (later_names f fs (and_left _ _ names))) (and_right (same u t) _ h))
    fields_depth no_trees us fs names h = omega arith
    fields_depth (tree t ts) us [] names h = omega arith
    fields_depth (tree t ts) no_trees (f ∷ fs) names h = absurd (false≢true h)

pub shown_is_read_back : ShownIsReadBack
shown_is_read_back registry s c well orderly fit = record {
  spells = spelled_back registry s c well fit;
  lowest = λ v j alike w. omega (arith, same_depth registry well c v (of s) refl alike, shown_is_lowest registry s j v orderly w);
}
