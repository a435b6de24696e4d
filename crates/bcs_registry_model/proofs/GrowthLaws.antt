-- What a registry keeps when it grows.
use Rattle.bcs_registry_model.proofs.Prelude.{◌≡◌, ℕ, List, [], ◌∷◌, Option, Some, None, is_some, Bool, true, false, cond, ◌==◌, All, refl, sym, ap, subst, ◌∙◌, lookup, option_map_or, bytes_eq, false≢true, and_parts, and_from, Decides-eqb, All-head, All-tail, none-some, same_Some, bytes_eq-Decides, Shape, Shapes, no_shapes, shape, Payload, Choice, Container, unit_struct, newtype_struct, tuple_struct, field_struct, enumeration, Entries, Content, of, one_of, nothing, container_at, choice_numbered, content, content_at, choice_at, payload_shape, HasChoice, GrowsTo, HasContainer, Grows, GrowthKeepsAdmitting, has_few_levels, is_known, are_known}
use Rattle.bcs_registry_model.specs.Shape as shape

-- if P holds for all entries, it holds for the one that a look-up finds, with a key that passes the test
found_in : {K X : Type 0} (test : K → Bool) (P : K × X → Type 0) (xs : List (K × X)) (x : X) → All P xs → lookup test xs ≡ Some x → (k : K) × (test k ≡ true) × P (k, x)
found_in {K = K} test P [] x h found = absurd (none-some x found)
found_in {K = K} test P (e ∷ xs) x h found = elim (test e.0) as (λ b. test e.0 ≡ b → cond b (Some e.1) (lookup test xs) ≡ Some x → (k : K) × (test k ≡ true) × P (k, x)) [
  | true ↦ λ passes is. (e.0, passes, subst (λ y. P (e.0, y)) (same_Some e.1 x is) (All-head P e xs h))
  | false ↦ λ fails rest. found_in test P xs x (All-tail P e xs h) rest
] refl found

-- each container of the older registry is in the newer one, possibly grown
pub container_at-grows : (older newer : Entries) → Grows older newer → (n : List ℕ) (c : Container) → container_at n older ≡ Some c → (d : Container) × (container_at n newer ≡ Some d) × GrowsTo c d
container_at-grows older newer grows n c found =
    let there = found_in (bytes_eq n) (HasContainer newer) older c grows found in
    let named : n ≡ there.0 = (bytes_eq-Decides n there.0).0 there.1 in
    (there.2.0, ap (λ m. container_at m newer) named ∙ there.2.1, there.2.2)

-- the newer variants include all older ones
abbrev pub HasChoices : List Choice → List Choice → Type 0
HasChoices cs ds = (n : ℕ) (v : List ℕ × Payload) → choice_numbered n cs ≡ Some v → choice_numbered n ds ≡ Some v

pub has_choices : (cs ds : List Choice) → All (HasChoice ds) cs → HasChoices cs ds
has_choices cs ds all n v found =
    let there = found_in (λ m. m == n) (HasChoice ds) cs v all found in
    let numbered : there.0 ≡ n = (Decides-eqb there.0 n).0 there.1 in
    ap (λ m. choice_numbered m ds) (sym numbered) ∙ there.2

-- the relation between the older and the newer content
abbrev pub StaysIn : Content → Content → Type 0
StaysIn (of s) (of t) = s ≡ t
StaysIn (one_of cs) (one_of ds) = HasChoices cs ds
StaysIn nothing d = Unit {0}
StaysIn _ _ = ⊥

content_stays : (c d : Container) → GrowsTo c d → StaysIn (content c) (content d)
content_stays unit_struct d h = subst (λ x. StaysIn (content unit_struct) (content x)) h refl
content_stays (newtype_struct s) d h = subst (λ x. StaysIn (content (newtype_struct s)) (content x)) h refl
content_stays (tuple_struct ss) d h = subst (λ x. StaysIn (content (tuple_struct ss)) (content x)) h refl
content_stays (field_struct fs) d h = subst (λ x. StaysIn (content (field_struct fs)) (content x)) h refl
content_stays (enumeration cs) (enumeration ds) h = has_choices cs ds h
content_stays (enumeration cs) _ h = absurd cc

looked_up_stays : (o p : Option Container) → ((c : Container) → o ≡ Some c → (d : Container) × (p ≡ Some d) × GrowsTo c d) → StaysIn (option_map_or content o nothing) (option_map_or content p nothing)
looked_up_stays None p h = tt {0}
looked_up_stays (Some c) p h =
    let there = h c refl in
    subst (λ q. StaysIn (content c) (option_map_or content q nothing)) (sym there.1) (content_stays c there.0 there.2)

-- growth keeps the content of a container
pub content_at-grows : (older newer : Entries) → Grows older newer → (n : List ℕ) → StaysIn (content_at n older) (content_at n newer)
content_at-grows older newer grows n = looked_up_stays (container_at n older) (container_at n newer) (container_at-grows older newer grows n)

chosen_stays : (o p : Option (List ℕ × Payload)) → ((v : List ℕ × Payload) → o ≡ Some v → p ≡ Some v) → StaysIn (option_map_or (λ v. of (payload_shape v.1)) o nothing) (option_map_or (λ v. of (payload_shape v.1)) p nothing)
chosen_stays None p h = tt {0}
chosen_stays (Some v) p h = subst (λ q. StaysIn (of (payload_shape v.1)) (option_map_or (λ v. of (payload_shape v.1)) q nothing)) (sym (h v refl)) refl

-- growth keeps the content of a variant
pub choice_at-grows : (cs ds : List Choice) → HasChoices cs ds → (n : ℕ) → StaysIn (choice_at n cs) (choice_at n ds)
choice_at-grows cs ds has n = chosen_stays (choice_numbered n cs) (choice_numbered n ds) (has n)

known_stays : (o p : Option Container) → ((c : Container) → o ≡ Some c → (d : Container) × (p ≡ Some d) × GrowsTo c d) → is_some o ≡ true → is_some p ≡ true
known_stays None p h is = absurd (false≢true is)
known_stays (Some c) p h is = ap is_some (h c refl).1

module _ (older newer : Entries) (grows : Grows older newer) where
  mutual
    pub is_known-grows : (s : Shape) → is_known older s ≡ true → is_known newer s ≡ true
    is_known-grows (shape.name n) h = known_stays (container_at n older) (container_at n newer) (container_at-grows older newer grows n) h
    is_known-grows (shape.option s) h = is_known-grows s h
    is_known-grows (shape.seq s) h = is_known-grows s h
    is_known-grows (shape.map k v) h = and_from _ _ (is_known-grows k (and_parts _ _ h).0) (is_known-grows v (and_parts (is_known older k) _ h).1)
    is_known-grows (shape.tuple ss) h = are_known-grows ss h
    is_known-grows (shape.array s n) h = is_known-grows s h
    is_known-grows _ h = refl

    pub are_known-grows : (ss : Shapes) → are_known older ss ≡ true → are_known newer ss ≡ true
    are_known-grows no_shapes h = refl
    are_known-grows (shape s ss) h = and_from _ _ (is_known-grows s (and_parts _ _ h).0) (are_known-grows ss (and_parts (is_known older s) _ h).1)

pub growth_keeps_admitting_holds : GrowthKeepsAdmitting
growth_keeps_admitting_holds older newer s grows h =
    and_from (has_few_levels s) (is_known newer s) (and_parts (has_few_levels s) (is_known older s) h).0 (is_known-grows older newer grows s (and_parts (has_few_levels s) (is_known older s) h).1)
