-- A value is printed the same in every registry that its registry grows to.
use Rattle.bcs_json_spec.proofs.Prelude.{◌≡◌, ◌∙◌, ℕ, ◌^◌, nat_lt, List, ◌∷◌, codes, ◌==◌, ◌&&◌, Option, Some, None, true, false, if◌then◌else◌, refl, ap, ap₂, sym, subst, false≢true, option_map_or, encode_lower, Data, string, array, object, Items, no_items, item, Members, put, Container, unit_struct, newtype_struct, tuple_struct, field_struct, enumeration, Field, Payload, newtype, tuple, Choice, Entries, container_at, choice_numbered, choice_at, payload_shape, field_shapes, GrowsTo, Grows, Shape, Shapes, shape, HasChoices, has_choices, container_at-grows, single, fits, all_fit, each_fits, pairs_fit, Tree, Trees, no_trees, tree, Pairs, no_pairs, pair, count, is_byte, trees_bytes, JsonContent, of, fields, one_of, nothing, json_content, json_content_at, payload_content, GrowthKeepsShowing, shown, shown_all, shown_each, shown_pairs, shown_fields, shown_choice}
use Rattle.bcs_registry_model.specs.Container as container
use Rattle.bcs_registry_model.specs.Shape as shape
use Rattle.bcs_value_model.specs.Tree as tree
use Rattle.bcs_json_spec.proofs.Unnamed.{unnamed, unnamed_at, unnamed_payload}
use Rattle.bcs_json_spec.proofs.Fitting.{and_left, and_right}

-- ---- contents in a registry that grew

-- an older content and the newer one
abbrev pub StaysNamed : JsonContent → JsonContent → Type 0
StaysNamed (of s) (of u) = s ≡ u
StaysNamed (fields fs) (fields gs) = fs ≡ gs
StaysNamed (one_of cs) (one_of ds) = HasChoices cs ds
StaysNamed nothing g = Unit {0}
StaysNamed _ _ = ⊥

content_stays : (c d : Container) → GrowsTo c d → StaysNamed (json_content c) (json_content d)
content_stays unit_struct d h = subst (λ x. StaysNamed (json_content unit_struct) (json_content x)) h refl
content_stays (newtype_struct s) d h = subst (λ x. StaysNamed (json_content (newtype_struct s)) (json_content x)) h refl
content_stays (tuple_struct ss) d h = subst (λ x. StaysNamed (json_content (tuple_struct ss)) (json_content x)) h refl
content_stays (field_struct fs) d h = subst (λ x. StaysNamed (json_content (field_struct fs)) (json_content x)) h refl
content_stays (enumeration cs) (enumeration ds) h = has_choices cs ds h
content_stays (enumeration cs) _ h = absurd cc

looked_up_stays : (o p : Option Container) → ((c : Container) → o ≡ Some c → (d : Container) × (p ≡ Some d) × GrowsTo c d)
    → StaysNamed (option_map_or json_content o nothing) (option_map_or json_content p nothing)
looked_up_stays None p h = tt {0}
looked_up_stays (Some c) p h =
    let there = h c refl in
    subst (λ q. StaysNamed (json_content c) (option_map_or json_content q nothing)) (sym there.1) (content_stays c there.0 there.2)

-- the content of a container stays, with its names
pub json_content_at-grows : (older newer : Entries) → Grows older newer → (n : List ℕ) → StaysNamed (json_content_at n older) (json_content_at n newer)
json_content_at-grows older newer grows n = looked_up_stays (container_at n older) (container_at n newer) (container_at-grows older newer grows n)

-- ---- contents that stay

-- the variant of a tree is the same as before
pub same_variant : (registry : Entries) (t : Tree) (o p : Option (List ℕ × Payload)) → ((v : List ℕ × Payload) → o ≡ Some v → p ≡ Some v)
    → fits false registry t (option_map_or (λ c. container.of (payload_shape c.1)) o container.nothing) ≡ true → p ≡ o
same_variant registry t None p h fit = absurd (false≢true fit)
same_variant registry t (Some v) p h fit = h v refl

-- a fitting tree is printed the same for a content that stays
shown_stays : (older registry : Entries) (t : Tree) (f g : JsonContent) → StaysNamed f g → fits false older t (unnamed f) ≡ true → shown registry t g ≡ shown registry t f
shown_stays older registry t (of s) (of u) e h = ap (λ (x : Shape). shown registry t (of x)) (sym e)
shown_stays older registry t (fields fs) (fields gs) e h = ap (λ (x : List Field). shown registry t (fields x)) (sym e)
shown_stays older registry (tree.variant n t) (one_of cs) (one_of ds) e h =
    ap (shown_choice (shown registry t)) (same_variant older t (choice_numbered n cs) (choice_numbered n ds) (e n) (and_right (nat_lt n (2 ^ 32)) _ h))
shown_stays older registry _ (one_of cs) (one_of ds) e h = refl
shown_stays older registry t nothing g e h = absurd (false≢true h)
shown_stays older registry t _ _ e h = absurd e

-- ---- trees

choice_same : (show other : JsonContent → Data) (o : Option (List ℕ × Payload)) → ((p : List ℕ × Payload) → o ≡ Some p → show (payload_content p.1) ≡ other (payload_content p.1))
    → shown_choice show o ≡ shown_choice other o
choice_same show other None h = refl
choice_same show other (Some (name, container.unit)) h = refl
choice_same show other (Some (name, newtype s)) h = ap (single name) (h (name, newtype s) refl)
choice_same show other (Some (name, tuple ss)) h = ap (single name) (h (name, tuple ss) refl)
choice_same show other (Some (name, container.fields fs)) h = ap (single name) (h (name, container.fields fs) refl)

-- the payload of an existing variant fits
fit_payload : (registry : Entries) (n : ℕ) (t : Tree) (cs : List Choice) (p : List ℕ × Payload) → fits false registry t (choice_at n cs) ≡ true → choice_numbered n cs ≡ Some p
    → fits false registry t (unnamed (payload_content p.1)) ≡ true
fit_payload registry n t cs p h found =
    ap (fits false registry t) (unnamed_payload p.1)
    ∙ ap (λ (o : Option (List ℕ × Payload)). fits false registry t (option_map_or (λ c. container.of (payload_shape c.1)) o container.nothing)) (sym found) ∙ h

module _ (older newer : Entries) (grows : Grows older newer) where
  mutual
    pub shown_newer : (t : Tree) (f : JsonContent) → fits false older t (unnamed f) ≡ true → shown newer t f ≡ shown older t f
    shown_newer (tree.present t) (of (shape.option s)) h = ap (single (codes "some")) (shown_newer t (of s) h)
    shown_newer (tree.items ts) (of (shape.seq s)) h = ap (λ ds. if is_byte s then string (encode_lower (trees_bytes ts)) else array ds) (all_newer ts s h)
    shown_newer (tree.items ts) (of (shape.tuple ss)) h = ap array (each_newer ts ss h)
    shown_newer (tree.items ts) (of (shape.array s n)) h =
        ap (λ ds. if is_byte s then string (encode_lower (trees_bytes ts)) else array ds) (all_newer ts s (and_right (count ts == n) _ h))
    shown_newer (tree.items ts) (fields fs) h = ap object (fields_newer ts fs h)
    shown_newer (tree.pairs ps) (of (shape.map k v)) h = ap array (pairs_newer ps k v h)
    shown_newer (tree.variant n t) (one_of cs) h =
        choice_same (shown newer t) (shown older t) (choice_numbered n cs)
        (λ p found. shown_newer t (payload_content p.1) (fit_payload older n t cs p (and_right (nat_lt n (2 ^ 32)) _ h) found))
    shown_newer (tree.named t) (of (shape.name n)) h =
        let fit : fits false older t (unnamed (json_content_at n older)) ≡ true = ap (fits false older t) (unnamed_at n older) ∙ h in
        shown_stays older newer t (json_content_at n older) (json_content_at n newer) (json_content_at-grows older newer grows n) fit
        ∙ shown_newer t (json_content_at n older) fit
    shown_newer _ _ h = refl

    all_newer : (ts : Trees) (s : Shape) → all_fit false older ts s ≡ true → shown_all newer ts s ≡ shown_all older ts s
    all_newer no_trees s h = refl
    all_newer (tree t ts) s h =
        ap₂ (λ (d : Data) (ds : Items). item d ds) (shown_newer t (of s) (and_left _ _ h)) (all_newer ts s (and_right (fits false older t (container.of s)) _ h))

    each_newer : (ts : Trees) (ss : Shapes) → each_fits false older ts ss ≡ true → shown_each newer ts ss ≡ shown_each older ts ss
    each_newer (tree t ts) (shape s ss) h =
        ap₂ (λ (d : Data) (ds : Items). item d ds) (shown_newer t (of s) (and_left _ _ h)) (each_newer ts ss (and_right (fits false older t (container.of s)) _ h))
    each_newer _ _ h = refl

    pairs_newer : (ps : Pairs) (k v : Shape) → pairs_fit false older ps k v ≡ true → shown_pairs newer ps k v ≡ shown_pairs older ps k v
    pairs_newer no_pairs k v h = refl
    pairs_newer (pair l w ps) k v h =
        let here = and_left (fits false older l (container.of k) && fits false older w (container.of v)) _ h in
        let entry : array (item (shown newer l (of k)) (item (shown newer w (of v)) no_items)) ≡ array (item (shown older l (of k)) (item (shown older w (of v)) no_items)) =
        ap₂ (λ (a b : Data). array (item a (item b no_items))) (shown_newer l (of k) (and_left _ _ here)) (shown_newer w (of v) (and_right (fits false older l (container.of k)) _ here)) in
        ap₂ (λ (d : Data) (ds : Items). item d ds) entry (pairs_newer ps k v (and_right (fits false older l (container.of k) && fits false older w (container.of v)) _ h))

    fields_newer : (ts : Trees) (fs : List Field) → each_fits false older ts (field_shapes fs) ≡ true → shown_fields newer ts fs ≡ shown_fields older ts fs
    fields_newer (tree t ts) (f ∷ fs) h =
        ap₂ (λ (d : Data) (ms : Members). put f.0 d ms) (shown_newer t (of f.1) (and_left _ _ h)) (fields_newer ts fs (and_right (fits false older t (container.of f.1)) _ h))
    fields_newer _ _ h = refl

pub growth_keeps_showing : GrowthKeepsShowing
growth_keeps_showing older newer s t grows h = shown_newer older newer grows t (of s) h
