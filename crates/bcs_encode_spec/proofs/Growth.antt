-- Bytes, canonical order and lengths stay the same when a registry grows.
use Rattle.bcs_encode_spec.proofs.Prelude.{◌≡◌, ℕ, true, false, ◌&&◌, ◌==◌, List, ◌∷◌, ◌++◌, Option, Some, None, refl, sym, ap, ap₂, subst, ◌∙◌, option_map_or, false≢true, and_parts, uleb, Shape, Shapes, no_shapes, shape, Payload, Choice, Entries, Content, of, one_of, nothing, payload_shape, choice_numbered, content_at, choice_at, Grows, HasChoices, StaysIn, content_at-grows, Tree, Trees, no_trees, tree, Pairs, no_pairs, pair, count, pair_count, fits, all_fit, each_fits, pairs_fit, payload_fits, fits-grows, plain, plain_items, plain_each, plain_pairs, lengths_hold, all_hold, each_holds, pairs_hold, Bounds, length_limit, IsSoundAt, IsForm, GrowthKeepsSoundness, GrowthKeepsBytes, GrowthKeepsOrder, GrowthKeepsEncodings, Below, Rises, RisesFrom, IsCanonical, AllCanonical, EachCanonical, PairsCanonical}
use Rattle.bcs_registry_model.specs.Shape as shape
use Rattle.bcs_value_model.specs.Tree as tree

nothing_fits : (registry : Entries) (t : Tree) → fits false registry t nothing ≡ true → ⊥
nothing_fits registry t h = absurd (false≢true h)

-- a variant that fits keeps its content
variant_stays : (registry : Entries) (t : Tree) (n : ℕ) (cs ds : List Choice) → HasChoices cs ds → fits false registry t (choice_at n cs) ≡ true
    → choice_at n ds ≡ choice_at n cs
variant_stays registry t n cs ds has h = found (choice_numbered n cs) (choice_numbered n ds) (has n) h
  where
    found : (o p : Option (List ℕ × Payload)) → ((v : List ℕ × Payload) → o ≡ Some v → p ≡ Some v)
        → fits false registry t (option_map_or (λ c. of (payload_shape c.1)) o nothing) ≡ true
        → option_map_or (λ c. of (payload_shape c.1)) p nothing ≡ option_map_or (λ c. of (payload_shape c.1)) o nothing
    found None p h is = absurd (nothing_fits registry t is)
    found (Some v) p h is = ap (λ (q : Option (List ℕ × Payload)). option_map_or (λ c. of (payload_shape c.1)) q nothing) (h v refl)

-- a property of a fitting tree carries over to grown content if it does so between enums that agree on the variant
pub fitting_stays : (P : Tree → Content → Type 0)
    → ((n : ℕ) (u : Tree) (cs ds : List Choice) → choice_at n ds ≡ choice_at n cs → P (tree.variant n u) (one_of cs) → P (tree.variant n u) (one_of ds))
    → (registry : Entries) (t : Tree) (f g : Content) → StaysIn f g → fits false registry t f ≡ true → P t f → P t g
fitting_stays P between registry t (of s) (of u) e h p = subst (λ (x : Shape). P t (of x)) e p
fitting_stays P between registry t (of s) (one_of ds) e h p = absurd e
fitting_stays P between registry t (of s) nothing e h p = absurd e
fitting_stays P between registry (tree.variant n u) (one_of cs) (one_of ds) e h p = between n u cs ds (variant_stays registry u n cs ds e (payload_fits false registry n u cs h)) p
fitting_stays P between registry t (one_of cs) (of s) e h p = absurd e
fitting_stays P between registry t (one_of cs) nothing e h p = absurd e
fitting_stays P between registry _ _ _ e h p = absurd (search (false≢true))

-- unchanged content counts as grown
pub stays_alike : (f : Content) → StaysIn f f
stays_alike (of s) = refl
stays_alike (one_of cs) = λ n v is. is
stays_alike nothing = tt

module _ (older newer : Entries) (grows : Grows older newer) where
  -- ---- bytes
  mutual
    pub plain_newer : (t : Tree) (f : Content) → fits false older t f ≡ true → plain newer t f ≡ plain older t f
    plain_newer (tree.present t) (of (shape.option s)) h = ap (λ (b : List ℕ). 1 ∷ b) (plain_newer t (of s) h)
    plain_newer (tree.items ts) (of (shape.seq s)) h = ap (λ (b : List ℕ). uleb (count ts) ++ b) (plain_items_newer ts s h)
    plain_newer (tree.items ts) (of (shape.tuple ss)) h = plain_each_newer ts ss h
    plain_newer (tree.items ts) (of (shape.array s n)) h = plain_items_newer ts s (and_parts (count ts == n) (all_fit false older ts s) h).1
    plain_newer (tree.pairs ps) (of (shape.map k v)) h = ap (λ (b : List ℕ). uleb (pair_count ps) ++ b) (plain_pairs_newer ps k v h)
    plain_newer (tree.named t) (of (shape.name n)) h =
        fitting_stays (λ u g. plain newer u g ≡ plain older t (content_at n older)) (λ m u cs ds is p. ap (λ (g : Content). uleb m ++ plain newer u g) is ∙ p)
        older t (content_at n older) (content_at n newer) (content_at-grows older newer grows n) h (plain_newer t (content_at n older) h)
    plain_newer (tree.variant n t) (one_of cs) h = ap (λ (b : List ℕ). uleb n ++ b) (plain_newer t (choice_at n cs) (payload_fits false older n t cs h))
    plain_newer _ _ h = refl

    plain_items_newer : (ts : Trees) (s : Shape) → all_fit false older ts s ≡ true → plain_items newer ts s ≡ plain_items older ts s
    plain_items_newer no_trees s h = refl
    plain_items_newer (tree t ts) s h =
        let p = and_parts (fits false older t (of s)) (all_fit false older ts s) h in
        ap₂ (λ (a b : List ℕ). a ++ b) (plain_newer t (of s) p.0) (plain_items_newer ts s p.1)

    plain_each_newer : (ts : Trees) (ss : Shapes) → each_fits false older ts ss ≡ true → plain_each newer ts ss ≡ plain_each older ts ss
    plain_each_newer (tree t ts) (shape s ss) h =
        let p = and_parts (fits false older t (of s)) (each_fits false older ts ss) h in
        ap₂ (λ (a b : List ℕ). a ++ b) (plain_newer t (of s) p.0) (plain_each_newer ts ss p.1)
    plain_each_newer _ _ h = refl

    plain_pairs_newer : (ps : Pairs) (f g : Shape) → pairs_fit false older ps f g ≡ true → plain_pairs newer ps f g ≡ plain_pairs older ps f g
    plain_pairs_newer no_pairs f g h = refl
    plain_pairs_newer (pair k v ps) f g h =
        let p = and_parts (fits false older k (of f) && fits false older v (of g)) (pairs_fit false older ps f g) h in
        let q = and_parts (fits false older k (of f)) (fits false older v (of g)) p.0 in
        ap₂ (λ (a b : List ℕ). a ++ b) (plain_newer k (of f) q.0) (ap₂ (λ (a b : List ℕ). a ++ b) (plain_newer v (of g) q.1) (plain_pairs_newer ps f g p.1))

  -- ---- canonical order
  rises_from_newer : (b c : List ℕ) (ps : Pairs) (f g : Shape) → c ≡ b → pairs_fit false older ps f g ≡ true → RisesFrom older b ps f → RisesFrom newer c ps f
  rises_from_newer b c no_pairs f g e h r = tt
  rises_from_newer b c (pair k v ps) f g e h r =
      let p = and_parts (fits false older k (of f) && fits false older v (of g)) (pairs_fit false older ps f g) h in
      let q = and_parts (fits false older k (of f)) (fits false older v (of g)) p.0 in
      let is = plain_newer k (of f) q.0 in
      (subst (λ (x : List ℕ). Below x (plain newer k (of f))) (sym e) (subst (λ (x : List ℕ). Below b x) (sym is) r.0), rises_from_newer (plain older k (of f)) (plain newer k (of f)) ps f g is p.1 r.1)

  rises_newer : (ps : Pairs) (f g : Shape) → pairs_fit false older ps f g ≡ true → Rises older ps f → Rises newer ps f
  rises_newer no_pairs f g h r = tt
  rises_newer (pair k v ps) f g h r =
      let p = and_parts (fits false older k (of f) && fits false older v (of g)) (pairs_fit false older ps f g) h in
      let q = and_parts (fits false older k (of f)) (fits false older v (of g)) p.0 in
      rises_from_newer (plain older k (of f)) (plain newer k (of f)) ps f g (plain_newer k (of f) q.0) p.1 r

  mutual
    pub canonical_newer : (t : Tree) (f : Content) → fits false older t f ≡ true → IsCanonical older t f → IsCanonical newer t f
    canonical_newer (tree.present t) (of (shape.option s)) h c = canonical_newer t (of s) h c
    canonical_newer (tree.items ts) (of (shape.seq s)) h c = all_canonical_newer ts s h c
    canonical_newer (tree.items ts) (of (shape.tuple ss)) h c = each_canonical_newer ts ss h c
    canonical_newer (tree.items ts) (of (shape.array s n)) h c = all_canonical_newer ts s (and_parts (count ts == n) (all_fit false older ts s) h).1 c
    canonical_newer (tree.pairs ps) (of (shape.map k v)) h c = (rises_newer ps k v h c.0, pairs_canonical_newer ps k v h c.1)
    canonical_newer (tree.named t) (of (shape.name n)) h c =
        fitting_stays (λ u g. IsCanonical newer u g) (λ m u cs ds is p. subst (λ (g : Content). IsCanonical newer u g) (sym is) p)
        older t (content_at n older) (content_at n newer) (content_at-grows older newer grows n) h (canonical_newer t (content_at n older) h c)
    canonical_newer (tree.variant n t) (one_of cs) h c = canonical_newer t (choice_at n cs) (payload_fits false older n t cs h) c
    canonical_newer _ _ h c = tt

    all_canonical_newer : (ts : Trees) (s : Shape) → all_fit false older ts s ≡ true → AllCanonical older ts s → AllCanonical newer ts s
    all_canonical_newer no_trees s h c = tt
    all_canonical_newer (tree t ts) s h c =
        let p = and_parts (fits false older t (of s)) (all_fit false older ts s) h in
        (canonical_newer t (of s) p.0 c.0, all_canonical_newer ts s p.1 c.1)

    each_canonical_newer : (ts : Trees) (ss : Shapes) → each_fits false older ts ss ≡ true → EachCanonical older ts ss → EachCanonical newer ts ss
    each_canonical_newer (tree t ts) (shape s ss) h c =
        let p = and_parts (fits false older t (of s)) (each_fits false older ts ss) h in
        (canonical_newer t (of s) p.0 c.0, each_canonical_newer ts ss p.1 c.1)
    each_canonical_newer _ _ h c = tt

    pairs_canonical_newer : (ps : Pairs) (f g : Shape) → pairs_fit false older ps f g ≡ true → PairsCanonical older ps f g → PairsCanonical newer ps f g
    pairs_canonical_newer no_pairs f g h c = tt
    pairs_canonical_newer (pair k v ps) f g h c =
        let p = and_parts (fits false older k (of f) && fits false older v (of g)) (pairs_fit false older ps f g) h in
        let q = and_parts (fits false older k (of f)) (fits false older v (of g)) p.0 in
        (canonical_newer k (of f) q.0 c.0, canonical_newer v (of g) q.1 c.1, pairs_canonical_newer ps f g p.1 c.2)

  -- ---- lengths
  module _ (limit : ℕ) where
    mutual
      pub lengths_newer : (t : Tree) (f : Content) → fits false older t f ≡ true → lengths_hold limit newer t f ≡ lengths_hold limit older t f
      lengths_newer (tree.present t) (of (shape.option s)) h = lengths_newer t (of s) h
      lengths_newer (tree.items ts) (of (shape.seq s)) h = rw (all_hold_newer ts s h) refl
      lengths_newer (tree.items ts) (of (shape.tuple ss)) h = each_holds_newer ts ss h
      lengths_newer (tree.items ts) (of (shape.array s n)) h = all_hold_newer ts s (and_parts (count ts == n) (all_fit false older ts s) h).1
      lengths_newer (tree.pairs ps) (of (shape.map k v)) h = rw (pairs_hold_newer ps k v h) refl
      lengths_newer (tree.named t) (of (shape.name n)) h =
          fitting_stays (λ u g. lengths_hold limit newer u g ≡ lengths_hold limit older t (content_at n older)) (λ m u cs ds is p. ap (λ (g : Content). lengths_hold limit newer u g) is ∙ p)
          older t (content_at n older) (content_at n newer) (content_at-grows older newer grows n) h (lengths_newer t (content_at n older) h)
      lengths_newer (tree.variant n t) (one_of cs) h = lengths_newer t (choice_at n cs) (payload_fits false older n t cs h)
      lengths_newer _ _ h = refl

      all_hold_newer : (ts : Trees) (s : Shape) → all_fit false older ts s ≡ true → all_hold limit newer ts s ≡ all_hold limit older ts s
      all_hold_newer no_trees s h = refl
      all_hold_newer (tree t ts) s h =
          let p = and_parts (fits false older t (of s)) (all_fit false older ts s) h in
          rw (lengths_newer t (of s) p.0, all_hold_newer ts s p.1) refl

      each_holds_newer : (ts : Trees) (ss : Shapes) → each_fits false older ts ss ≡ true → each_holds limit newer ts ss ≡ each_holds limit older ts ss
      each_holds_newer (tree t ts) (shape s ss) h =
          let p = and_parts (fits false older t (of s)) (each_fits false older ts ss) h in
          rw (lengths_newer t (of s) p.0, each_holds_newer ts ss p.1) refl
      each_holds_newer _ _ h = refl

      pairs_hold_newer : (ps : Pairs) (f g : Shape) → pairs_fit false older ps f g ≡ true → pairs_hold limit newer ps f g ≡ pairs_hold limit older ps f g
      pairs_hold_newer no_pairs f g h = refl
      pairs_hold_newer (pair k v ps) f g h =
          let p = and_parts (fits false older k (of f) && fits false older v (of g)) (pairs_fit false older ps f g) h in
          let q = and_parts (fits false older k (of f)) (fits false older v (of g)) p.0 in
          rw (lengths_newer k (of f) q.0, lengths_newer v (of g) q.1, pairs_hold_newer ps f g p.1) refl

-- ---- the laws

sound_newer : (older newer : Entries) (limits : Bounds) (f : Content) (t : Tree) → Grows older newer → IsSoundAt older limits f t → IsSoundAt newer limits f t
sound_newer older newer limits f t grows h = record {
  fit = fits-grows false older newer grows t f h.fit f (stays_alike f);
  distinct = h.distinct;
  depth_holds = h.depth_holds;
  nodes_hold = h.nodes_hold;
  lengths = lengths_newer older newer grows length_limit t f h.fit ∙ h.lengths;
}

form_newer : (older newer : Entries) (f : Content) (t c : Tree) → Grows older newer → IsForm older f t c → IsForm newer f t c
form_newer older newer f t c grows p = record {
  fit = fits-grows false older newer grows c f p.fit f (stays_alike f);
  canonical = canonical_newer older newer grows c f p.fit p.canonical;
  is_same = p.is_same;
}

pub keeps_soundness : GrowthKeepsSoundness
keeps_soundness = λ older newer limits f t grows h. sound_newer older newer limits f t grows h

pub keeps_bytes : GrowthKeepsBytes
keeps_bytes = λ older newer f t grows h. plain_newer older newer grows t f h

pub keeps_order : GrowthKeepsOrder
keeps_order = λ older newer f t grows h c. canonical_newer older newer grows t f h c

pub keeps_encodings : GrowthKeepsEncodings
keeps_encodings = λ older newer limits s t b grows p. record {
  sound = sound_newer older newer limits (of s) t grows p.sound;
  form = p.form;
  is_form = form_newer older newer (of s) t p.form grows p.is_form;
  bytes = plain_newer older newer grows p.form (of s) p.is_form.fit ∙ p.bytes;
}
