-- Canonical trees that are the same are equal.
use Rattle.bcs_encode_spec.proofs.Prelude.{◌≡◌, ℕ, Bool, true, false, ◌&&◌, ◌==◌, List, refl, sym, ap, ap₂, subst, ◌∙◌, inl, inr, false≢true, and_parts, or_cases, Tree, Trees, no_trees, tree, Pairs, no_pairs, pair, count, pair_count, Shape, Shapes, no_shapes, shape, Entries, Content, of, one_of, content_at, choice_at, fits, all_fit, each_fits, pairs_fit, payload_fits, plain, same, all_same, is_within, has_pair, any_pair, all_pairs, Below, Rises, RisesFrom, IsCanonical, AllCanonical, EachCanonical, PairsCanonical, IsEntry, nat-same, bytes-same, int-same, both-same, any_found}
use Rattle.bcs_value_model.specs.Tree as tree
use Rattle.bcs_registry_model.specs.Shape as shape
use Rattle.bcs_encode_spec.proofs.BelowLaws.{Below-irrefl, Below-trans}

pub all_at : (test : Tree → Tree → Bool) (qs : Pairs) → all_pairs test qs ≡ true → (l w : Tree) → IsEntry l w qs → test l w ≡ true
all_at test no_pairs h l w m = absurd m
all_at test (pair k v qs) h l w (inl e) = let p = and_parts (test k v) (all_pairs test qs) h in rw (e.0, e.1) p.0
all_at test (pair k v qs) h l w (inr m) = let p = and_parts (test k v) (all_pairs test qs) h in all_at test qs p.1 l w m

module _ (registry : Entries) where
  pub fits_at : (ps : Pairs) (f g : Shape) → pairs_fit false registry ps f g ≡ true → (k v : Tree) → IsEntry k v ps
      → (fits false registry k (of f) ≡ true) × (fits false registry v (of g) ≡ true)
  fits_at no_pairs f g h k v m = absurd m
  fits_at (pair l w ps) f g h k v (inl e) =
      let p = and_parts (fits false registry l (of f) && fits false registry w (of g)) (pairs_fit false registry ps f g) h in
      let q = and_parts (fits false registry l (of f)) (fits false registry w (of g)) p.0 in
      (subst (λ (t : Tree). fits false registry t (of f) ≡ true) (sym e.0) q.0, subst (λ (t : Tree). fits false registry t (of g) ≡ true) (sym e.1) q.1)
  fits_at (pair l w ps) f g h k v (inr m) =
      let p = and_parts (fits false registry l (of f) && fits false registry w (of g)) (pairs_fit false registry ps f g) h in
      fits_at ps f g p.1 k v m

  pub canonical_at : (ps : Pairs) (f g : Shape) → PairsCanonical registry ps f g → (k v : Tree) → IsEntry k v ps
      → IsCanonical registry k (of f) × IsCanonical registry v (of g)
  canonical_at no_pairs f g h k v m = absurd m
  canonical_at (pair l w ps) f g h k v (inl e) = rw (e.0, e.1) (h.0, h.1)
  canonical_at (pair l w ps) f g h k v (inr m) = canonical_at ps f g h.2 k v m

  above : (ps : Pairs) (b : List ℕ) (f : Shape) → RisesFrom registry b ps f → (k v : Tree) → IsEntry k v ps → Below b (plain registry k (of f))
  above no_pairs b f h k v m = absurd m
  above (pair l w ps) b f h k v (inl e) = rw e.0 h.0
  above (pair l w ps) b f h k v (inr m) = Below-trans b (plain registry l (of f)) (plain registry k (of f)) h.0 (above ps (plain registry l (of f)) f h.1 k v m)

  pub rises_tail : (ps : Pairs) (b : List ℕ) (f : Shape) → RisesFrom registry b ps f → Rises registry ps f
  rises_tail no_pairs b f h = tt
  rises_tail (pair k v ps) b f h = h.1

  -- the first key doesn't occur again
  once : (ps : Pairs) (k : Tree) (f : Shape) → RisesFrom registry (plain registry k (of f)) ps f → (l v : Tree) → l ≡ k → IsEntry l v ps → ⊥
  once ps k f h l v e m =
      Below-irrefl (plain registry k (of f))
      (subst (λ (t : Tree). Below (plain registry k (of f)) (plain registry t (of f))) e (above ps (plain registry k (of f)) f h l v m))

  pub rising_alike : (f : Shape) (ps qs : Pairs) → Rises registry ps f → Rises registry qs f
      → ((k v : Tree) → IsEntry k v ps → IsEntry k v qs) → ((k v : Tree) → IsEntry k v qs → IsEntry k v ps) → ps ≡ qs
  rising_alike f no_pairs no_pairs h g to back = refl
  rising_alike f no_pairs (pair l w qs) h g to back = absurd (back l w (inl (refl, refl)))
  rising_alike f (pair k v ps) no_pairs h g to back = absurd (to k v (inl (refl, refl)))
  rising_alike f (pair k v ps) (pair l w qs) h g to back =
      elim (to k v (inl (refl, refl))) [
        | inl e ↦
            (let i = rising_alike f ps qs (rises_tail ps (plain registry k (of f)) f h) (rises_tail qs (plain registry l (of f)) f g)
            (λ m x a. elim (to m x (inr a)) [ inl d ↦ absurd (once ps k f h m x (d.0 ∙ sym e.0) a) | inr b ↦ b ])
            (λ m x a. elim (back m x (inr a)) [ inl d ↦ absurd (once qs l f g m x (d.0 ∙ e.0) a) | inr b ↦ b ]) in
            let p = e.0 in
            let q = e.1 in
            cc)
        | inr a ↦ elim (back l w (inl (refl, refl))) [
          | inl d ↦ absurd (once qs l f g k v (sym d.0) a)
          | inr b ↦ absurd (Below-irrefl (plain registry k (of f))
              (Below-trans (plain registry k (of f)) (plain registry l (of f)) (plain registry k (of f)) (above ps (plain registry k (of f)) f h l w b) (above qs (plain registry l (of f)) f g k v a)))
        ]
      ]

  mutual
    pub canonical_same : (a : Tree) (f : Content) (b : Tree) → fits false registry a f ≡ true → fits false registry b f ≡ true → IsCanonical registry a f
        → IsCanonical registry b f → same a b ≡ true → a ≡ b
    canonical_same tree.unit (of shape.unit) tree.unit h g c d e = refl
    canonical_same (tree.truth m) (of shape.truth) (tree.truth n) h g c d e = ap tree.truth (both-same m n e)
    canonical_same (tree.unsigned m) (of (shape.unsigned w)) (tree.unsigned n) h g c d e = ap tree.unsigned (nat-same m n e)
    canonical_same (tree.signed m) (of (shape.signed w)) (tree.signed n) h g c d e = ap tree.signed (int-same m n e)
    canonical_same (tree.text s) (of shape.text) (tree.text t) h g c d e = ap tree.text (bytes-same s t e)
    canonical_same (tree.bytes s) (of shape.bytes) (tree.bytes t) h g c d e = ap tree.bytes (bytes-same s t e)
    canonical_same tree.absent (of (shape.option f)) tree.absent h g c d e = refl
    canonical_same (tree.present a) (of (shape.option f)) (tree.present b) h g c d e = ap tree.present (canonical_same a (of f) b h g c d e)
    canonical_same (tree.items ts) (of (shape.seq f)) (tree.items us) h g c d e = ap tree.items (all_canonical ts f us h g c d e)
    canonical_same (tree.items ts) (of (shape.tuple fs)) (tree.items us) h g c d e = ap tree.items (each_canonical ts fs us h g c d e)
    canonical_same (tree.items ts) (of (shape.array f n)) (tree.items us) h g c d e =
        let p = and_parts (count ts == n) (all_fit false registry ts f) h in
        let q = and_parts (count us == n) (all_fit false registry us f) g in
        ap tree.items (all_canonical ts f us p.1 q.1 c d e)
    canonical_same (tree.variant m a) (one_of cs) (tree.variant n b) h g c d e =
        let p = and_parts (m == n) (same a b) e in
        let q : n ≡ m = sym (nat-same m n p.0) in
        let i = canonical_same a (choice_at m cs) b (payload_fits false registry m a cs h) (subst (λ (x : ℕ). fits false registry b (choice_at x cs) ≡ true) q (payload_fits false registry n b cs g)) c (subst (λ (x : ℕ). IsCanonical registry b (choice_at x cs)) q d) p.1 in
        cc
    canonical_same (tree.pairs ps) (of (shape.map k v)) (tree.pairs qs) h g c d e =
        let p = and_parts (is_within ps qs) (all_pairs (has_pair ps) qs) e in
        ap tree.pairs (rising_alike k ps qs c.0 d.0
        (within_members ps k v qs h g c.1 d.1 p.0)
        (λ l w m. let i = fits_at qs k v g l w m in let j = canonical_at qs k v d.1 l w m in had_members ps k v l w h i.0 i.1 c.1 j.0 j.1 (all_at (has_pair ps) qs p.1 l w m)))
    canonical_same (tree.named a) (of (shape.name n)) (tree.named b) h g c d e = ap tree.named (canonical_same a (content_at n registry) b h g c d e)
    canonical_same (tree.variant m a) (of shape.unit) b h g c d e = absurd cc
    canonical_same _ _ _ h g c d e = absurd (search (false≢true))

    each_canonical : (ts : Trees) (fs : Shapes) (us : Trees) → each_fits false registry ts fs ≡ true → each_fits false registry us fs ≡ true
        → EachCanonical registry ts fs → EachCanonical registry us fs → all_same ts us ≡ true → ts ≡ us
    each_canonical no_trees fs no_trees h g c d e = refl
    each_canonical (tree t ts) (shape f fs) (tree u us) h g c d e =
        let p = and_parts (fits false registry t (of f)) (each_fits false registry ts fs) h in
        let q = and_parts (fits false registry u (of f)) (each_fits false registry us fs) g in
        let r = and_parts (same t u) (all_same ts us) e in
        ap₂ tree (canonical_same t (of f) u p.0 q.0 c.0 d.0 r.0) (each_canonical ts fs us p.1 q.1 c.1 d.1 r.1)
    each_canonical _ _ _ h g c d e = absurd cc

    all_canonical : (ts : Trees) (f : Shape) (us : Trees) → all_fit false registry ts f ≡ true → all_fit false registry us f ≡ true → AllCanonical registry ts f
        → AllCanonical registry us f → all_same ts us ≡ true → ts ≡ us
    all_canonical no_trees f no_trees h g c d e = refl
    all_canonical (tree t ts) f (tree u us) h g c d e =
        let p = and_parts (fits false registry t (of f)) (all_fit false registry ts f) h in
        let q = and_parts (fits false registry u (of f)) (all_fit false registry us f) g in
        let r = and_parts (same t u) (all_same ts us) e in
        ap₂ tree (canonical_same t (of f) u p.0 q.0 c.0 d.0 r.0) (all_canonical ts f us p.1 q.1 c.1 d.1 r.1)
    all_canonical _ f _ h g c d e = absurd cc

    within_members : (ps : Pairs) (f g : Shape) (qs : Pairs) → pairs_fit false registry ps f g ≡ true → pairs_fit false registry qs f g ≡ true
        → PairsCanonical registry ps f g → PairsCanonical registry qs f g → is_within ps qs ≡ true → (k v : Tree) → IsEntry k v ps → IsEntry k v qs
    within_members no_pairs f g qs h j c d e k v m = absurd m
    within_members (pair k v ps) f g qs h j c d e l w (inl is) =
        let p = and_parts (any_pair (λ m x. same k m && same v x) qs) (is_within ps qs) e in
        let r = any_found (λ m x. same k m && same v x) qs p.0 in
        let s = and_parts (same k r.0) (same v r.1) r.3 in
        let i = and_parts (fits false registry k (of f) && fits false registry v (of g)) (pairs_fit false registry ps f g) h in
        let i2 = and_parts (fits false registry k (of f)) (fits false registry v (of g)) i.0 in
        let jf = fits_at qs f g j r.0 r.1 r.2 in
        let jc = canonical_at qs f g d r.0 r.1 r.2 in
        let x1 : l ≡ r.0 = is.0 ∙ canonical_same k (of f) r.0 i2.0 jf.0 c.0 jc.0 s.0 in
        let x2 : w ≡ r.1 = is.1 ∙ canonical_same v (of g) r.1 i2.1 jf.1 c.1 jc.1 s.1 in
        rw (x1, x2) r.2
    within_members (pair k v ps) f g qs h j c d e l w (inr m) =
        let p = and_parts (any_pair (λ m x. same k m && same v x) qs) (is_within ps qs) e in
        let i = and_parts (fits false registry k (of f) && fits false registry v (of g)) (pairs_fit false registry ps f g) h in
        within_members ps f g qs i.1 j c.2 d p.1 l w m

    had_members : (ps : Pairs) (f g : Shape) (l w : Tree) → pairs_fit false registry ps f g ≡ true → fits false registry l (of f) ≡ true
        → fits false registry w (of g) ≡ true → PairsCanonical registry ps f g → IsCanonical registry l (of f) → IsCanonical registry w (of g)
        → has_pair ps l w ≡ true → IsEntry l w ps
    had_members no_pairs f g l w h i j c d b e = absurd cc
    had_members (pair k v ps) f g l w h i j c d b e =
        let p = and_parts (fits false registry k (of f) && fits false registry v (of g)) (pairs_fit false registry ps f g) h in
        let q = and_parts (fits false registry k (of f)) (fits false registry v (of g)) p.0 in
        elim (or_cases (same k l && same v w) (has_pair ps l w) e) [
          | inl one ↦ (let s = and_parts (same k l) (same v w) one in
              inl (sym (canonical_same k (of f) l q.0 i c.0 d s.0), sym (canonical_same v (of g) w q.1 j c.1 b s.1)))
          | inr more ↦ inr (had_members ps f g l w p.1 i j c.2 d b more)
        ]
