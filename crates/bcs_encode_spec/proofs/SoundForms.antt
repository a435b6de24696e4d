-- Canonical trees have distinct keys, and canonical forms keep the lengths.
use Rattle.bcs_encode_spec.proofs.Prelude.{◌≡◌, ℕ, true, false, not, ◌&&◌, ◌==◌, List, refl, sym, subst, ◌∙◌, inl, inr, ◌⊎◌, and_parts, and_from, cases_Bool, Tree, Trees, no_trees, tree, Pairs, no_pairs, pair, count, pair_count, Shape, Shapes, no_shapes, shape, Entries, Content, of, one_of, content_at, choice_at, fits, all_fit, each_fits, pairs_fit, payload_fits, plain, lengths_hold, all_hold, each_holds, pairs_hold, same, all_pairs, distinct, all_distinct, pairs_distinct, Below, RisesFrom, Rises, IsCanonical, AllCanonical, EachCanonical, PairsCanonical}
use Rattle.bcs_value_model.specs.Tree as tree
use Rattle.bcs_registry_model.specs.Shape as shape
use Rattle.bcs_encode_spec.proofs.BelowLaws.{Below-irrefl, Below-trans}
use Rattle.bcs_encode_spec.proofs.UniqueForms.{canonical_same, rises_tail}
use Rattle.bcs_encode_spec.proofs.CanonicalForm.{form_of, items_form, each_form, pairs_form, insert}
use Rattle.bcs_encode_spec.proofs.FormOf.{count-items_form, pair_count-pairs_form, insert_fold, and_swap}

module _ (limit : ℕ) (registry : Entries) where
  pairs_hold-insert : (f g : Shape) (k v : Tree) (ps : Pairs) → pairs_hold limit registry (insert registry f k v ps) f g ≡ pairs_hold limit registry (pair k v ps) f g
  pairs_hold-insert f g k v ps = insert_fold registry (λ qs. pairs_hold limit registry qs f g)
      (λ l w x. (lengths_hold limit registry l (of f) && lengths_hold limit registry w (of g)) && x) (λ l w qs. refl)
      (λ l w m x y. and_swap (lengths_hold limit registry l (of f) && lengths_hold limit registry w (of g)) (lengths_hold limit registry m (of f) && lengths_hold limit registry x (of g)) y) f k v ps

  mutual
    pub lengths_hold-form_of : (t : Tree) (f : Content) → lengths_hold limit registry (form_of registry t f) f ≡ lengths_hold limit registry t f
    lengths_hold-form_of (tree.present t) (of (shape.option f)) = lengths_hold-form_of t (of f)
    lengths_hold-form_of (tree.items ts) (of (shape.seq f)) = rw (count-items_form registry ts f, all_hold-items_form ts f) refl
    lengths_hold-form_of (tree.items ts) (of (shape.tuple fs)) = each_holds-each_form ts fs
    lengths_hold-form_of (tree.items ts) (of (shape.array f n)) = all_hold-items_form ts f
    lengths_hold-form_of (tree.pairs ps) (of (shape.map k v)) = rw (pair_count-pairs_form registry ps k v, pairs_hold-pairs_form ps k v) refl
    lengths_hold-form_of (tree.variant n t) (one_of cs) = lengths_hold-form_of t (choice_at n cs)
    lengths_hold-form_of (tree.named t) (of (shape.name n)) = lengths_hold-form_of t (content_at n registry)
    lengths_hold-form_of t f = refl

    all_hold-items_form : (ts : Trees) (f : Shape) → all_hold limit registry (items_form registry ts f) f ≡ all_hold limit registry ts f
    all_hold-items_form no_trees f = refl
    all_hold-items_form (tree t ts) f = rw (lengths_hold-form_of t (of f), all_hold-items_form ts f) refl

    each_holds-each_form : (ts : Trees) (fs : Shapes) → each_holds limit registry (each_form registry ts fs) fs ≡ each_holds limit registry ts fs
    each_holds-each_form (tree t ts) (shape f fs) = rw (lengths_hold-form_of t (of f), each_holds-each_form ts fs) refl
    each_holds-each_form ts fs = refl

    pairs_hold-pairs_form : (ps : Pairs) (f g : Shape) → pairs_hold limit registry (pairs_form registry ps f g) f g ≡ pairs_hold limit registry ps f g
    pairs_hold-pairs_form no_pairs f g = refl
    pairs_hold-pairs_form (pair k v ps) f g =
        pairs_hold-insert f g (form_of registry k (of f)) (form_of registry v (of g)) (pairs_form registry ps f g)
        ∙ rw (lengths_hold-form_of k (of f), lengths_hold-form_of v (of g), pairs_hold-pairs_form ps f g) refl

module _ (registry : Entries) where
  -- a canonical key below all of these differs from each
  apart_rising : (k : Tree) (ps : Pairs) (f g : Shape) (b : List ℕ) → fits false registry k (of f) ≡ true → IsCanonical registry k (of f)
      → pairs_fit false registry ps f g ≡ true → PairsCanonical registry ps f g
      → RisesFrom registry b ps f → (plain registry k (of f) ≡ b) ⊎ Below (plain registry k (of f)) b → all_pairs (λ l w. not (same k l)) ps ≡ true
  apart_rising k no_pairs f g b h c j d r at = refl
  apart_rising k (pair l w ps) f g b h c j d r at =
      let js = and_parts (fits false registry l (of f) && fits false registry w (of g)) (pairs_fit false registry ps f g) j in
      let ja = and_parts (fits false registry l (of f)) (fits false registry w (of g)) js.0 in
      let lt : Below (plain registry k (of f)) (plain registry l (of f)) = elim at [
        | inl is ↦ subst (λ (x : List ℕ). Below x (plain registry l (of f))) (sym is) r.0
        | inr less ↦ Below-trans (plain registry k (of f)) b (plain registry l (of f)) less r.0
      ] in
      and_from _ _
      (elim (cases_Bool (same k l)) [
        | inl is ↦ absurd (Below-irrefl (plain registry l (of f)) (subst (λ (t : Tree). Below (plain registry t (of f)) (plain registry l (of f))) (canonical_same registry k (of f) l h ja.0 c d.0 is) lt))
        | inr isnt ↦ rw isnt refl
      ])
      (apart_rising k ps f g (plain registry l (of f)) h c js.1 d.2 r.1 (inr lt))

  mutual
    pub canonical_distinct : (t : Tree) (f : Content) → fits false registry t f ≡ true → IsCanonical registry t f → distinct t ≡ true
    canonical_distinct (tree.present t) (of (shape.option f)) h c = canonical_distinct t (of f) h c
    canonical_distinct (tree.items ts) (of (shape.seq f)) h c = canonical_all_distinct ts f h c
    canonical_distinct (tree.items ts) (of (shape.tuple fs)) h c = canonical_each_distinct ts fs h c
    canonical_distinct (tree.items ts) (of (shape.array f n)) h c = canonical_all_distinct ts f (and_parts (count ts == n) (all_fit false registry ts f) h).1 c
    canonical_distinct (tree.pairs ps) (of (shape.map k v)) h c = canonical_pairs_distinct ps k v h c.0 c.1
    canonical_distinct (tree.variant n t) (one_of cs) h c = canonical_distinct t (choice_at n cs) (payload_fits false registry n t cs h) c
    canonical_distinct (tree.variant n t) (of shape.unit) h c = absurd cc
    canonical_distinct (tree.named t) (of (shape.name n)) h c = canonical_distinct t (content_at n registry) h c
    canonical_distinct _ _ h c = cc

    canonical_all_distinct : (ts : Trees) (f : Shape) → all_fit false registry ts f ≡ true → AllCanonical registry ts f → all_distinct ts ≡ true
    canonical_all_distinct no_trees f h c = refl
    canonical_all_distinct (tree t ts) f h c =
        let p = and_parts (fits false registry t (of f)) (all_fit false registry ts f) h in
        and_from _ _ (canonical_distinct t (of f) p.0 c.0) (canonical_all_distinct ts f p.1 c.1)

    canonical_each_distinct : (ts : Trees) (fs : Shapes) → each_fits false registry ts fs ≡ true → EachCanonical registry ts fs → all_distinct ts ≡ true
    canonical_each_distinct no_trees fs h c = refl
    canonical_each_distinct (tree t ts) (shape f fs) h c =
        let p = and_parts (fits false registry t (of f)) (each_fits false registry ts fs) h in
        and_from _ _ (canonical_distinct t (of f) p.0 c.0) (canonical_each_distinct ts fs p.1 c.1)
    canonical_each_distinct (tree t ts) no_shapes h c = absurd cc

    canonical_pairs_distinct : (ps : Pairs) (f g : Shape) → pairs_fit false registry ps f g ≡ true → Rises registry ps f → PairsCanonical registry ps f g
        → pairs_distinct ps ≡ true
    canonical_pairs_distinct no_pairs f g h r c = refl
    canonical_pairs_distinct (pair k v ps) f g h r c =
        let p = and_parts (fits false registry k (of f) && fits false registry v (of g)) (pairs_fit false registry ps f g) h in
        let q = and_parts (fits false registry k (of f)) (fits false registry v (of g)) p.0 in
        and_from _ _ (and_from _ _ (canonical_distinct k (of f) q.0 c.0) (canonical_distinct v (of g) q.1 c.1))
        (and_from _ _ (apart_rising k ps f g (plain registry k (of f)) q.0 c.0 p.1 c.2 r (inl refl))
        (canonical_pairs_distinct ps f g p.1 (rises_tail registry ps (plain registry k (of f)) f r) c.2))
