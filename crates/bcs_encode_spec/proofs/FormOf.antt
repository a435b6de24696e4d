-- The canonical form, built by inserting one pair after another.
use Rattle.bcs_encode_spec.proofs.Prelude.{◌≡◌, ℕ, suc, ◌+◌, max, Bool, true, false, not, ◌&&◌, ◌||◌, ◌==◌, ◌^◌, nat_lt, List, [], ◌++◌, refl, sym, ap, ap₂, subst, ◌∙◌, arith, inl, inr, and_parts, and_from, or_left, or_right, cases_Bool, eq-eqb, Tree, Trees, no_trees, tree, Pairs, no_pairs, pair, count, pair_count, depth, trees_depth, pairs_depth, nodes, trees_nodes, pairs_nodes, Shape, Shapes, no_shapes, shape, Entries, Content, of, one_of, content_at, choice_at, fits, all_fit, each_fits, pairs_fit, payload_fits, plain, same, all_same, is_within, has_pair, any_pair, all_pairs, distinct, all_distinct, pairs_distinct, Below, Rises, RisesFrom, IsCanonical, AllCanonical, EachCanonical, PairsCanonical, IsEntry, nat_cmp, slice_cmp, Ordering, Less, Equal, Greater, same-refl, all_same-refl, same-sym, same-trans}
use Rattle.bcs_value_model.specs.Tree as tree
use Rattle.bcs_registry_model.specs.Shape as shape
use Rattle.bcs_encode_spec.proofs.CanonicalForm.{place, insert, form_of, items_form, each_form, pairs_form}
use Rattle.bcs_encode_spec.proofs.BelowLaws.{order, below_less, below_greater}
use Rattle.bcs_encode_spec.proofs.UniqueForms.{all_at, fits_at}
use Rattle.bcs_encode_spec.proofs.PrefixLaws.{plain_free}

pub and_swap : (a b c : Bool) → (a && (b && c)) ≡ (b && (a && c))
and_swap true true c = refl
and_swap true false c = refl
and_swap false true c = refl
and_swap false false c = refl

or_swap : (a b c : Bool) → (a || (b || c)) ≡ (b || (a || c))
or_swap true true c = refl
or_swap true false c = refl
or_swap false true c = refl
or_swap false false c = refl

all_up : (test next : Tree → Tree → Bool) (ps : Pairs) → ((l w : Tree) → test l w ≡ true → next l w ≡ true) → all_pairs test ps ≡ true → all_pairs next ps ≡ true
all_up test next no_pairs up h = refl
all_up test next (pair k v ps) up h =
    let p = and_parts (test k v) (all_pairs test ps) h in
    and_from _ _ (up k v p.0) (all_up test next ps up p.1)

within_up : (ps qs rs : Pairs) → ((test : Tree → Tree → Bool) → any_pair test qs ≡ true → any_pair test rs ≡ true) → is_within ps qs ≡ true → is_within ps rs ≡ true
within_up no_pairs qs rs up h = refl
within_up (pair k v ps) qs rs up h =
    let p = and_parts (any_pair (λ l w. same k l && same v w) qs) (is_within ps qs) h in
    and_from _ _ (up (λ l w. same k l && same v w) p.0) (within_up ps qs rs up p.1)

module _ (registry : Entries) where
  -- ---- a function of pairs that doesn't depend on their order doesn't depend on where one was inserted
  place_fold : {X : Type 0} (m : Pairs → X) (step : Tree → Tree → X → X)
      → ((k v : Tree) (ps : Pairs) → m (pair k v ps) ≡ step k v (m ps))
      → ((k v l w : Tree) (x : X) → step k v (step l w x) ≡ step l w (step k v x))
      → (d : Ordering) (k v l w : Tree) (ps rest : Pairs) → m rest ≡ m (pair k v ps)
      → m (place d k v l w ps rest) ≡ m (pair k v (pair l w ps))
  place_fold m step is swap Equal k v l w ps rest h = refl
  place_fold m step is swap Less k v l w ps rest h = refl
  place_fold m step is swap Greater k v l w ps rest h =
      is l w rest ∙ ap (step l w) (h ∙ is k v ps) ∙ swap l w k v (m ps) ∙ sym (ap (step k v) (is l w ps)) ∙ sym (is k v (pair l w ps))

  pub insert_fold : {X : Type 0} (m : Pairs → X) (step : Tree → Tree → X → X)
      → ((k v : Tree) (ps : Pairs) → m (pair k v ps) ≡ step k v (m ps))
      → ((k v l w : Tree) (x : X) → step k v (step l w x) ≡ step l w (step k v x))
      → (f : Shape) (k v : Tree) (ps : Pairs) → m (insert registry f k v ps) ≡ m (pair k v ps)
  insert_fold m step is swap f k v no_pairs = refl
  insert_fold m step is swap f k v (pair l w ps) =
      place_fold m step is swap (slice_cmp nat_cmp (plain registry k (of f)) (plain registry l (of f))) k v l w ps (insert registry f k v ps) (insert_fold m step is swap f k v ps)

  any_pair-insert : (test : Tree → Tree → Bool) (f : Shape) (k v : Tree) (ps : Pairs) → any_pair test (insert registry f k v ps) ≡ (test k v || any_pair test ps)
  any_pair-insert test f k v ps = insert_fold (any_pair test) (λ l w x. test l w || x) (λ l w qs. refl) (λ l w m x y. or_swap (test l w) (test m x) y) f k v ps

  all_pairs-insert : (test : Tree → Tree → Bool) (f : Shape) (k v : Tree) (ps : Pairs) → all_pairs test (insert registry f k v ps) ≡ (test k v && all_pairs test ps)
  all_pairs-insert test f k v ps = insert_fold (all_pairs test) (λ l w x. test l w && x) (λ l w qs. refl) (λ l w m x y. and_swap (test l w) (test m x) y) f k v ps

  pub pairs_fit-insert : (f g h : Shape) (k v : Tree) (ps : Pairs) → pairs_fit false registry (insert registry f k v ps) g h ≡ pairs_fit false registry (pair k v ps) g h
  pairs_fit-insert f g h k v ps =
      insert_fold (λ qs. pairs_fit false registry qs g h) (λ l w x. (fits false registry l (of g) && fits false registry w (of h)) && x) (λ l w qs. refl)
      (λ l w m x y. and_swap (fits false registry l (of g) && fits false registry w (of h)) (fits false registry m (of g) && fits false registry x (of h)) y) f k v ps

  pairs_depth-insert : (f : Shape) (k v : Tree) (ps : Pairs) → pairs_depth (insert registry f k v ps) ≡ pairs_depth (pair k v ps)
  pairs_depth-insert f k v ps = insert_fold pairs_depth (λ l w x. max (max (depth l) (depth w)) x) (λ l w qs. refl) (λ l w m x y. omega arith) f k v ps

  pairs_nodes-insert : (f : Shape) (k v : Tree) (ps : Pairs) → pairs_nodes (insert registry f k v ps) ≡ pairs_nodes (pair k v ps)
  pairs_nodes-insert f k v ps = insert_fold pairs_nodes (λ l w x. (nodes l + nodes w) + x) (λ l w qs. refl) (λ l w m x y. omega arith) f k v ps

  -- ---- fitting, depth, nodes and lengths stay the same
  pub count-items_form : (ts : Trees) (f : Shape) → count (items_form registry ts f) ≡ count ts
  count-items_form no_trees f = refl
  count-items_form (tree t ts) f = ap suc (count-items_form ts f)

  pub pair_count-pairs_form : (ps : Pairs) (f g : Shape) → pair_count (pairs_form registry ps f g) ≡ pair_count ps
  pair_count-pairs_form no_pairs f g = refl
  pair_count-pairs_form (pair k v ps) f g =
      insert_fold pair_count (λ l w x. suc x) (λ l w qs. refl) (λ l w m x y. refl) f (form_of registry k (of f)) (form_of registry v (of g)) (pairs_form registry ps f g)
      ∙ ap suc (pair_count-pairs_form ps f g)

  mutual
    pub fits-form_of : (t : Tree) (f : Content) → fits false registry (form_of registry t f) f ≡ fits false registry t f
    fits-form_of (tree.present t) (of (shape.option f)) = fits-form_of t (of f)
    fits-form_of (tree.items ts) (of (shape.seq f)) = all_fit-items_form ts f
    fits-form_of (tree.items ts) (of (shape.tuple fs)) = each_fits-each_form ts fs
    fits-form_of (tree.items ts) (of (shape.array f n)) = rw (count-items_form ts f, all_fit-items_form ts f) refl
    fits-form_of (tree.pairs ps) (of (shape.map k v)) = pairs_fit-pairs_form ps k v
    fits-form_of (tree.named t) (of (shape.name n)) = fits-form_of t (content_at n registry)
    fits-form_of (tree.variant n t) (one_of cs) = ap (λ b. nat_lt n (2 ^ 32) && b) (fits-form_of t (choice_at n cs))
    fits-form_of t f = refl

    all_fit-items_form : (ts : Trees) (f : Shape) → all_fit false registry (items_form registry ts f) f ≡ all_fit false registry ts f
    all_fit-items_form no_trees f = refl
    all_fit-items_form (tree t ts) f = rw (fits-form_of t (of f), all_fit-items_form ts f) refl

    each_fits-each_form : (ts : Trees) (fs : Shapes) → each_fits false registry (each_form registry ts fs) fs ≡ each_fits false registry ts fs
    each_fits-each_form (tree t ts) (shape f fs) = rw (fits-form_of t (of f), each_fits-each_form ts fs) refl
    each_fits-each_form ts fs = refl

    pub pairs_fit-pairs_form : (ps : Pairs) (f g : Shape) → pairs_fit false registry (pairs_form registry ps f g) f g ≡ pairs_fit false registry ps f g
    pairs_fit-pairs_form no_pairs f g = refl
    pairs_fit-pairs_form (pair k v ps) f g = pairs_fit-insert f f g (form_of registry k (of f)) (form_of registry v (of g)) (pairs_form registry ps f g) ∙ rw (fits-form_of k (of f), fits-form_of v (of g), pairs_fit-pairs_form ps f g) refl

  mutual
    pub depth-form_of : (t : Tree) (f : Content) → depth (form_of registry t f) ≡ depth t
    depth-form_of (tree.present t) (of (shape.option f)) = depth-form_of t (of f)
    depth-form_of (tree.items ts) (of (shape.seq f)) = trees_depth-items_form ts f
    depth-form_of (tree.items ts) (of (shape.tuple fs)) = trees_depth-each_form ts fs
    depth-form_of (tree.items ts) (of (shape.array f n)) = trees_depth-items_form ts f
    depth-form_of (tree.pairs ps) (of (shape.map k v)) = pairs_depth-pairs_form ps k v
    depth-form_of (tree.named t) (of (shape.name n)) = ap suc (depth-form_of t (content_at n registry))
    depth-form_of (tree.variant n t) (one_of cs) = depth-form_of t (choice_at n cs)
    depth-form_of t f = refl

    trees_depth-items_form : (ts : Trees) (f : Shape) → trees_depth (items_form registry ts f) ≡ trees_depth ts
    trees_depth-items_form no_trees f = refl
    trees_depth-items_form (tree t ts) f = ap₂ max (depth-form_of t (of f)) (trees_depth-items_form ts f)

    trees_depth-each_form : (ts : Trees) (fs : Shapes) → trees_depth (each_form registry ts fs) ≡ trees_depth ts
    trees_depth-each_form (tree t ts) (shape f fs) = ap₂ max (depth-form_of t (of f)) (trees_depth-each_form ts fs)
    trees_depth-each_form ts fs = refl

    pairs_depth-pairs_form : (ps : Pairs) (f g : Shape) → pairs_depth (pairs_form registry ps f g) ≡ pairs_depth ps
    pairs_depth-pairs_form no_pairs f g = refl
    pairs_depth-pairs_form (pair k v ps) f g =
        pairs_depth-insert f (form_of registry k (of f)) (form_of registry v (of g)) (pairs_form registry ps f g) ∙ ap₂ max (ap₂ max (depth-form_of k (of f)) (depth-form_of v (of g))) (pairs_depth-pairs_form ps f g)

  mutual
    pub nodes-form_of : (t : Tree) (f : Content) → nodes (form_of registry t f) ≡ nodes t
    nodes-form_of (tree.present t) (of (shape.option f)) = ap suc (nodes-form_of t (of f))
    nodes-form_of (tree.items ts) (of (shape.seq f)) = ap suc (trees_nodes-items_form ts f)
    nodes-form_of (tree.items ts) (of (shape.tuple fs)) = ap suc (trees_nodes-each_form ts fs)
    nodes-form_of (tree.items ts) (of (shape.array f n)) = ap suc (trees_nodes-items_form ts f)
    nodes-form_of (tree.pairs ps) (of (shape.map k v)) = ap suc (pairs_nodes-pairs_form ps k v)
    nodes-form_of (tree.named t) (of (shape.name n)) = ap suc (nodes-form_of t (content_at n registry))
    nodes-form_of (tree.variant n t) (one_of cs) = ap suc (nodes-form_of t (choice_at n cs))
    nodes-form_of t f = refl

    trees_nodes-items_form : (ts : Trees) (f : Shape) → trees_nodes (items_form registry ts f) ≡ trees_nodes ts
    trees_nodes-items_form no_trees f = refl
    trees_nodes-items_form (tree t ts) f = ap₂ (λ (m n : ℕ). m + n) (nodes-form_of t (of f)) (trees_nodes-items_form ts f)

    trees_nodes-each_form : (ts : Trees) (fs : Shapes) → trees_nodes (each_form registry ts fs) ≡ trees_nodes ts
    trees_nodes-each_form (tree t ts) (shape f fs) = ap₂ (λ (m n : ℕ). m + n) (nodes-form_of t (of f)) (trees_nodes-each_form ts fs)
    trees_nodes-each_form ts fs = refl

    pairs_nodes-pairs_form : (ps : Pairs) (f g : Shape) → pairs_nodes (pairs_form registry ps f g) ≡ pairs_nodes ps
    pairs_nodes-pairs_form no_pairs f g = refl
    pairs_nodes-pairs_form (pair k v ps) f g =
        pairs_nodes-insert f (form_of registry k (of f)) (form_of registry v (of g)) (pairs_form registry ps f g)
        ∙ ap₂ (λ (m n : ℕ). m + n) (ap₂ (λ (m n : ℕ). m + n) (nodes-form_of k (of f)) (nodes-form_of v (of g))) (pairs_nodes-pairs_form ps f g)

  -- ---- the form is the same value
  mutual
    pub same-form_of : (t : Tree) (f : Content) → same t (form_of registry t f) ≡ true
    same-form_of (tree.present t) (of (shape.option f)) = same-form_of t (of f)
    same-form_of (tree.items ts) (of (shape.seq f)) = all_same-items_form ts f
    same-form_of (tree.items ts) (of (shape.tuple fs)) = all_same-each_form ts fs
    same-form_of (tree.items ts) (of (shape.array f n)) = all_same-items_form ts f
    same-form_of (tree.pairs ps) (of (shape.map k v)) = and_from _ _ (is_within-pairs_form ps k v) (all_had-pairs_form ps k v)
    same-form_of (tree.named t) (of (shape.name n)) = same-form_of t (content_at n registry)
    same-form_of (tree.variant n t) (one_of cs) = and_from _ _ (eq-eqb n n refl) (same-form_of t (choice_at n cs))
    same-form_of t f = same-refl t

    all_same-items_form : (ts : Trees) (f : Shape) → all_same ts (items_form registry ts f) ≡ true
    all_same-items_form no_trees f = refl
    all_same-items_form (tree t ts) f = and_from _ _ (same-form_of t (of f)) (all_same-items_form ts f)

    all_same-each_form : (ts : Trees) (fs : Shapes) → all_same ts (each_form registry ts fs) ≡ true
    all_same-each_form (tree t ts) (shape f fs) = and_from _ _ (same-form_of t (of f)) (all_same-each_form ts fs)
    all_same-each_form ts fs = all_same-refl ts

    is_within-pairs_form : (ps : Pairs) (f g : Shape) → is_within ps (pairs_form registry ps f g) ≡ true
    is_within-pairs_form no_pairs f g = refl
    is_within-pairs_form (pair k v ps) f g =
        let old = pairs_form registry ps f g in
        and_from _ _
        (any_pair-insert (λ l w. same k l && same v w) f (form_of registry k (of f)) (form_of registry v (of g)) old ∙ or_left _ _ (and_from _ _ (same-form_of k (of f)) (same-form_of v (of g))))
        (within_up ps old (insert registry f (form_of registry k (of f)) (form_of registry v (of g)) old) (λ test h. any_pair-insert test f (form_of registry k (of f)) (form_of registry v (of g)) old ∙ or_right _ _ h) (is_within-pairs_form ps f g))

    all_had-pairs_form : (ps : Pairs) (f g : Shape) → all_pairs (has_pair ps) (pairs_form registry ps f g) ≡ true
    all_had-pairs_form no_pairs f g = refl
    all_had-pairs_form (pair k v ps) f g =
        all_pairs-insert (has_pair (pair k v ps)) f (form_of registry k (of f)) (form_of registry v (of g)) (pairs_form registry ps f g)
        ∙ and_from _ _ (or_left _ _ (and_from _ _ (same-form_of k (of f)) (same-form_of v (of g))))
        (all_up (has_pair ps) (has_pair (pair k v ps)) (pairs_form registry ps f g) (λ l w h. or_right _ _ h) (all_had-pairs_form ps f g))

  -- ---- if no key is repeated, the form is canonical
  Apart : Shape → Tree → Pairs → Type 0
  Apart f k ps = (l w : Tree) → IsEntry l w ps → plain registry k (of f) ≡ plain registry l (of f) → ⊥

  rises_from_insert : (b : List ℕ) (f : Shape) (k v : Tree) (ps : Pairs) → Below b (plain registry k (of f)) → RisesFrom registry b ps f → Apart f k ps
      → RisesFrom registry b (insert registry f k v ps) f
  unfolding Apart
  rises_from_insert b f k v no_pairs lt h apart = (lt, tt)
  rises_from_insert b f k v (pair l w ps) lt h apart =
      elim (order (plain registry k (of f)) (plain registry l (of f))) [
        | inl e ↦ absurd (apart l w (inl (refl, refl)) e)
        | inr (inl less) ↦ subst (λ (d : Ordering). RisesFrom registry b (place d k v l w ps (insert registry f k v ps)) f) (sym (below_less (plain registry k (of f)) (plain registry l (of f)) less)) (lt, (less, h.1))
        | inr (inr more) ↦ subst (λ (d : Ordering). RisesFrom registry b (place d k v l w ps (insert registry f k v ps)) f) (sym (below_greater (plain registry k (of f)) (plain registry l (of f)) more))
            (h.0, rises_from_insert (plain registry l (of f)) f k v ps more h.1 (λ m x a. apart m x (inr a)))
      ]

  rises_insert : (f : Shape) (k v : Tree) (ps : Pairs) → Rises registry ps f → Apart f k ps → Rises registry (insert registry f k v ps) f
  unfolding Apart
  rises_insert f k v no_pairs h apart = tt
  rises_insert f k v (pair l w ps) h apart =
      elim (order (plain registry k (of f)) (plain registry l (of f))) [
        | inl e ↦ absurd (apart l w (inl (refl, refl)) e)
        | inr (inl less) ↦ subst (λ (d : Ordering). Rises registry (place d k v l w ps (insert registry f k v ps)) f) (sym (below_less (plain registry k (of f)) (plain registry l (of f)) less)) (less, h)
        | inr (inr more) ↦ subst (λ (d : Ordering). Rises registry (place d k v l w ps (insert registry f k v ps)) f) (sym (below_greater (plain registry k (of f)) (plain registry l (of f)) more))
            (rises_from_insert (plain registry l (of f)) f k v ps more h (λ m x a. apart m x (inr a)))
      ]

  canonical_insert : (f g h : Shape) (k v : Tree) (ps : Pairs) → IsCanonical registry k (of g) → IsCanonical registry v (of h) → PairsCanonical registry ps g h
      → PairsCanonical registry (insert registry f k v ps) g h
  canonical_insert f g h k v no_pairs a b c = (a, b, tt)
  canonical_insert f g h k v (pair l w ps) a b c = placed (slice_cmp nat_cmp (plain registry k (of f)) (plain registry l (of f))) (canonical_insert f g h k v ps a b c.2)
    where
      placed : (d : Ordering) → PairsCanonical registry (insert registry f k v ps) g h → PairsCanonical registry (place d k v l w ps (insert registry f k v ps)) g h
      placed Equal next = (a, b, c)
      placed Less next = (a, b, c)
      placed Greater next = (c.0, c.1, next)

  -- a key that differs from another also differs from its canonical form
  not_same : (k l : Tree) (f : Shape) → not (same k l) ≡ true → not (same k (form_of registry l (of f))) ≡ true
  not_same k l f h =
      elim (cases_Bool (same k (form_of registry l (of f)))) [
        | inl is ↦ (let e : same k l ≡ true = same-trans k (form_of registry l (of f)) l is (same-sym (form_of registry l (of f)) l ∙ same-form_of l (of f)) in absurd cc)
        | inr isnt ↦ rw isnt refl
      ]

  differs : (k : Tree) (ps : Pairs) (f g : Shape) → all_pairs (λ l w. not (same k l)) ps ≡ true → all_pairs (λ l w. not (same k l)) (pairs_form registry ps f g) ≡ true
  differs k no_pairs f g h = refl
  differs k (pair l w ps) f g h =
      let p = and_parts (not (same k l)) (all_pairs (λ l w. not (same k l)) ps) h in
      all_pairs-insert (λ l w. not (same k l)) f (form_of registry l (of f)) (form_of registry w (of g)) (pairs_form registry ps f g) ∙ and_from _ _ (not_same k l f p.0) (differs k ps f g p.1)

  -- equal bytes are those of the same key
  pub equal_bytes : (k l : Tree) (f : Shape) → fits false registry k (of f) ≡ true → fits false registry l (of f) ≡ true
      → plain registry k (of f) ≡ plain registry l (of f) → k ≡ l
  equal_bytes k l f h g e = (plain_free registry k (of f) l [] [] h g (ap (λ b. b ++ []) e)).0

  apart : (k : Tree) (ps : Pairs) (f g : Shape) → fits false registry k (of f) ≡ true → pairs_fit false registry ps f g ≡ true
      → all_pairs (λ l w. not (same k l)) ps ≡ true → Apart f (form_of registry k (of f)) (pairs_form registry ps f g)
  unfolding Apart
  apart k ps f g h j d = λ l w m e.
      let n : not (same k l) ≡ true = all_at (λ l w. not (same k l)) (pairs_form registry ps f g) (differs k ps f g d) l w m in
      let i = fits_at registry (pairs_form registry ps f g) f g (pairs_fit-pairs_form ps f g ∙ j) l w m in
      let is : form_of registry k (of f) ≡ l = equal_bytes (form_of registry k (of f)) l f (fits-form_of k (of f) ∙ h) i.0 e in
      let s : same k l ≡ true = subst (λ (t : Tree). same k t ≡ true) is (same-form_of k (of f)) in
      cc

  mutual
    pub form_is_canonical : (t : Tree) (f : Content) → fits false registry t f ≡ true → distinct t ≡ true → IsCanonical registry (form_of registry t f) f
    form_is_canonical (tree.present t) (of (shape.option f)) h d = form_is_canonical t (of f) h d
    form_is_canonical (tree.items ts) (of (shape.seq f)) h d = items_form_are_canonical ts f h d
    form_is_canonical (tree.items ts) (of (shape.tuple fs)) h d = each_form_is_canonical ts fs h d
    form_is_canonical (tree.items ts) (of (shape.array f n)) h d = items_form_are_canonical ts f (and_parts (count ts == n) (all_fit false registry ts f) h).1 d
    form_is_canonical (tree.pairs ps) (of (shape.map k v)) h d = pairs_form_is_canonical ps k v h d
    form_is_canonical (tree.named t) (of (shape.name n)) h d = form_is_canonical t (content_at n registry) h d
    form_is_canonical (tree.variant n t) (one_of cs) h d = form_is_canonical t (choice_at n cs) (payload_fits false registry n t cs h) d
    form_is_canonical t f h d = tt

    items_form_are_canonical : (ts : Trees) (f : Shape) → all_fit false registry ts f ≡ true → all_distinct ts ≡ true → AllCanonical registry (items_form registry ts f) f
    items_form_are_canonical no_trees f h d = tt
    items_form_are_canonical (tree t ts) f h d =
        let p = and_parts (fits false registry t (of f)) (all_fit false registry ts f) h in
        let q = and_parts (distinct t) (all_distinct ts) d in
        (form_is_canonical t (of f) p.0 q.0, items_form_are_canonical ts f p.1 q.1)

    each_form_is_canonical : (ts : Trees) (fs : Shapes) → each_fits false registry ts fs ≡ true → all_distinct ts ≡ true
        → EachCanonical registry (each_form registry ts fs) fs
    each_form_is_canonical (tree t ts) (shape f fs) h d =
        let p = and_parts (fits false registry t (of f)) (each_fits false registry ts fs) h in
        let q = and_parts (distinct t) (all_distinct ts) d in
        (form_is_canonical t (of f) p.0 q.0, each_form_is_canonical ts fs p.1 q.1)
    each_form_is_canonical ts fs h d = tt

    pub pairs_form_is_canonical : (ps : Pairs) (f g : Shape) → pairs_fit false registry ps f g ≡ true → pairs_distinct ps ≡ true
        → Rises registry (pairs_form registry ps f g) f × PairsCanonical registry (pairs_form registry ps f g) f g
    pairs_form_is_canonical no_pairs f g h d = (tt, tt)
    pairs_form_is_canonical (pair k v ps) f g h d =
        let p = and_parts (fits false registry k (of f) && fits false registry v (of g)) (pairs_fit false registry ps f g) h in
        let p2 = and_parts (fits false registry k (of f)) (fits false registry v (of g)) p.0 in
        let q = and_parts (distinct k && distinct v) (all_pairs (λ l w. not (same k l)) ps && pairs_distinct ps) d in
        let q2 = and_parts (distinct k) (distinct v) q.0 in
        let q3 = and_parts (all_pairs (λ l w. not (same k l)) ps) (pairs_distinct ps) q.1 in
        let i = pairs_form_is_canonical ps f g p.1 q3.1 in (
          rises_insert f (form_of registry k (of f)) (form_of registry v (of g)) (pairs_form registry ps f g) i.0 (apart k ps f g p2.0 p.1 q3.0),
          canonical_insert f f g (form_of registry k (of f)) (form_of registry v (of g)) (pairs_form registry ps f g) (form_is_canonical k (of f) p2.0 q2.0) (form_is_canonical v (of g) p2.1 q2.1) i.1,
        )
