-- Trees that are the same fit the same formats.
use Rattle.bcs_value_model.proofs.Prelude.{◌≡◌, suc, Bool, true, ◌&&◌, ◌==◌, ◌^◌, nat_lt, refl, sym, ap, ◌∙◌, inl, inr, false≢true, and_parts, and_from, or_cases, Shape, Shapes, no_shapes, shape, Entries, Content, of, one_of, content_at, choice_at, Tree, Trees, no_trees, tree, Pairs, no_pairs, pair, count, same, all_same, is_within, has_pair, any_pair, all_pairs, fits, all_fit, each_fits, pairs_fit, SameHaveSameFormats}
use Rattle.bcs_registry_model.specs.Shape as shape
use Rattle.bcs_value_model.specs.Tree as tree
use Rattle.bcs_value_model.proofs.Equivalence.{nat-same, int-same, bytes-same, and₂, both_ways}

same_count : (ts us : Trees) → all_same ts us ≡ true → count ts ≡ count us
same_count no_trees no_trees h = refl
same_count (tree t ts) (tree u us) h = ap suc (same_count ts us (and_parts (same t u) (all_same ts us) h).1)
same_count no_trees (tree u us) h = absurd cc
same_count (tree t ts) no_trees h = absurd cc

module _ (loose : Bool) (r : Entries) where
  -- each entry of the second map is in the first, so it fits if the first map fits
  second_fits : (k v : Shape) (ps qs : Pairs) → ((l w : Tree) → has_pair ps l w ≡ true → (fits loose r l (of k) && fits loose r w (of v)) ≡ true)
      → all_pairs (has_pair ps) qs ≡ true → pairs_fit loose r qs k v ≡ true
  second_fits k v ps no_pairs had h = refl
  second_fits k v ps (pair l w qs) had h =
      let p = and_parts (has_pair ps l w) (all_pairs (has_pair ps) qs) h in
      and_from _ _ (had l w p.0) (second_fits k v ps qs had p.1)

  -- an entry that has a match in a map that fits
  match_fits : (k v : Shape) (l w : Tree) → ((m : Tree) → same l m ≡ true → fits loose r l (of k) ≡ fits loose r m (of k)) → ((x : Tree) → same w x ≡ true → fits loose r w (of v) ≡ fits loose r x (of v))
      → (qs : Pairs) → any_pair (λ m x. same l m && same w x) qs ≡ true → pairs_fit loose r qs k v ≡ true → (fits loose r l (of k) && fits loose r w (of v)) ≡ true
  match_fits k v l w f g no_pairs a h = absurd cc
  match_fits k v l w f g (pair m x qs) a h =
      let p = and_parts (fits loose r m (of k) && fits loose r x (of v)) (pairs_fit loose r qs k v) h in
      elim (or_cases (same l m && same w x) (any_pair (λ m x. same l m && same w x) qs) a) [
        | inl here ↦ (let s = and_parts (same l m) (same w x) here in and₂ _ _ _ _ (f m s.0) (g x s.1) ∙ p.0)
        | inr there ↦ match_fits k v l w f g qs there p.1
      ]

  mutual
    pub same_fits : (t u : Tree) (c : Content) → same t u ≡ true → fits loose r t c ≡ fits loose r u c
    same_fits tree.unit tree.unit c h = refl
    same_fits (tree.truth a) (tree.truth b) (of shape.truth) h = refl
    same_fits (tree.truth a) (tree.truth b) c h = refl
    same_fits (tree.unsigned m) (tree.unsigned n) c h = ap (λ x. fits loose r (tree.unsigned x) c) (nat-same m n h)
    same_fits (tree.signed m) (tree.signed n) c h = ap (λ x. fits loose r (tree.signed x) c) (int-same m n h)
    same_fits (tree.text s) (tree.text t) c h = ap (λ x. fits loose r (tree.text x) c) (bytes-same s t h)
    same_fits (tree.bytes s) (tree.bytes t) c h = ap (λ x. fits loose r (tree.bytes x) c) (bytes-same s t h)
    same_fits tree.absent tree.absent c h = refl
    same_fits (tree.present a) (tree.present b) (of (shape.option s)) h = same_fits a b (of s) h
    same_fits (tree.present a) (tree.present b) c h = refl
    same_fits (tree.items ts) (tree.items us) (of (shape.seq s)) h = same_all_fit ts us s h
    same_fits (tree.items ts) (tree.items us) (of (shape.tuple ss)) h = same_each_fit ts us ss h
    same_fits (tree.items ts) (tree.items us) (of (shape.array s n)) h = and₂ _ _ _ _ (ap (λ m. m == n) (same_count ts us h)) (same_all_fit ts us s h)
    same_fits (tree.items ts) (tree.items us) c h = refl
    same_fits (tree.variant m a) (tree.variant n b) (one_of cs) h =
        let p = and_parts (m == n) (same a b) h in
        ap (λ x. nat_lt m (2 ^ 32) && x) (same_fits a b (choice_at m cs) p.1) ∙ ap (λ i. nat_lt i (2 ^ 32) && fits loose r b (choice_at i cs)) (nat-same m n p.0)
    same_fits (tree.variant m a) (tree.variant n b) c h = refl
    same_fits (tree.pairs ps) (tree.pairs qs) (of (shape.map k v)) h =
        let p = and_parts (is_within ps qs) (all_pairs (has_pair ps) qs) h in
        both_ways _ _ (λ f. second_fits k v ps qs (λ l w. had_fits ps k v f l w) p.1) (λ f. first_fits ps qs k v p.0 f)
    same_fits (tree.pairs ps) (tree.pairs qs) c h = refl
    same_fits (tree.named a) (tree.named b) (of (shape.name n)) h = same_fits a b (content_at n r) h
    same_fits (tree.named a) (tree.named b) c h = refl
    same_fits _ _ c h = absurd (search (false≢true))

    same_all_fit : (ts us : Trees) (s : Shape) → all_same ts us ≡ true → all_fit loose r ts s ≡ all_fit loose r us s
    same_all_fit no_trees no_trees s h = refl
    same_all_fit (tree t ts) (tree u us) s h =
        let p = and_parts (same t u) (all_same ts us) h in
        and₂ _ _ _ _ (same_fits t u (of s) p.0) (same_all_fit ts us s p.1)
    same_all_fit no_trees (tree u us) s h = absurd cc
    same_all_fit (tree t ts) no_trees s h = absurd cc

    same_each_fit : (ts us : Trees) (ss : Shapes) → all_same ts us ≡ true → each_fits loose r ts ss ≡ each_fits loose r us ss
    same_each_fit no_trees no_trees ss h = refl
    same_each_fit (tree t ts) (tree u us) no_shapes h = refl
    same_each_fit (tree t ts) (tree u us) (shape s ss) h =
        let p = and_parts (same t u) (all_same ts us) h in
        and₂ _ _ _ _ (same_fits t u (of s) p.0) (same_each_fit ts us ss p.1)
    same_each_fit no_trees (tree u us) ss h = absurd cc
    same_each_fit (tree t ts) no_trees ss h = absurd cc

    had_fits : (ps : Pairs) (k v : Shape) → pairs_fit loose r ps k v ≡ true → (l w : Tree) → has_pair ps l w ≡ true → (fits loose r l (of k) && fits loose r w (of v)) ≡ true
    had_fits no_pairs k v f l w h = absurd cc
    had_fits (pair m x ps) k v f l w h =
        let p = and_parts (fits loose r m (of k) && fits loose r x (of v)) (pairs_fit loose r ps k v) f in
        elim (or_cases (same m l && same x w) (has_pair ps l w) h) [
          | inl here ↦ (let s = and_parts (same m l) (same x w) here in sym (and₂ _ _ _ _ (same_fits m l (of k) s.0) (same_fits x w (of v) s.1)) ∙ p.0)
          | inr there ↦ had_fits ps k v p.1 l w there
        ]

    first_fits : (ps qs : Pairs) (k v : Shape) → is_within ps qs ≡ true → pairs_fit loose r qs k v ≡ true → pairs_fit loose r ps k v ≡ true
    first_fits no_pairs qs k v h f = refl
    first_fits (pair l w ps) qs k v h f =
        let p = and_parts (any_pair (λ m x. same l m && same w x) qs) (is_within ps qs) h in
        and_from _ _ (match_fits k v l w (λ m. same_fits l m (of k)) (λ x. same_fits w x (of v)) qs p.0 f) (first_fits ps qs k v p.1 f)

pub same_formats : SameHaveSameFormats
same_formats loose r s t u h = same_fits loose r t u (of s) h
