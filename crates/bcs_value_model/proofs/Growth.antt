-- A value that fits still fits when the registry grows.
use Rattle.bcs_value_model.proofs.Prelude.{◌≡◌, ℕ, Bool, true, ◌&&◌, ◌==◌, ◌^◌, nat_lt, List, refl, sym, subst, ◌∙◌, false≢true, and_parts, and_from, Shape, Shapes, no_shapes, shape, Entries, Choice, Content, of, one_of, nothing, content_at, choice_at, Grows, StaysIn, HasChoices, content_at-grows, choice_at-grows, Tree, Trees, no_trees, tree, Pairs, no_pairs, pair, count, fits, all_fit, each_fits, pairs_fit, GrowthKeepsFitting}
use Rattle.bcs_registry_model.specs.Shape as shape
use Rattle.bcs_value_model.specs.Tree as tree
use Rattle.bcs_value_model.proofs.FitsByViews.{fits-nothing, fits-unsupported}

module _ (loose : Bool) (r : Entries) where
  -- the format of a content that stays is the same
  stays : (t : Tree) (s : Shape) (d : Content) → StaysIn (of s) d → fits loose r t (of s) ≡ true → fits loose r t d ≡ true
  stays t s (of u) e h = subst (λ (x : Shape). fits loose r t (of x) ≡ true) e h
  stays t s (one_of ds) e h = absurd e
  stays t s nothing e h = absurd e

  -- the same for variants
  choices_stay : (n : ℕ) (t : Tree) (cs : List Choice) (d : Content) → StaysIn (one_of cs) d → ((ds : List Choice) → HasChoices cs ds → fits loose r (tree.variant n t) (one_of ds) ≡ true) → fits loose r (tree.variant n t) d ≡ true
  choices_stay n t cs (one_of ds) e h = h ds e
  choices_stay n t cs (of u) e h = absurd e
  choices_stay n t cs nothing e h = absurd e

module _ (loose : Bool) (older newer : Entries) (grows : Grows older newer) where
  mutual
    pub fits-grows : (t : Tree) (c : Content) → fits loose older t c ≡ true → (d : Content) → StaysIn c d → fits loose newer t d ≡ true
    fits-grows t (of (shape.unsupported u)) h d e =
        stays loose newer t (shape.unsupported u) d e (fits-unsupported loose newer t u ∙ sym (fits-unsupported loose older t u) ∙ h)
    fits-grows t nothing h d e = absurd (false≢true (sym (fits-nothing loose older t) ∙ h))
    fits-grows tree.unit (of shape.unit) h d e = stays loose newer tree.unit shape.unit d e refl
    fits-grows (tree.truth b) (of shape.truth) h d e = stays loose newer (tree.truth b) shape.truth d e refl
    fits-grows (tree.unsigned n) (of (shape.unsigned w)) h d e = stays loose newer (tree.unsigned n) (shape.unsigned w) d e h
    fits-grows (tree.signed z) (of (shape.signed w)) h d e = stays loose newer (tree.signed z) (shape.signed w) d e h
    fits-grows (tree.text s) (of shape.text) h d e = stays loose newer (tree.text s) shape.text d e h
    fits-grows (tree.bytes s) (of shape.bytes) h d e = stays loose newer (tree.bytes s) shape.bytes d e h
    fits-grows tree.absent (of (shape.option s)) h d e = stays loose newer tree.absent (shape.option s) d e refl
    fits-grows (tree.present t) (of (shape.option s)) h d e = stays loose newer (tree.present t) (shape.option s) d e (fits-grows t (of s) h (of s) refl)
    fits-grows (tree.items ts) (of (shape.seq s)) h d e = stays loose newer (tree.items ts) (shape.seq s) d e (all_fit-grows ts s h)
    fits-grows (tree.items ts) (of (shape.tuple ss)) h d e = stays loose newer (tree.items ts) (shape.tuple ss) d e (each_fits-grows ts ss h)
    fits-grows (tree.items ts) (of (shape.array s n)) h d e =
        let p = and_parts (count ts == n) (all_fit loose older ts s) h in
        stays loose newer (tree.items ts) (shape.array s n) d e (and_from _ _ p.0 (all_fit-grows ts s p.1))
    fits-grows (tree.pairs ps) (of (shape.map k v)) h d e = stays loose newer (tree.pairs ps) (shape.map k v) d e (pairs_fit-grows ps k v h)
    fits-grows (tree.named t) (of (shape.name n)) h d e =
        stays loose newer (tree.named t) (shape.name n) d e (fits-grows t (content_at n older) h (content_at n newer) (content_at-grows older newer grows n))
    fits-grows (tree.variant n t) (one_of cs) h d e =
        let p = and_parts (nat_lt n (2 ^ 32)) (fits loose older t (choice_at n cs)) h in
        choices_stay loose newer n t cs d e (λ ds has. and_from _ _ p.0 (fits-grows t (choice_at n cs) p.1 (choice_at n ds) (choice_at-grows cs ds has n)))
    fits-grows _ _ h d e = absurd (search (false≢true))

    all_fit-grows : (ts : Trees) (s : Shape) → all_fit loose older ts s ≡ true → all_fit loose newer ts s ≡ true
    all_fit-grows no_trees s h = refl
    all_fit-grows (tree t ts) s h =
        let p = and_parts (fits loose older t (of s)) (all_fit loose older ts s) h in
        and_from _ _ (fits-grows t (of s) p.0 (of s) refl) (all_fit-grows ts s p.1)

    each_fits-grows : (ts : Trees) (ss : Shapes) → each_fits loose older ts ss ≡ true → each_fits loose newer ts ss ≡ true
    each_fits-grows no_trees no_shapes h = refl
    each_fits-grows (tree t ts) (shape s ss) h =
        let p = and_parts (fits loose older t (of s)) (each_fits loose older ts ss) h in
        and_from _ _ (fits-grows t (of s) p.0 (of s) refl) (each_fits-grows ts ss p.1)
    each_fits-grows no_trees (shape s ss) h = h
    each_fits-grows (tree t ts) no_shapes h = h

    pairs_fit-grows : (ps : Pairs) (k v : Shape) → pairs_fit loose older ps k v ≡ true → pairs_fit loose newer ps k v ≡ true
    pairs_fit-grows no_pairs k v h = refl
    pairs_fit-grows (pair l w ps) k v h =
        let p = and_parts (fits loose older l (of k) && fits loose older w (of v)) (pairs_fit loose older ps k v) h in
        let q = and_parts (fits loose older l (of k)) (fits loose older w (of v)) p.0 in
        and_from _ _ (and_from _ _ (fits-grows l (of k) q.0 (of k) refl) (fits-grows w (of v) q.1 (of v) refl)) (pairs_fit-grows ps k v p.1)

pub growth_keeps : GrowthKeepsFitting
growth_keeps loose older newer s t grows h = fits-grows loose older newer grows t (of s) h (of s) refl
