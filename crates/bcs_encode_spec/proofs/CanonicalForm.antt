-- The canonical form as a function, for proofs: `IsForm` defines it, and `one_canonical_form` shows that it is unique.
use Rattle.bcs_encode_spec.proofs.Prelude.{nat_cmp, slice_cmp, Ordering, Less, Equal, Greater, Shape, Shapes, no_shapes, shape, Entries, Content, of, one_of, content_at, choice_at, Tree, Trees, no_trees, tree, Pairs, no_pairs, pair, plain}
use Rattle.bcs_registry_model.specs.Shape as shape
use Rattle.bcs_value_model.specs.Tree as tree

-- depending on the order of k and l: the pair (k, v) first, or the pair (l, w) followed by the rest
abbrev pub place : Ordering → Tree → Tree → Tree → Tree → Pairs → Pairs → Pairs
place Less k v l w ps rest = pair k v (pair l w ps)
place Equal k v l w ps rest = pair k v (pair l w ps)
place Greater k v l w ps rest = pair l w rest

module _ (registry : Entries) where
  -- inserts a pair into pairs whose encoded keys ascend
  abbrev pub insert : Shape → Tree → Tree → Pairs → Pairs
  insert f k v no_pairs = pair k v no_pairs
  insert f k v (pair l w ps) = place (slice_cmp nat_cmp (plain registry k (of f)) (plain registry l (of f))) k v l w ps (insert f k v ps)

  abbrev mutual
    pub form_of : Tree → Content → Tree
    form_of (tree.present t) (of (shape.option s)) = tree.present (form_of t (of s))
    form_of (tree.items ts) (of (shape.seq s)) = tree.items (items_form ts s)
    form_of (tree.items ts) (of (shape.tuple ss)) = tree.items (each_form ts ss)
    form_of (tree.items ts) (of (shape.array s n)) = tree.items (items_form ts s)
    form_of (tree.pairs ps) (of (shape.map k v)) = tree.pairs (pairs_form ps k v)
    form_of (tree.named t) (of (shape.name n)) = tree.named (form_of t (content_at n registry))
    form_of (tree.variant n t) (one_of cs) = tree.variant n (form_of t (choice_at n cs))
    form_of t f = t

    pub items_form : Trees → Shape → Trees
    items_form no_trees s = no_trees
    items_form (tree t ts) s = tree (form_of t (of s)) (items_form ts s)

    pub each_form : Trees → Shapes → Trees
    each_form (tree t ts) (shape s ss) = tree (form_of t (of s)) (each_form ts ss)
    each_form ts ss = ts

    pub pairs_form : Pairs → Shape → Shape → Pairs
    pairs_form no_pairs k v = no_pairs
    pairs_form (pair l w ps) k v = insert k (form_of l (of k)) (form_of w (of v)) (pairs_form ps k v)
