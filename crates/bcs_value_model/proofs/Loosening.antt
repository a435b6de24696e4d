-- A value that fits strictly also fits loosely.
use Rattle.bcs_value_model.proofs.Prelude.{◌≡◌, true, false, ◌&&◌, ◌==◌, ◌^◌, nat_lt, false≢true, and_parts, and_from, Shape, Shapes, no_shapes, shape, Entries, Content, of, one_of, content_at, choice_at, Tree, Trees, no_trees, tree, Pairs, no_pairs, pair, count, fits, all_fit, each_fits, pairs_fit, FitsStrictlyThenLoosely}
use Rattle.bcs_registry_model.specs.Shape as shape
use Rattle.bcs_value_model.specs.Tree as tree

module _ (r : Entries) where
  mutual
    pub loosen : (t : Tree) (c : Content) → fits false r t c ≡ true → fits true r t c ≡ true
    loosen tree.unit (of shape.unit) h = h
    loosen (tree.truth b) (of shape.truth) h = h
    loosen (tree.unsigned n) (of (shape.unsigned w)) h = h
    loosen (tree.signed z) (of (shape.signed w)) h = h
    loosen (tree.text s) (of shape.text) h = h
    loosen (tree.bytes s) (of shape.bytes) h = h
    loosen tree.absent (of (shape.option s)) h = h
    loosen (tree.present t) (of (shape.option s)) h = loosen t (of s) h
    loosen (tree.items ts) (of (shape.seq s)) h = loosen_all ts s h
    loosen (tree.items ts) (of (shape.tuple ss)) h = loosen_each ts ss h
    loosen (tree.items ts) (of (shape.array s n)) h =
        let p = and_parts (count ts == n) (all_fit false r ts s) h in
        and_from _ _ p.0 (loosen_all ts s p.1)
    loosen (tree.pairs ps) (of (shape.map k v)) h = loosen_pairs ps k v h
    loosen (tree.named t) (of (shape.name n)) h = loosen t (content_at n r) h
    loosen (tree.variant n t) (one_of cs) h =
        let p = and_parts (nat_lt n (2 ^ 32)) (fits false r t (choice_at n cs)) h in
        and_from _ _ p.0 (loosen t (choice_at n cs) p.1)
    loosen (tree.variant n t) (of (shape.unsupported u)) h = absurd (search (false≢true))
    loosen _ _ h = absurd (search (false≢true))

    loosen_all : (ts : Trees) (s : Shape) → all_fit false r ts s ≡ true → all_fit true r ts s ≡ true
    loosen_all no_trees s h = h
    loosen_all (tree t ts) s h =
        let p = and_parts (fits false r t (of s)) (all_fit false r ts s) h in
        and_from _ _ (loosen t (of s) p.0) (loosen_all ts s p.1)

    loosen_each : (ts : Trees) (ss : Shapes) → each_fits false r ts ss ≡ true → each_fits true r ts ss ≡ true
    loosen_each no_trees no_shapes h = h
    loosen_each (tree t ts) (shape s ss) h =
        let p = and_parts (fits false r t (of s)) (each_fits false r ts ss) h in
        and_from _ _ (loosen t (of s) p.0) (loosen_each ts ss p.1)
    loosen_each no_trees (shape s ss) h = h
    loosen_each (tree t ts) no_shapes h = h

    loosen_pairs : (ps : Pairs) (k v : Shape) → pairs_fit false r ps k v ≡ true → pairs_fit true r ps k v ≡ true
    loosen_pairs no_pairs k v h = h
    loosen_pairs (pair l w ps) k v h =
        let p = and_parts (fits false r l (of k) && fits false r w (of v)) (pairs_fit false r ps k v) h in
        let q = and_parts (fits false r l (of k)) (fits false r w (of v)) p.0 in
        and_from _ _ (and_from _ _ (loosen l (of k) q.0) (loosen w (of v) q.1)) (loosen_pairs ps k v p.1)

pub strictly_then_loosely : FitsStrictlyThenLoosely
strictly_then_loosely r s t h = loosen r t (of s) h
