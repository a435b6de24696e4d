-- Trees whose lengths are all at most `limit`.
use Rattle.std.specs.Prelude.{ℕ, length, Bool, true, ◌&&◌, nat_le}
use Rattle.bcs_value_model.specs.Tree as tree
use Rattle.bcs_value_model.specs.Tree.{Tree, Trees, no_trees, tree, Pairs, no_pairs, pair, count, pair_count}
use Rattle.bcs_registry_model.specs.Shape as shape
use Rattle.bcs_registry_model.specs.Shape.{Shape, Shapes, no_shapes, shape}
use Rattle.bcs_registry_model.specs.Container.{Entries, Content, of, one_of, content_at, choice_at}

module _ (limit : ℕ) (registry : Entries) where
  abbrev mutual
    pub lengths_hold : Tree → Content → Bool
    lengths_hold (tree.text s) (of shape.text) = nat_le (length s) limit
    lengths_hold (tree.bytes s) (of shape.bytes) = nat_le (length s) limit
    lengths_hold (tree.present t) (of (shape.option s)) = lengths_hold t (of s)
    lengths_hold (tree.items ts) (of (shape.seq s)) = nat_le (count ts) limit && all_hold ts s
    lengths_hold (tree.items ts) (of (shape.tuple ss)) = each_holds ts ss
    lengths_hold (tree.items ts) (of (shape.array s n)) = all_hold ts s
    lengths_hold (tree.pairs ps) (of (shape.map k v)) = nat_le (pair_count ps) limit && pairs_hold ps k v
    lengths_hold (tree.named t) (of (shape.name n)) = lengths_hold t (content_at n registry)
    lengths_hold (tree.variant n t) (one_of cs) = lengths_hold t (choice_at n cs)
    lengths_hold _ _ = true

    pub all_hold : Trees → Shape → Bool
    all_hold no_trees s = true
    all_hold (tree t ts) s = lengths_hold t (of s) && all_hold ts s

    pub each_holds : Trees → Shapes → Bool
    each_holds (tree t ts) (shape s ss) = lengths_hold t (of s) && each_holds ts ss
    each_holds _ _ = true

    pub pairs_hold : Pairs → Shape → Shape → Bool
    pairs_hold no_pairs k v = true
    pairs_hold (pair l w ps) k v = (lengths_hold l (of k) && lengths_hold w (of v)) && pairs_hold ps k v

-- the greatest length (BCS specification): number of elements or entries, or of the bytes of a string or byte string
abbrev pub length_limit : ℕ
length_limit = 2147483647
