-- Which trees are values of a format.
use Rattle.std.specs.Prelude.{ℕ, ◌^◌, Bool, true, false, ◌&&◌, ◌==◌, nat_lt, List, IsTrue}
use Rattle.std.specs.List.{list_all}
use Rattle.std.specs.Str.{is_utf8}
use Rattle.bcs_num.specs.Le.{holds_unsigned, holds_signed}
use Rattle.bcs_registry_model.specs.Shape as shape
use Rattle.bcs_registry_model.specs.Shape.{Shape, Shapes, no_shapes, shape}
use Rattle.bcs_registry_model.specs.Container.{Entries, Content, of, one_of, content_at, choice_at}
use Rattle.bcs_value_model.specs.Tree as tree
use Rattle.bcs_value_model.specs.Tree.{Tree, Trees, no_trees, tree, Pairs, no_pairs, pair, count}

-- each number is a byte
abbrev pub are_bytes : List ℕ → Bool
are_bytes = list_all (λ b. nat_lt b 256)

-- if loose, every value fits F32, F64 and CHAR; otherwise none does
module _ (loose : Bool) (registry : Entries) where
  abbrev mutual
    pub fits : Tree → Content → Bool
    fits t (of (shape.unsupported u)) = loose
    fits tree.unit (of shape.unit) = true
    fits (tree.truth b) (of shape.truth) = true
    fits (tree.unsigned n) (of (shape.unsigned w)) = holds_unsigned w n
    fits (tree.signed z) (of (shape.signed w)) = holds_signed w z
    fits (tree.text s) (of shape.text) = is_utf8 s
    fits (tree.bytes s) (of shape.bytes) = are_bytes s
    fits tree.absent (of (shape.option s)) = true
    fits (tree.present t) (of (shape.option s)) = fits t (of s)
    fits (tree.items ts) (of (shape.seq s)) = all_fit ts s
    fits (tree.items ts) (of (shape.tuple ss)) = each_fits ts ss
    fits (tree.items ts) (of (shape.array s n)) = count ts == n && all_fit ts s
    fits (tree.pairs ps) (of (shape.map k v)) = pairs_fit ps k v
    fits (tree.named t) (of (shape.name n)) = fits t (content_at n registry)
    fits (tree.variant n t) (one_of cs) = nat_lt n (2 ^ 32) && fits t (choice_at n cs)
    fits _ _ = false

    -- each tree fits the same format
    pub all_fit : Trees → Shape → Bool
    all_fit no_trees s = true
    all_fit (tree t ts) s = fits t (of s) && all_fit ts s

    -- there are as many trees as formats, and each fits its own
    pub each_fits : Trees → Shapes → Bool
    each_fits no_trees no_shapes = true
    each_fits (tree t ts) (shape s ss) = fits t (of s) && each_fits ts ss
    each_fits no_trees (shape s ss) = false
    each_fits (tree t ts) no_shapes = false

    pub pairs_fit : Pairs → Shape → Shape → Bool
    pairs_fit no_pairs k v = true
    pairs_fit (pair l w ps) k v = (fits l (of k) && fits w (of v)) && pairs_fit ps k v

-- the tree is a value of the format
abbrev pub Fits : Entries → Shape → Tree → Type 0
Fits registry s t = IsTrue (fits false registry t (of s))

-- t would be a value of the format if every value fitted F32, F64 and CHAR
abbrev pub FitsLoosely : Entries → Shape → Tree → Type 0
FitsLoosely registry s t = IsTrue (fits true registry t (of s))
