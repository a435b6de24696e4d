-- The bytes of a fitting tree (BCS specification), with the entries of its maps in the given order.
use Rattle.std.specs.Prelude.{ℕ, List, [], ◌∷◌, ◌++◌, length, Bool, true, false}
use Rattle.bcs_num.specs.Uleb.{uleb}
use Rattle.bcs_num.specs.Le.{le, le_signed}
use Rattle.bcs_registry_model.specs.Shape as shape
use Rattle.bcs_registry_model.specs.Shape.{Shape, Shapes, no_shapes, shape}
use Rattle.bcs_registry_model.specs.Container.{Entries, Content, of, one_of, content_at, choice_at}
use Rattle.bcs_value_model.specs.Tree as tree
use Rattle.bcs_value_model.specs.Tree.{Tree, Trees, no_trees, tree, Pairs, no_pairs, pair, count, pair_count}

abbrev pub truth_byte : Bool → ℕ
truth_byte true = 1
truth_byte false = 0

module _ (registry : Entries) where
  abbrev mutual
    pub plain : Tree → Content → List ℕ
    plain (tree.truth b) (of shape.truth) = truth_byte b ∷ []
    plain (tree.unsigned n) (of (shape.unsigned w)) = le w n
    plain (tree.signed z) (of (shape.signed w)) = le_signed w z
    plain (tree.text s) (of shape.text) = uleb (length s) ++ s
    plain (tree.bytes s) (of shape.bytes) = uleb (length s) ++ s
    plain tree.absent (of (shape.option s)) = 0 ∷ []
    plain (tree.present t) (of (shape.option s)) = 1 ∷ plain t (of s)
    plain (tree.items ts) (of (shape.seq s)) = uleb (count ts) ++ plain_items ts s
    plain (tree.items ts) (of (shape.tuple ss)) = plain_each ts ss
    plain (tree.items ts) (of (shape.array s n)) = plain_items ts s
    plain (tree.pairs ps) (of (shape.map k v)) = uleb (pair_count ps) ++ plain_pairs ps k v
    plain (tree.named t) (of (shape.name n)) = plain t (content_at n registry)
    plain (tree.variant n t) (one_of cs) = uleb n ++ plain t (choice_at n cs)
    plain _ _ = []

    pub plain_items : Trees → Shape → List ℕ
    plain_items no_trees s = []
    plain_items (tree t ts) s = plain t (of s) ++ plain_items ts s

    pub plain_each : Trees → Shapes → List ℕ
    plain_each (tree t ts) (shape s ss) = plain t (of s) ++ plain_each ts ss
    plain_each _ _ = []

    pub plain_pairs : Pairs → Shape → Shape → List ℕ
    plain_pairs no_pairs k v = []
    plain_pairs (pair l w ps) k v = plain l (of k) ++ (plain w (of v) ++ plain_pairs ps k v)
