-- Canonical trees: the entries of each map are in ascending order of their encoded keys (BCS specification).
use Rattle.std.specs.Prelude.{◌≡◌, ℕ, ◌<◌, List, [], ◌∷◌, ◌⊎◌}
use Rattle.bcs_value_model.specs.Tree as tree
use Rattle.bcs_value_model.specs.Tree.{Tree, Trees, no_trees, tree, Pairs, no_pairs, pair}
use Rattle.bcs_registry_model.specs.Shape as shape
use Rattle.bcs_registry_model.specs.Shape.{Shape, Shapes, no_shapes, shape}
use Rattle.bcs_registry_model.specs.Container.{Entries, Content, of, one_of, content_at, choice_at}
use Rattle.bcs_encode_spec.specs.Plain.{plain}

-- a is a proper prefix of b, or has the lower byte at the first index where they differ
abbrev pub Below : List ℕ → List ℕ → Type 0
Below [] [] = ⊥
Below [] (y ∷ ys) = Unit {0}
Below (x ∷ xs) [] = ⊥
Below (x ∷ xs) (y ∷ ys) = (x < y) ⊎ ((x ≡ y) × Below xs ys)

module _ (registry : Entries) where
  -- the encoded keys ascend, and the first one is above b
  abbrev pub RisesFrom : List ℕ → Pairs → Shape → Type 0
  RisesFrom b no_pairs f = Unit {0}
  RisesFrom b (pair k v ps) f = Below b (plain registry k (of f)) × RisesFrom (plain registry k (of f)) ps f

  -- the encoded keys ascend
  abbrev pub Rises : Pairs → Shape → Type 0
  Rises no_pairs f = Unit {0}
  Rises (pair k v ps) f = RisesFrom (plain registry k (of f)) ps f

  abbrev mutual
    pub IsCanonical : Tree → Content → Type 0
    IsCanonical (tree.present t) (of (shape.option s)) = IsCanonical t (of s)
    IsCanonical (tree.items ts) (of (shape.seq s)) = AllCanonical ts s
    IsCanonical (tree.items ts) (of (shape.tuple ss)) = EachCanonical ts ss
    IsCanonical (tree.items ts) (of (shape.array s n)) = AllCanonical ts s
    IsCanonical (tree.pairs ps) (of (shape.map k v)) = Rises ps k × PairsCanonical ps k v
    IsCanonical (tree.named t) (of (shape.name n)) = IsCanonical t (content_at n registry)
    IsCanonical (tree.variant n t) (one_of cs) = IsCanonical t (choice_at n cs)
    IsCanonical _ _ = Unit {0}

    pub AllCanonical : Trees → Shape → Type 0
    AllCanonical no_trees s = Unit {0}
    AllCanonical (tree t ts) s = IsCanonical t (of s) × AllCanonical ts s

    pub EachCanonical : Trees → Shapes → Type 0
    EachCanonical (tree t ts) (shape s ss) = IsCanonical t (of s) × EachCanonical ts ss
    EachCanonical _ _ = Unit {0}

    pub PairsCanonical : Pairs → Shape → Shape → Type 0
    PairsCanonical no_pairs k v = Unit {0}
    PairsCanonical (pair l w ps) k v = IsCanonical l (of k) × IsCanonical w (of v) × PairsCanonical ps k v
