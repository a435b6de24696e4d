-- Values as trees, without the memory layout of `Value`.
use Rattle.std.specs.Prelude.{ℕ, suc, max, ◌+◌, ℤ, List, Bool}

mutual
  pub data Tree : Type 0 where
    unit : Tree
    truth : Bool → Tree
    unsigned : ℕ → Tree
    signed : ℤ → Tree
    text : List ℕ → Tree
    bytes : List ℕ → Tree
    absent : Tree
    present : Tree → Tree
    items : Trees → Tree
    variant : ℕ → Tree → Tree
    pairs : Pairs → Tree
    -- the value of a container
    named : Tree → Tree

  pub data Trees : Type 0 where
    no_trees : Trees
    tree : Tree → Trees → Trees

  pub data Pairs : Type 0 where
    no_pairs : Pairs
    pair : Tree → Tree → Pairs → Pairs

abbrev pub count : Trees → ℕ
count no_trees = 0
count (tree t ts) = suc (count ts)

abbrev pub pair_count : Pairs → ℕ
pair_count no_pairs = 0
pair_count (pair k v ps) = suc (pair_count ps)

-- the greatest number of `named` on a path from the root
abbrev mutual
  pub depth : Tree → ℕ
  depth unit = 0
  depth (truth b) = 0
  depth (unsigned n) = 0
  depth (signed z) = 0
  depth (text s) = 0
  depth (bytes s) = 0
  depth absent = 0
  depth (present t) = depth t
  depth (items ts) = trees_depth ts
  depth (variant n t) = depth t
  depth (pairs ps) = pairs_depth ps
  depth (named t) = suc (depth t)

  pub trees_depth : Trees → ℕ
  trees_depth no_trees = 0
  trees_depth (tree t ts) = max (depth t) (trees_depth ts)

  pub pairs_depth : Pairs → ℕ
  pairs_depth no_pairs = 0
  pairs_depth (pair k v ps) = max (max (depth k) (depth v)) (pairs_depth ps)

-- the number of nodes: the tree itself and all trees inside it
abbrev mutual
  pub nodes : Tree → ℕ
  nodes (present t) = suc (nodes t)
  nodes (items ts) = suc (trees_nodes ts)
  nodes (variant n t) = suc (nodes t)
  nodes (pairs ps) = suc (pairs_nodes ps)
  nodes (named t) = suc (nodes t)
  nodes _ = 1

  pub trees_nodes : Trees → ℕ
  trees_nodes no_trees = 0
  trees_nodes (tree t ts) = nodes t + trees_nodes ts

  pub pairs_nodes : Pairs → ℕ
  pairs_nodes no_pairs = 0
  pairs_nodes (pair k v ps) = (nodes k + nodes v) + pairs_nodes ps
