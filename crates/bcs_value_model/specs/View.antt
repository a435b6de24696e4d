-- The tree that a `Value` represents.
use Rattle.std.specs.Prelude.{List, [], ◌∷◌, map, string_bytes}
use Rattle.bcs_value_model.specs.Tree as tree
use Rattle.bcs_value_model.specs.Tree.{Tree, Trees, Pairs}
use Rattle.bcs_value_model.specs.declared.value.Value.{Value, fold-Value}
use Rattle.bcs_value_model.specs.declared.value.Value.TheOpen.{Value-F}

abbrev pub trees_of : List Tree → Trees
trees_of [] = tree.no_trees
trees_of (t ∷ ts) = tree.tree t (trees_of ts)

abbrev pub pairs_of : List (Tree × Tree) → Pairs
pairs_of [] = tree.no_pairs
pairs_of (p ∷ ps) = tree.pair p.0 p.1 (pairs_of ps)

-- one level, where each inner value has already been replaced with its tree
abbrev pub tree_step : Value-F Tree → Tree
tree_step Value-F.Unit = tree.unit
tree_step (Value-F.Bool b) = tree.truth b
tree_step (Value-F.Unsigned n) = tree.unsigned n
tree_step (Value-F.Signed z) = tree.signed z
tree_step (Value-F.Text s) = tree.text (string_bytes s)
tree_step (Value-F.Bytes b) = tree.bytes b.items
tree_step Value-F.Absent = tree.absent
tree_step (Value-F.Present t) = tree.present t.value
tree_step (Value-F.Items ts) = tree.items (trees_of ts.items)
tree_step (Value-F.Variant n t) = tree.variant n t.value
tree_step (Value-F.Pairs ps) = tree.pairs (pairs_of ps.items)
tree_step (Value-F.Named t) = tree.named t.value

abbrev pub tree_of : Value → Tree
tree_of = fold-Value Tree tree_step

abbrev pub items_trees : List Value → Trees
items_trees vs = trees_of (map tree_of vs)

abbrev pub entries_pairs : List (Value × Value) → Pairs
entries_pairs ps = pairs_of (map (λ p. (tree_of p.0, tree_of p.1)) ps)
