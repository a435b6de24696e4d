-- Trees without maps. Such a tree is its own canonical form.
use Rattle.std.specs.Prelude.{Bool, true, false, ◌||◌}
use Rattle.bcs_value_model.specs.Tree.{Tree, present, items, variant, pairs, named, Trees, no_trees, tree}

-- the tree is a map or contains one
abbrev mutual
  pub holds_map : Tree → Bool
  holds_map (present t) = holds_map t
  holds_map (items ts) = any_holds_map ts
  holds_map (variant n t) = holds_map t
  holds_map (pairs ps) = true
  holds_map (named t) = holds_map t
  holds_map _ = false

  pub any_holds_map : Trees → Bool
  any_holds_map no_trees = false
  any_holds_map (tree t ts) = holds_map t || any_holds_map ts
