-- Trees that have an encoding.
use Rattle.std.specs.Prelude.{◌≤◌, IsTrue, false}
use Rattle.bcs_registry_model.specs.Container.{Entries, Content, of}
use Rattle.bcs_registry_model.specs.Shape.{Shape}
use Rattle.bcs_value_model.specs.Tree.{Tree, depth, nodes}
use Rattle.bcs_value_model.specs.Fits.{fits}
use Rattle.bcs_value_model.specs.Same.{HasDistinctKeys}
use Rattle.bcs_value_model.specs.Limits.{Bounds}
use Rattle.bcs_encode_spec.specs.Lengths.{length_limit, lengths_hold}

-- the tree fits the content, the keys of each map are distinct, and depth, nodes and lengths are within the limits
pub record IsSoundAt (registry : Entries) (limits : Bounds) (f : Content) (t : Tree) : Type 0 where
  pub fit : IsTrue (fits false registry t f)
  pub distinct : HasDistinctKeys t
  pub depth_holds : depth t ≤ limits.depth
  pub nodes_hold : nodes t ≤ limits.nodes
  pub lengths : IsTrue (lengths_hold length_limit registry t f)

-- the same for a format
abbrev pub IsSound : Entries → Bounds → Shape → Tree → Type 0
IsSound registry limits s t = IsSoundAt registry limits (of s) t
