use Rattle.std.proofs.Common.{◌+◌, ◌*◌, ◌≤◌, drop}
use Rattle.bcs_registry_model.specs.View.{shape_of, formats_shapes}
use Rattle.bcs_registry_model.specs.WellFormed.{levels, shapes_levels}
use Rattle.bcs_display_example.proofs.node_counts.+node_counts.Given as goal

abbrev pub decreases-format_nodes : goal.decreases-format_nodes
decreases-format_nodes l = 2 * levels (shape_of l.format.now)

abbrev pub decreases-row_nodes : goal.decreases-row_nodes
decreases-row_nodes l = 2 * shapes_levels (formats_shapes l.formats.now) + 1

abbrev pub invariant-row_nodes-loop-format : goal.invariant-row_nodes-loop-format
invariant-row_nodes-loop-format l = shapes_levels (formats_shapes (drop l.format-index l.formats)) ≤ shapes_levels (formats_shapes l.formats)
