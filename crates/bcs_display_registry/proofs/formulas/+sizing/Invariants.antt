use Rattle.std.proofs.Common.{◌+◌, ◌*◌, ◌≤◌, drop}
use Rattle.bcs_registry_model.specs.View.{shape_of, formats_shapes}
use Rattle.bcs_registry_model.specs.WellFormed.{levels, shapes_levels}
use Rattle.bcs_display_registry.proofs.formulas.+sizing.Given as goal

abbrev pub decreases-push_format : goal.decreases-push_format
decreases-push_format l = 2 * levels (shape_of l.format.now)

abbrev pub decreases-push_row : goal.decreases-push_row
decreases-push_row l = 2 * shapes_levels (formats_shapes l.formats.now) + 1

abbrev pub invariant-push_row-loop-format : goal.invariant-push_row-loop-format
invariant-push_row-loop-format l = shapes_levels (formats_shapes (drop l.format-index l.formats)) ≤ shapes_levels (formats_shapes l.formats)
