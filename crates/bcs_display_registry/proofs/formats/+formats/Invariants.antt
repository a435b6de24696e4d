use Rattle.std.proofs.Common.{◌+◌, ◌*◌, ◌≤◌, drop}
use Rattle.bcs_registry_model.specs.View.{shape_of, formats_shapes}
use Rattle.bcs_registry_model.specs.WellFormed.{levels, shapes_levels}
use Rattle.bcs_display_registry.proofs.formats.+formats.Given as goal

abbrev pub decreases-put_format : goal.decreases-put_format
decreases-put_format l = 2 * levels (shape_of l.format.now)

abbrev pub decreases-put_between : goal.decreases-put_between
decreases-put_between l = 2 * levels (shape_of l.format.now) + 1

abbrev pub decreases-put_row : goal.decreases-put_row
decreases-put_row l = 2 * shapes_levels (formats_shapes l.formats.now) + 1

abbrev pub invariant-put_row-loop-i : goal.invariant-put_row-loop-i
invariant-put_row-loop-i l = shapes_levels (formats_shapes (drop l.i l.formats)) ≤ shapes_levels (formats_shapes l.formats)
