use Rattle.bcs_registry_model.proofs.Prelude.{◌≡◌, drop, nat_le, formats_shapes}
use Rattle.bcs_registry_model.specs.WellFormed as spec
use Rattle.bcs_registry_model.proofs.levels.+levels.Given as goal

abbrev pub invariant-have_levels_within-loop-format : goal.invariant-have_levels_within-loop-format
invariant-have_levels_within-loop-format l =
    nat_le (spec.shapes_levels (formats_shapes l.formats)) l.limit
    ≡ nat_le (spec.shapes_levels (formats_shapes (drop l.format-index l.formats))) l.limit
