use Rattle.bcs_registry_model.proofs.Prelude.{◌≡◌, ◌+◌, ◌*◌, ◌≤◌, drop, same_shapes, shape_of, formats_shapes, levels, shapes_levels}
use Rattle.bcs_registry_model.proofs.equality.+equality.Given as goal

abbrev pub invariant-are_same_formats-loop-i : goal.invariant-are_same_formats-loop-i
invariant-are_same_formats-loop-i l = record {
  whole : same_shapes (formats_shapes l.ones) (formats_shapes l.others) ≡ same_shapes (formats_shapes (drop l.i l.ones)) (formats_shapes (drop l.i l.others));
  low : shapes_levels (formats_shapes (drop l.i l.ones)) ≤ shapes_levels (formats_shapes l.ones);
}

abbrev pub decreases-is_same_format : goal.decreases-is_same_format
decreases-is_same_format l = 2 * levels (shape_of l.one.now)

abbrev pub decreases-are_same_formats : goal.decreases-are_same_formats
decreases-are_same_formats l = 2 * shapes_levels (formats_shapes l.ones.now) + 1
