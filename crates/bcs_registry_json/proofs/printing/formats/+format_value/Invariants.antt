use Rattle.bcs_registry_json.proofs.Prelude.{◌≡◌, ◌+◌, ◌*◌, ◌≤◌, drop, map, take, view, formats_shapes, shape_of, levels, shapes_levels}
use Rattle.bcs_registry_json.proofs.ShownParts.{format_data}
use Rattle.bcs_registry_json.proofs.printing.formats.+format_value.Given as goal

abbrev pub decreases-format_value : goal.decreases-format_value
decreases-format_value l = 2 * levels (shape_of l.format.now)

abbrev pub decreases-format_values : goal.decreases-format_values
decreases-format_values l = 2 * shapes_levels (formats_shapes l.formats.now) + 1

abbrev pub invariant-format_values-loop-format : goal.invariant-format_values-loop-format
invariant-format_values-loop-format l = record {
  shown : map view l.values.items ≡ map format_data (take l.format-index l.formats);
  low : shapes_levels (formats_shapes (drop l.format-index l.formats)) ≤ shapes_levels (formats_shapes l.formats);
}
