use Rattle.bcs_registry_json.proofs.Prelude.{◌≡◌, map, take, view}
use Rattle.bcs_registry_json.proofs.ShownParts.{field_data}
use Rattle.bcs_registry_json.proofs.printing.formats.field_values.Given as goal

abbrev pub invariant-loop-field : goal.invariant-loop-field
invariant-loop-field l = map view l.values.items ≡ map field_data (take l.field-index l.field-items)
