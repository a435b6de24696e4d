use Rattle.bcs_registry_json.proofs.Prelude.{take}
use Rattle.bcs_registry_json.proofs.ContainerText.{fits_field}
use Rattle.bcs_registry_json.proofs.ShownParts.{field_data}
use Rattle.bcs_registry_json.proofs.Rows.{IsRow}
use Rattle.bcs_registry_json.proofs.container_text.fields_from.Given as goal

-- the elements read so far are the fields so far
abbrev pub invariant-loop-part : goal.invariant-loop-part
invariant-loop-part l = IsRow field_data fits_field (take l.part-index l.part-items) l.fields.items
