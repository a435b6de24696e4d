use Rattle.bcs_registry_json.proofs.Prelude.{◌+◌, ◌*◌, take, depth, view}
use Rattle.bcs_registry_json.proofs.FormatText.{fits_format}
use Rattle.bcs_registry_json.proofs.ShownParts.{format_data}
use Rattle.bcs_registry_json.proofs.Rows.{IsRow}
use Rattle.bcs_registry_json.proofs.format_text.+format_text.Given as goal

-- a level takes two steps: the object, and then the part in it
abbrev pub decreases-format_from : goal.decreases-format_from
decreases-format_from l = 2 * depth (view l.value.now)

abbrev pub decreases-tagged_format_from : goal.decreases-tagged_format_from
decreases-tagged_format_from l = 2 * depth (view l.part.now) + 1

abbrev pub decreases-map_from : goal.decreases-map_from
decreases-map_from l = 2 * depth (view l.value.now)

abbrev pub decreases-tuple_array_from : goal.decreases-tuple_array_from
decreases-tuple_array_from l = 2 * depth (view l.value.now)

abbrev pub decreases-formats_from : goal.decreases-formats_from
decreases-formats_from l = 2 * depth (view l.value.now)

-- the elements read so far are the formats so far
abbrev pub invariant-formats_from-loop-part : goal.invariant-formats_from-loop-part
invariant-formats_from-loop-part l = IsRow format_data fits_format (take l.part-index l.part-items) l.formats.items
