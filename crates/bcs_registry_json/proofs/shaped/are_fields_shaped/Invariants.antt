use Rattle.bcs_registry_json.proofs.Prelude.{◌≡◌, true, drop, items_view, all_fields}
use Rattle.bcs_registry_json.proofs.shaped.are_fields_shaped.Given as goal

-- the result depends on the remaining elements only
abbrev pub invariant-loop-field : goal.invariant-loop-field
invariant-loop-field l = all_fields true (items_view l.field-items) ≡ all_fields true (items_view (drop l.field-index l.field-items))
