use Rattle.bcs_registry_json.proofs.Prelude.{◌≡◌, true, drop, depth, items_view, view, are_formats}
use Rattle.bcs_registry_json.proofs.shaped.+shaped.Given as goal

abbrev pub decreases-is_format_shaped : goal.decreases-is_format_shaped
decreases-is_format_shaped l = depth (view l.value.now)

abbrev pub decreases-is_map_shaped : goal.decreases-is_map_shaped
decreases-is_map_shaped l = depth (view l.value.now)

abbrev pub decreases-is_tuple_array_shaped : goal.decreases-is_tuple_array_shaped
decreases-is_tuple_array_shaped l = depth (view l.value.now)

abbrev pub decreases-is_tuple_shaped : goal.decreases-is_tuple_shaped
decreases-is_tuple_shaped l = depth (view l.value.now)

-- the result depends on the remaining elements only
abbrev pub invariant-is_tuple_shaped-loop-part : goal.invariant-is_tuple_shaped-loop-part
invariant-is_tuple_shaped-loop-part l = are_formats true (items_view l.part-items) ≡ are_formats true (items_view (drop l.part-index l.part-items))
