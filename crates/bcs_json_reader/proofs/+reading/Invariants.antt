use Rattle.bcs_json_reader.proofs.Prelude.{◌≡◌, ℕ, ◌+◌, ◌*◌, max, List, length, map, drop, Ok, into_iter_items, items_view, members_view, field_shapes, payload_shape, shape_of, formats_shapes, field_of, payload_of, levels, shapes_levels, of, PointerStep, item_parts, each_parts, entry_parts, field_parts, IsPlaceAmong, follow, read_data}
use Rattle.bcs_json_spec.specs.Reading as spec
use Rattle.bcs_json_reader.proofs.Rows.{joined}
use Rattle.bcs_json_reader.proofs.PairRows.{joined_pairs}
use Rattle.bcs_json_reader.proofs.+reading.Given as goal

-- a format in a registry has at most 33 levels, including those of its container
abbrev work : ℕ → ℕ → ℕ
work d n = 10 * (35 * d + n)

abbrev pub decreases-reading::read : goal.decreases-reading::read
decreases-reading::read l = work l.left (levels (shape_of l.format.now)) + 5

abbrev pub decreases-reading::read_option : goal.decreases-reading::read_option
decreases-reading::read_option l = work l.left (levels (shape_of l.content.now)) + 7

abbrev pub decreases-reading::read_list : goal.decreases-reading::read_list
decreases-reading::read_list l = work l.left (levels (shape_of l.element.now)) + 7

abbrev pub decreases-reading::read_array : goal.decreases-reading::read_array
decreases-reading::read_array l = work l.left (levels (shape_of l.element.now)) + 7

abbrev pub decreases-reading::read_tuple : goal.decreases-reading::read_tuple
decreases-reading::read_tuple l = work l.left (shapes_levels (formats_shapes l.formats.now)) + 7

abbrev pub decreases-reading::read_map : goal.decreases-reading::read_map
decreases-reading::read_map l = work l.left (max (levels (shape_of l.key.now)) (levels (shape_of l.content.now))) + 8

abbrev pub decreases-parts::read_all : goal.decreases-parts::read_all
decreases-parts::read_all l = work l.left (levels (shape_of l.element.now)) + 6

abbrev pub decreases-parts::read_each : goal.decreases-parts::read_each
decreases-parts::read_each l = work l.left (shapes_levels (formats_shapes l.formats.now)) + 6

abbrev pub decreases-parts::read_pairs : goal.decreases-parts::read_pairs
decreases-parts::read_pairs l = work l.left (max (levels (shape_of l.key.now)) (levels (shape_of l.content.now))) + 7

abbrev pub decreases-parts::read_entry : goal.decreases-parts::read_entry
decreases-parts::read_entry l = work l.left (max (levels (shape_of l.key.now)) (levels (shape_of l.content.now))) + 6

abbrev pub decreases-parts::read_fields : goal.decreases-parts::read_fields
decreases-parts::read_fields l = work l.left (shapes_levels (field_shapes (map field_of l.fields.now))) + 6

abbrev pub decreases-containers::read_named : goal.decreases-containers::read_named
decreases-containers::read_named l = work l.left 0 + 3

abbrev pub decreases-containers::read_content : goal.decreases-containers::read_content
decreases-containers::read_content l = work l.left 34 + 2

abbrev pub decreases-containers::read_struct : goal.decreases-containers::read_struct
decreases-containers::read_struct l = work l.left (shapes_levels (field_shapes (map field_of l.fields.now))) + 7

abbrev pub decreases-containers::read_enum : goal.decreases-containers::read_enum
decreases-containers::read_enum l = work l.left 34 + 1

abbrev pub decreases-containers::read_payload : goal.decreases-containers::read_payload
decreases-containers::read_payload l = work l.left (levels (payload_shape (payload_of l.payload.now))) + 6

-- in each loop, what was read so far and what is left are the whole, and a place in what is left is one in the whole

abbrev pub invariant-parts::read_all-loop-item : goal.invariant-parts::read_all-loop-item
invariant-parts::read_all-loop-item l =
    (spec.read_all (read_data l.registry l.left (of (shape_of l.element))) (items_view l.fn.items.items)
    ≡ follow (spec.read_all (read_data l.registry l.left (of (shape_of l.element))) (items_view (into_iter_items l.item-iterator))) (λ ts. Ok (joined l.found.items ts)))
    × ((path : List PointerStep) → IsPlaceAmong l.registry path (item_parts l.left (shape_of l.element) (length l.found.items) (items_view (into_iter_items l.item-iterator)))
    → IsPlaceAmong l.registry path (item_parts l.left (shape_of l.element) 0 (items_view l.fn.items.items)))

abbrev pub invariant-parts::read_each-loop-format : goal.invariant-parts::read_each-loop-format
invariant-parts::read_each-loop-format l =
    (spec.read_each (spec.read_named l.registry l.left) (formats_shapes l.formats) (items_view l.fn.items.items)
    ≡ follow (spec.read_each (spec.read_named l.registry l.left) (formats_shapes (drop l.format-index l.formats)) (items_view (into_iter_items l.rest))) (λ ts. Ok (joined l.found.items ts)))
    × ((path : List PointerStep) → IsPlaceAmong l.registry path (each_parts l.left (formats_shapes (drop l.format-index l.formats)) (length l.found.items) (items_view (into_iter_items l.rest)))
    → IsPlaceAmong l.registry path (each_parts l.left (formats_shapes l.formats) 0 (items_view l.fn.items.items)))

abbrev pub invariant-parts::read_pairs-loop-item : goal.invariant-parts::read_pairs-loop-item
invariant-parts::read_pairs-loop-item l =
    (spec.read_pairs (read_data l.registry l.left (of (shape_of l.key))) (read_data l.registry l.left (of (shape_of l.content))) (items_view l.fn.items.items)
    ≡ follow (spec.read_pairs (read_data l.registry l.left (of (shape_of l.key))) (read_data l.registry l.left (of (shape_of l.content))) (items_view (into_iter_items l.item-iterator))) (λ ps. Ok (joined_pairs l.found.items ps)))
    × ((path : List PointerStep) → IsPlaceAmong l.registry path (entry_parts l.left (shape_of l.key) (shape_of l.content) (length l.found.items) (items_view (into_iter_items l.item-iterator)))
    → IsPlaceAmong l.registry path (entry_parts l.left (shape_of l.key) (shape_of l.content) 0 (items_view l.fn.items.items)))

abbrev pub invariant-parts::read_fields-loop-field : goal.invariant-parts::read_fields-loop-field
invariant-parts::read_fields-loop-field l =
    (spec.read_fields (spec.read_named l.registry l.left) (map field_of l.fields) (members_view l.fn.members.entries)
    ≡ follow (spec.read_fields (spec.read_named l.registry l.left) (map field_of (drop l.field-index l.fields)) (members_view l.members.entries)) (λ ts. Ok (joined l.found.items ts)))
    × ((path : List PointerStep) → IsPlaceAmong l.registry path (field_parts l.left (map field_of (drop l.field-index l.fields)) (members_view l.members.entries))
    → IsPlaceAmong l.registry path (field_parts l.left (map field_of l.fields) (members_view l.fn.members.entries)))
