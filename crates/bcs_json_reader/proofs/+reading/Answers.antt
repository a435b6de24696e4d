use Rattle.bcs_json_reader.proofs.Prelude.{◌≡◌, ◌∙◌, ◌+◌, ◌≤◌, List, ◌∷◌, length, map, drop, Some, Ok, Err, option_map, string_bytes, refl, ap, sym, arith, into_iter_items, drop_more, drop_all, nil_from_length, err_from_is_err_and, get_member, view, items_view, members_view, Choice, field_shapes, payload_shape, choice_called, shape_of, formats_shapes, field_of, payload_of, choice_of, levels, shapes_levels, shape_seen, tree_of, items_trees, Value, is_byte, of, without, value, parts, item_parts, field_parts, follow, read_data, read_all, read_each, read_pairs, read_fields, read_named, read_tuple, option_json, list_json, enum_json}
use Rattle.bcs_json_reader.proofs.Rows.{joined, item_more, items_done, each_more, each_done}
use Rattle.bcs_json_reader.proofs.Counts.{count_formats, items_read, items_fault, tuple_refused, tuple_row, tuple_items, array_other, array_row, array_other_none, array_items}
use Rattle.bcs_json_reader.proofs.FieldRows.{field_more, fields_done}
use Rattle.bcs_json_reader.proofs.Formats.{reports_as, levels_here, field_levels_here}
use Rattle.bcs_json_reader.proofs.Levels.{container_found, newtype_levels, tuple_levels, struct_levels, variant_levels}
use Rattle.bcs_json_reader.proofs.OwnKind.{no_array, option_none, seq_none, array_none, map_none, tuple_none, pair_none, struct_none, enum_none}
use Rattle.bcs_json_reader.proofs.PairRows.{joined_pairs, pair_more, pairs_done}
use Rattle.bcs_json_reader.proofs.Placed.{told_ok, placed_on, placed_none, placed_as, way_as}
use Rattle.bcs_json_reader.proofs.PlacedRows.{found_more, outside_at, outside_named, some_placed, payload_placed, item_placed, item_onward, each_placed, each_onward, entry_placed, entry_onward, key_placed, value_placed, field_placed, field_onward, missing_none, each_none}
use Rattle.bcs_json_reader.proofs.+reading.Goals as goal

-- ---- formats with formats inside

pub reading::read-returns-in-Opt-clause-reports : goal.reading::read-returns-in-Opt-clause-reports
reading::read-returns-in-Opt-clause-reports t c =
    reports_as tree_of _ _ _ (ap (λ s. read_data c.args.registry.now c.args.left (of s) (view c.args.json)) (shape_seen c.args.format.now c.kind.result _ c.kind.ensures c.in-Opt.is)) c.read_option.ensures.reports

pub reading::read-returns-in-Opt-clause-placed : goal.reading::read-returns-in-Opt-clause-placed
reading::read-returns-in-Opt-clause-placed t c =
    placed_as c.args.registry.now _ _ c.read_option.result (ap (λ s. parts c.args.registry.now c.args.left (value (of s)) (view c.args.json)) (shape_seen c.args.format.now c.kind.result _ c.kind.ensures c.in-Opt.is)) c.read_option.ensures.placed

pub reading::read-returns-in-Seq-clause-reports : goal.reading::read-returns-in-Seq-clause-reports
reading::read-returns-in-Seq-clause-reports t c =
    reports_as tree_of _ _ _ (ap (λ s. read_data c.args.registry.now c.args.left (of s) (view c.args.json)) (shape_seen c.args.format.now c.kind.result _ c.kind.ensures c.in-Seq.is)) c.read_list.ensures.reports

pub reading::read-returns-in-Seq-clause-placed : goal.reading::read-returns-in-Seq-clause-placed
reading::read-returns-in-Seq-clause-placed t c =
    placed_as c.args.registry.now _ _ c.read_list.result (ap (λ s. parts c.args.registry.now c.args.left (value (of s)) (view c.args.json)) (shape_seen c.args.format.now c.kind.result _ c.kind.ensures c.in-Seq.is)) c.read_list.ensures.placed

pub reading::read-returns-in-Map-clause-reports : goal.reading::read-returns-in-Map-clause-reports
reading::read-returns-in-Map-clause-reports t c =
    reports_as tree_of _ _ _ (ap (λ s. read_data c.args.registry.now c.args.left (of s) (view c.args.json)) (shape_seen c.args.format.now c.kind.result _ c.kind.ensures c.in-Map.is)) c.read_map.ensures.reports

pub reading::read-returns-in-Map-clause-placed : goal.reading::read-returns-in-Map-clause-placed
reading::read-returns-in-Map-clause-placed t c =
    placed_as c.args.registry.now _ _ c.read_map.result (ap (λ s. parts c.args.registry.now c.args.left (value (of s)) (view c.args.json)) (shape_seen c.args.format.now c.kind.result _ c.kind.ensures c.in-Map.is)) c.read_map.ensures.placed

pub reading::read-returns-in-TupleArray-clause-reports : goal.reading::read-returns-in-TupleArray-clause-reports
reading::read-returns-in-TupleArray-clause-reports t c =
    reports_as tree_of _ _ _ (ap (λ s. read_data c.args.registry.now c.args.left (of s) (view c.args.json)) (shape_seen c.args.format.now c.kind.result _ c.kind.ensures c.in-TupleArray.is)) c.read_array.ensures.reports

pub reading::read-returns-in-TupleArray-clause-placed : goal.reading::read-returns-in-TupleArray-clause-placed
reading::read-returns-in-TupleArray-clause-placed t c =
    placed_as c.args.registry.now _ _ c.read_array.result (ap (λ s. parts c.args.registry.now c.args.left (value (of s)) (view c.args.json)) (shape_seen c.args.format.now c.kind.result _ c.kind.ensures c.in-TupleArray.is)) c.read_array.ensures.placed

-- ---- JSON of the wrong kind

pub reading::read_option-returns-in_err-option_of-clause-placed : goal.reading::read_option-returns-in_err-option_of-clause-placed
reading::read_option-returns-in_err-option_of-clause-placed t c =
    let p = err_from_is_err_and c.from_residual.result c.from_residual.ensures.1 in
    rw p.1 (placed_none c.args.registry.now _ _ p.2.1 (option_none c.args.left (shape_of c.args.content.now) (view c.args.json) _ c.in_err-option_of.ensures.fault))

pub reading::read_list-returns-in_err-items-clause-placed : goal.reading::read_list-returns-in_err-items-clause-placed
reading::read_list-returns-in_err-items-clause-placed t c =
    let p = err_from_is_err_and c.from_residual.result c.from_residual.ensures.1 in
    rw p.1 (placed_none c.args.registry.now _ _ p.2.1 (seq_none c.args.left (shape_of c.args.element.now) (view c.args.json) (no_array (view c.args.json) _ c.in_err-items.ensures.fault)))

pub reading::read_array-returns-in_err-items-clause-placed : goal.reading::read_array-returns-in_err-items-clause-placed
reading::read_array-returns-in_err-items-clause-placed t c =
    let p = err_from_is_err_and c.from_residual.result c.from_residual.ensures.1 in
    rw p.1 (placed_none c.args.registry.now _ _ p.2.1 (array_none c.args.left (shape_of c.args.element.now) c.args.size (view c.args.json) (no_array (view c.args.json) _ c.in_err-items.ensures.fault)))

pub reading::read_map-returns-in_err-items-clause-placed : goal.reading::read_map-returns-in_err-items-clause-placed
reading::read_map-returns-in_err-items-clause-placed t c =
    let p = err_from_is_err_and c.from_residual.result c.from_residual.ensures.1 in
    rw p.1 (placed_none c.args.registry.now _ _ p.2.1 (map_none c.args.left (shape_of c.args.key.now) (shape_of c.args.content.now) (view c.args.json) c.in_err-items.ensures.other))

pub parts::read_entry-returns-in_err-first-clause-placed : goal.parts::read_entry-returns-in_err-first-clause-placed
parts::read_entry-returns-in_err-first-clause-placed t c =
    let p = err_from_is_err_and c.from_residual.result c.from_residual.ensures.1 in
    rw p.1 (placed_none c.args.registry.now _ _ p.2.1 (pair_none c.args.left (shape_of c.args.key.now) (shape_of c.args.content.now) (view c.args.json) _ c.in_err-first.ensures.fault))

pub containers::read_struct-returns-in_err-members-clause-placed : goal.containers::read_struct-returns-in_err-members-clause-placed
containers::read_struct-returns-in_err-members-clause-placed t c =
    let p = err_from_is_err_and c.from_residual.result c.from_residual.ensures.1 in
    rw p.1 (placed_none c.args.registry.now _ _ p.2.1 (struct_none c.args.left (map field_of c.args.fields.now) (view c.args.json) c.in_err-members.ensures.other))

pub containers::read_enum-returns-in_err-word-clause-placed : goal.containers::read_enum-returns-in_err-word-clause-placed
containers::read_enum-returns-in_err-word-clause-placed t c =
    let p = err_from_is_err_and c.from_residual.result c.from_residual.ensures.1 in
    rw p.1 (placed_none c.args.registry.now _ _ p.2.1 (enum_none c.args.left (map choice_of c.args.variants.now.entries) (view c.args.json) _ c.in_err-word.ensures.fault))

-- ---- arrays of a fixed size

pub reading::read_array-returns-in_err-exactly-in-Array-clause-reports : goal.reading::read_array-returns-in_err-exactly-in-Array-clause-reports
reading::read_array-returns-in_err-exactly-in-Array-clause-reports t c =
    let p = err_from_is_err_and c.from_residual-in_err-exactly-in-Array.result c.from_residual-in_err-exactly-in-Array.ensures.1 in
    rw (p.1, p.2.0) (λ _. array_other (is_byte (shape_of c.args.element.now)) c.args.size (read_data c.args.registry.now c.args.left (of (shape_of c.args.element.now))) (view c.args.json) c.in-Array.items (c.in_ok-items.ensures.ok ∙ ap list_json c.in-Array.is)
    (λ is. c.in_err-exactly-in-Array.ensures.other (omega (arith, c.len.ensures, c.in-Array.items.ok, is))) ∙ ap Err (sym c.in_err-exactly-in-Array.ensures.fault))

pub reading::read_array-returns-in_err-exactly-in-Array-clause-placed : goal.reading::read_array-returns-in_err-exactly-in-Array-clause-placed
reading::read_array-returns-in_err-exactly-in-Array-clause-placed t c =
    let p = err_from_is_err_and c.from_residual-in_err-exactly-in-Array.result c.from_residual-in_err-exactly-in-Array.ensures.1 in
    rw p.1 (placed_none c.args.registry.now _ _ p.2.1 (array_other_none c.args.left (shape_of c.args.element.now) c.args.size (view c.args.json) c.in-Array.items (c.in_ok-items.ensures.ok ∙ ap list_json c.in-Array.is)
    (λ is. c.in_err-exactly-in-Array.ensures.other (omega (arith, c.len.ensures, c.in-Array.items.ok, is)))))

pub reading::read_array-returns-in_err-read_all-in-Array-clause-reports : goal.reading::read_array-returns-in_err-read_all-in-Array-clause-reports
reading::read_array-returns-in_err-read_all-in-Array-clause-reports t c =
    let p = err_from_is_err_and c.from_residual-in_err-read_all-in-Array.result c.from_residual-in_err-read_all-in-Array.ensures.1 in
    rw (p.1, p.2) (λ other. array_row (is_byte (shape_of c.args.element.now)) c.args.size (read_data c.args.registry.now c.args.left (of (shape_of c.args.element.now))) (view c.args.json) c.in-Array.items (c.in_ok-items.ensures.ok ∙ ap list_json c.in-Array.is)
    (omega (arith, c.len.ensures, c.in-Array.items.ok, c.in_ok-exactly-in-Array.ensures.ok)) ∙ items_fault _ _ (c.in_err-read_all-in-Array.ensures.reports other))

pub reading::read_array-returns-in_err-read_all-in-Array-clause-placed : goal.reading::read_array-returns-in_err-read_all-in-Array-clause-placed
reading::read_array-returns-in_err-read_all-in-Array-clause-placed t c =
    let p = err_from_is_err_and c.from_residual-in_err-read_all-in-Array.result c.from_residual-in_err-read_all-in-Array.ensures.1 in
    rw (p.1, p.2) (way_as c.args.registry.now _ _ c.in_err-read_all-in-Array.field-0.0 (array_items c.args.left (shape_of c.args.element.now) c.args.size (view c.args.json) c.in-Array.items (c.in_ok-items.ensures.ok ∙ ap list_json c.in-Array.is)
    (omega (arith, c.len.ensures, c.in-Array.items.ok, c.in_ok-exactly-in-Array.ensures.ok))) c.in_err-read_all-in-Array.ensures.placed)

pub reading::read_array-returns-in_ok-read_all-in-Array-clause-reports : goal.reading::read_array-returns-in_ok-read_all-in-Array-clause-reports
reading::read_array-returns-in_ok-read_all-in-Array-clause-reports t c =
    array_row (is_byte (shape_of c.args.element.now)) c.args.size (read_data c.args.registry.now c.args.left (of (shape_of c.args.element.now))) (view c.args.json) c.in-Array.items (c.in_ok-items.ensures.ok ∙ ap list_json c.in-Array.is)
    (omega (arith, c.len.ensures, c.in-Array.items.ok, c.in_ok-exactly-in-Array.ensures.ok)) ∙ items_read _ c.in_ok-read_all-in-Array.field-0 c.in_ok-read_all-in-Array.ensures.reports

pub reading::read_tuple-returns-in_err-items-clause-reports : goal.reading::read_tuple-returns-in_err-items-clause-reports
reading::read_tuple-returns-in_err-items-clause-reports t c =
    let p = err_from_is_err_and c.from_residual.result c.from_residual.ensures.1 in
    rw (p.1, p.2.0) (λ _. tuple_refused (read_named c.args.registry.now c.args.left) c.args.formats.now (view c.args.json) _ _ refl c.in_err-items.ensures.fault)

pub reading::read_tuple-returns-in_err-items-clause-placed : goal.reading::read_tuple-returns-in_err-items-clause-placed
reading::read_tuple-returns-in_err-items-clause-placed t c =
    let p = err_from_is_err_and c.from_residual.result c.from_residual.ensures.1 in
    rw p.1 (placed_none c.args.registry.now _ _ p.2.1 (tuple_none c.args.left (formats_shapes c.args.formats.now) (view c.args.json) _ (λ r. ap (λ n. read_tuple n r (view c.args.json)) (count_formats c.args.formats.now) ∙ c.in_err-items.ensures.fault r)))

pub reading::read_tuple-returns-in_err-read_each-clause-reports : goal.reading::read_tuple-returns-in_err-read_each-clause-reports
reading::read_tuple-returns-in_err-read_each-clause-reports t c =
    let p = err_from_is_err_and c.from_residual-in_err-read_each.result c.from_residual-in_err-read_each.ensures.1 in
    rw (p.1, p.2) (λ other. tuple_row (read_named c.args.registry.now c.args.left) c.args.formats.now (view c.args.json) c.in_ok-items.items c.in_ok-items.ensures.ok c.in_ok-items.ensures.count ∙ items_fault _ _ (c.in_err-read_each.ensures.reports other))

pub reading::read_tuple-returns-in_err-read_each-clause-placed : goal.reading::read_tuple-returns-in_err-read_each-clause-placed
reading::read_tuple-returns-in_err-read_each-clause-placed t c =
    let p = err_from_is_err_and c.from_residual-in_err-read_each.result c.from_residual-in_err-read_each.ensures.1 in
    rw (p.1, p.2) (way_as c.args.registry.now _ _ c.in_err-read_each.field-0.0 (tuple_items c.args.left c.args.formats.now (view c.args.json) c.in_ok-items.items c.in_ok-items.ensures.ok c.in_ok-items.ensures.count) c.in_err-read_each.ensures.placed)

pub reading::read_tuple-returns-clause-reports : goal.reading::read_tuple-returns-clause-reports
reading::read_tuple-returns-clause-reports t c =
    tuple_row (read_named c.args.registry.now c.args.left) c.args.formats.now (view c.args.json) c.in_ok-items.items c.in_ok-items.ensures.ok c.in_ok-items.ensures.count ∙ items_read _ c.in_ok-read_each.field-0 c.in_ok-read_each.ensures.reports

-- ---- one part

pub reading::read_option-returns-in_err-value-in-Some-clause-placed : goal.reading::read_option-returns-in_err-value-in-Some-clause-placed
reading::read_option-returns-in_err-value-in-Some-clause-placed t c =
    let p = err_from_is_err_and c.from_residual-in_err-value-in-Some.result c.from_residual-in_err-value-in-Some.ensures.1 in
    rw (p.1, p.2) (some_placed c.args.registry.now c.args.left (shape_of c.args.content.now) (view c.args.json) (view c.in-Some.part) (c.in_ok-option_of.ensures.ok ∙ ap (λ o. option_json (option_map view o)) c.in-Some.is)
    tree_of c.read-outcome.result c.in_err-value-in-Some.field-0.0 (record { reports = c.read-outcome.ensures.reports; placed = c.read-outcome.ensures.placed }) (record { same = c.in_err-value-in-Some.ensures.same; location = c.in_err-value-in-Some.ensures.location }))

pub containers::read_enum-returns-in_err-value-in-Member-clause-placed : goal.containers::read_enum-returns-in_err-value-in-Member-clause-placed
containers::read_enum-returns-in_err-value-in-Member-clause-placed t c =
    let v = c.in_ok-number-in-Member in
    let chosen : Choice = choice_of (v.number, v.variant.now) in
    let p = err_from_is_err_and c.from_residual-in_err-value-in-Member.result c.from_residual-in_err-value-in-Member.ensures.1 in
    rw (p.1, p.2) (payload_placed c.args.registry.now c.args.left (map choice_of c.args.variants.now.entries) (string_bytes c.in-Member.word) chosen (view c.args.json) (view c.in-Member.part) (c.in_ok-word.ensures.ok ∙ ap enum_json c.in-Member.is)
    (ap (λ w. choice_called w (map choice_of c.args.variants.now.entries)) (sym c.as_str.ensures.value) ∙ v.ensures.ok) tree_of c.read_payload-outcome.result c.in_err-value-in-Member.field-0.0
    (record { reports = c.read_payload-outcome.ensures.reports; placed = c.read_payload-outcome.ensures.placed })
    (outside_named _ _ _ _ c.as_str-in-Member.ensures.value (record { same = c.in_err-value-in-Member.ensures.same; location = c.in_err-value-in-Member.ensures.location })))

-- ---- parts, one after another

pub parts::read_all-returns-in-Some-clause-reports : goal.parts::read_all-returns-in-Some-clause-reports
parts::read_all-returns-in-Some-clause-reports t c =
    reports_as (λ v. items_trees v.items) _ _ _ (ap (λ s. read_all (read_data c.args.registry.now c.args.left (of s)) (items_view c.args.items.items)) c.in-Some.ensures.found) (c.read_numbers.ensures.reports c.args.registry.now c.args.left)

pub parts::read_all-returns-in-Some-clause-placed : goal.parts::read_all-returns-in-Some-clause-placed
parts::read_all-returns-in-Some-clause-placed t c =
    placed_as c.args.registry.now _ _ c.read_numbers.result (ap (λ s. item_parts c.args.left s 0 (items_view c.args.items.items)) c.in-Some.ensures.found) (c.read_numbers.ensures.placed c.args.registry.now c.args.left)

pub parts::read_all-loop-item-preserved : goal.parts::read_all-loop-item-preserved
parts::read_all-loop-item-preserved t c =
    let l = c.loop-item in
    let r = (read_data c.args.registry.now c.args.left (of (shape_of c.args.element.now))) in
    let read = (told_ok tree_of c.read-outcome.result _ c.in_ok-value.value c.in_ok-value.ensures.same c.read-outcome.ensures.reports) in (
      l.invariant.0
          ∙ item_more r (into_iter_items l.item-iterator) l.found.items (into_iter_items c.next.new.self) c.in-Some-item.item c.in_ok-value.value c.in-Some-item.ensures.steps.0 read
          ∙ ap (λ (vs : List Value). follow (read_all r (items_view (into_iter_items c.next.new.self))) (λ ts. Ok (joined vs ts))) (sym c.in_ok-push.ensures.items),
      λ path h. l.invariant.1 path (item_onward c.args.registry.now c.args.left (shape_of c.args.element.now) (length l.found.items) (into_iter_items l.item-iterator) (into_iter_items c.next.new.self) c.in-Some-item.item c.in-Some-item.ensures.steps.0 _ (tree_of c.in_ok-value.value)
          (found_more l.found.items c.push.new.self.items c.in_ok-value.value c.in_ok-push.ensures.items) read path h),
    )

pub parts::read_all-returns-in_err-value-clause-placed : goal.parts::read_all-returns-in_err-value-clause-placed
parts::read_all-returns-in_err-value-clause-placed t c =
    let l = c.loop-item in
    let p = err_from_is_err_and c.from_residual-in_err-value.result c.from_residual-in_err-value.ensures.1 in
    rw (p.1, p.2) (placed_on c.args.registry.now _ _ c.in_err-value.field-0.0 l.invariant.1 (item_placed c.args.registry.now c.args.left (shape_of c.args.element.now) (length l.found.items) (into_iter_items l.item-iterator) (into_iter_items c.next.new.self) c.in-Some-item.item c.in-Some-item.ensures.steps.0
    tree_of c.read-outcome.result c.in_err-value.field-0.0 (record { reports = c.read-outcome.ensures.reports; placed = c.read-outcome.ensures.placed }) (outside_at (length l.found.items) c.len-in-loop-item.result _ _ (omega (arith, c.len-in-loop-item.ensures, l.found.ok)) (record { same = c.in_err-value.ensures.same; location = c.in_err-value.ensures.location }))))

pub parts::read_all-returns-clause-reports : goal.parts::read_all-returns-clause-reports
parts::read_all-returns-clause-reports t c =
    let l = c.loop-item in
    l.invariant.0
    ∙ items_done (read_data c.args.registry.now c.args.left (of (shape_of c.args.element.now))) (into_iter_items l.item-iterator) l.found.items
    (nil_from_length (into_iter_items l.item-iterator) (omega (arith, l.item-iterator.rest.ok, c.in-None.ensures.steps.0)))

pub parts::read_each-read-outcome-requires : goal.parts::read_each-read-outcome-requires
parts::read_each-read-outcome-requires t c =
    let fs = c.args.formats.now in
    let f = c.format-item.result in
    let gs = drop (c.loop-format.format-index + 1) fs in
    let here : drop c.loop-format.format-index fs ≡ f ∷ gs = drop_more fs c.loop-format.format-index f (omega (arith, c.loop-format-test.true)) ∙ ap (λ y. y ∷ gs) (sym c.format-item.is) in
    (omega (arith, levels_here fs c.loop-format.format-index f gs here), tt)

pub parts::read_each-loop-format-preserved : goal.parts::read_each-loop-format-preserved
parts::read_each-loop-format-preserved t c =
    let l = c.loop-format in
    let fs = c.args.formats.now in
    let f = c.format-item.result in
    let gs = drop (c.loop-format.format-index + 1) fs in
    let here : drop c.loop-format.format-index fs ≡ f ∷ gs = drop_more fs c.loop-format.format-index f (omega (arith, c.loop-format-test.true)) ∙ ap (λ y. y ∷ gs) (sym c.format-item.is) in
    let named = (read_named c.args.registry.now c.args.left) in
    let read = (told_ok tree_of c.read-outcome.result _ c.in_ok-value.value c.in_ok-value.ensures.same c.read-outcome.ensures.reports) in (
      l.invariant.0
          ∙ each_more named (drop l.format-index fs) (into_iter_items l.rest) l.found.items f gs c.in-Some.item (into_iter_items c.next.new.self) c.in_ok-value.value here c.in-Some.ensures.items read
          ∙ ap (λ (vs : List Value). follow (read_each named (formats_shapes gs) (items_view (into_iter_items c.next.new.self))) (λ ts. Ok (joined vs ts))) (sym c.in_ok-push.ensures.items),
      λ path h. l.invariant.1 path (each_onward c.args.registry.now c.args.left (length l.found.items) (drop l.format-index fs) gs f here (into_iter_items l.rest) (into_iter_items c.next.new.self) c.in-Some.item c.in-Some.ensures.items _ (tree_of c.in_ok-value.value)
          (found_more l.found.items c.push.new.self.items c.in_ok-value.value c.in_ok-push.ensures.items) read path h),
    )

pub parts::read_each-returns-in_err-value-clause-placed : goal.parts::read_each-returns-in_err-value-clause-placed
parts::read_each-returns-in_err-value-clause-placed t c =
    let l = c.loop-format in
    let fs = c.args.formats.now in
    let f = c.format-item.result in
    let gs = drop (c.loop-format.format-index + 1) fs in
    let here : drop c.loop-format.format-index fs ≡ f ∷ gs = drop_more fs c.loop-format.format-index f (omega (arith, c.loop-format-test.true)) ∙ ap (λ y. y ∷ gs) (sym c.format-item.is) in
    let p = err_from_is_err_and c.from_residual-in_err-value.result c.from_residual-in_err-value.ensures.1 in
    rw (p.1, p.2) (placed_on c.args.registry.now _ _ c.in_err-value.field-0.0 l.invariant.1 (each_placed c.args.registry.now c.args.left (length l.found.items) (drop l.format-index fs) gs f here (into_iter_items l.rest) (into_iter_items c.next.new.self) c.in-Some.item c.in-Some.ensures.items
    tree_of c.read-outcome.result c.in_err-value.field-0.0 (record { reports = c.read-outcome.ensures.reports; placed = c.read-outcome.ensures.placed }) (outside_at (length l.found.items) c.len.result _ _ (omega (arith, c.len.ensures, l.found.ok)) (record { same = c.in_err-value.ensures.same; location = c.in_err-value.ensures.location }))))

pub parts::read_each-returns-in_default-clause-placed : goal.parts::read_each-returns-in_default-clause-placed
parts::read_each-returns-in_default-clause-placed t c =
    let l = c.loop-format in
    placed_on c.args.registry.now _ _ c.from.result l.invariant.1 (placed_none c.args.registry.now _ c.from.result c.from.ensures.1 (each_none c.args.registry.now c.args.left (drop l.format-index c.args.formats.now) (length l.found.items) (into_iter_items l.rest) (nil_from_length (into_iter_items l.rest) (omega (arith, l.rest.rest.ok, c.in_default.ensures.cases.0)))))

pub parts::read_each-returns-clause-reports : goal.parts::read_each-returns-clause-reports
parts::read_each-returns-clause-reports t c =
    let l = c.loop-format in
    l.invariant.0
    ∙ each_done (read_named c.args.registry.now c.args.left) (drop l.format-index c.args.formats.now) (into_iter_items l.rest) l.found.items
    (drop_all l.format-index c.args.formats.now c.loop-format-test.false)

pub parts::read_pairs-loop-item-preserved : goal.parts::read_pairs-loop-item-preserved
parts::read_pairs-loop-item-preserved t c =
    let l = c.loop-item in
    let k = (read_data c.args.registry.now c.args.left (of (shape_of c.args.key.now))) in
    let v = (read_data c.args.registry.now c.args.left (of (shape_of c.args.content.now))) in
    let read = (told_ok (λ e. (tree_of e.0, tree_of e.1)) c.read_entry-outcome.result _ c.in_ok-entry.entry c.in_ok-entry.ensures.same c.read_entry-outcome.ensures.reports) in (
      l.invariant.0
          ∙ pair_more k v (into_iter_items l.item-iterator) l.found.items (into_iter_items c.next.new.self) c.in-Some.item c.in_ok-entry.entry c.in-Some.ensures.steps.0 read
          ∙ ap (λ (es : List (Value × Value)). follow (read_pairs k v (items_view (into_iter_items c.next.new.self))) (λ ps. Ok (joined_pairs es ps))) (sym c.in_ok-push.ensures.items),
      λ path h. l.invariant.1 path (entry_onward c.args.registry.now c.args.left (shape_of c.args.key.now) (shape_of c.args.content.now) (length l.found.items) (into_iter_items l.item-iterator) (into_iter_items c.next.new.self) c.in-Some.item c.in-Some.ensures.steps.0 _ (tree_of c.in_ok-entry.entry.0, tree_of c.in_ok-entry.entry.1)
          (found_more l.found.items c.push.new.self.items c.in_ok-entry.entry c.in_ok-push.ensures.items) read path h),
    )

pub parts::read_pairs-returns-in_err-entry-clause-placed : goal.parts::read_pairs-returns-in_err-entry-clause-placed
parts::read_pairs-returns-in_err-entry-clause-placed t c =
    let l = c.loop-item in
    let p = err_from_is_err_and c.from_residual-in_err-entry.result c.from_residual-in_err-entry.ensures.1 in
    rw (p.1, p.2) (placed_on c.args.registry.now _ _ c.in_err-entry.field-0.0 l.invariant.1 (entry_placed c.args.registry.now c.args.left (shape_of c.args.key.now) (shape_of c.args.content.now) (length l.found.items) (into_iter_items l.item-iterator) (into_iter_items c.next.new.self) c.in-Some.item c.in-Some.ensures.steps.0
    (λ e. (tree_of e.0, tree_of e.1)) c.read_entry-outcome.result c.in_err-entry.field-0.0 (record { reports = c.read_entry-outcome.ensures.reports; placed = c.read_entry-outcome.ensures.placed }) (outside_at (length l.found.items) c.len-in-loop-item.result _ _ (omega (arith, c.len-in-loop-item.ensures, l.found.ok)) (record { same = c.in_err-entry.ensures.same; location = c.in_err-entry.ensures.location }))))

pub parts::read_pairs-returns-clause-reports : goal.parts::read_pairs-returns-clause-reports
parts::read_pairs-returns-clause-reports t c =
    let l = c.loop-item in
    l.invariant.0
    ∙ pairs_done (read_data c.args.registry.now c.args.left (of (shape_of c.args.key.now))) (read_data c.args.registry.now c.args.left (of (shape_of c.args.content.now))) (into_iter_items l.item-iterator) l.found.items
    (nil_from_length (into_iter_items l.item-iterator) (omega (arith, l.item-iterator.rest.ok, c.in-None.ensures.steps.0)))

pub parts::read_entry-returns-in_err-name-clause-placed : goal.parts::read_entry-returns-in_err-name-clause-placed
parts::read_entry-returns-in_err-name-clause-placed t c =
    let p = err_from_is_err_and c.from_residual-in_err-name.result c.from_residual-in_err-name.ensures.1 in
    rw (p.1, p.2) (key_placed c.args.registry.now c.args.left (shape_of c.args.key.now) (shape_of c.args.content.now) (view c.args.json) (view c.in_ok-first.first) (view c.in_ok-first.second) c.in_ok-first.ensures.ok tree_of c.read.result c.in_err-name.field-0.0
    (record { reports = c.read.ensures.reports; placed = c.read.ensures.placed }) (record { same = c.in_err-name.ensures.same; location = c.in_err-name.ensures.location }))

pub parts::read_entry-returns-in_err-value-clause-placed : goal.parts::read_entry-returns-in_err-value-clause-placed
parts::read_entry-returns-in_err-value-clause-placed t c =
    let p = err_from_is_err_and c.from_residual-in_err-value.result c.from_residual-in_err-value.ensures.1 in
    rw (p.1, p.2) (value_placed c.args.registry.now c.args.left (shape_of c.args.key.now) (shape_of c.args.content.now) (view c.args.json) (view c.in_ok-first.first) (view c.in_ok-first.second) c.in_ok-first.ensures.ok tree_of c.read-2.result c.in_err-value.field-0.0 (tree_of c.in_ok-name.name)
    (told_ok tree_of c.read.result _ c.in_ok-name.name c.in_ok-name.ensures.same c.read.ensures.reports)
    (record { reports = c.read-2.ensures.reports; placed = c.read-2.ensures.placed }) (record { same = c.in_err-value.ensures.same; location = c.in_err-value.ensures.location }))

pub parts::read_fields-read-outcome-requires : goal.parts::read_fields-read-outcome-requires
parts::read_fields-read-outcome-requires t c =
    let xs = c.args.fields.now in
    let x = c.field-item.result in
    let rest = drop (c.loop-field.field-index + 1) xs in
    let here : drop c.loop-field.field-index xs ≡ x ∷ rest = drop_more xs c.loop-field.field-index x (omega (arith, c.loop-field-test.true)) ∙ ap (λ y. y ∷ rest) (sym c.field-item.is) in
    (omega (arith, field_levels_here xs c.loop-field.field-index x rest here), tt)

pub parts::read_fields-loop-field-preserved : goal.parts::read_fields-loop-field-preserved
parts::read_fields-loop-field-preserved t c =
    let l = c.loop-field in
    let xs = c.args.fields.now in
    let x = c.field-item.result in
    let rest = drop (c.loop-field.field-index + 1) xs in
    let here : drop c.loop-field.field-index xs ≡ x ∷ rest = drop_more xs c.loop-field.field-index x (omega (arith, c.loop-field-test.true)) ∙ ap (λ y. y ∷ rest) (sym c.field-item.is) in
    let ms = members_view l.members.entries in
    let found = ap (λ s. get_member s ms) (sym c.as_str.ensures.value) ∙ c.in_ok-member.ensures.ok in
    let named = (read_named c.args.registry.now c.args.left) in
    let less = members_view c.take_field.new.members.entries in
    let left = c.in_ok-member.ensures.left ∙ ap (λ s. without s ms) c.as_str.ensures.value in
    let read = (told_ok tree_of c.read-outcome.result _ c.in_ok-value.value c.in_ok-value.ensures.same c.read-outcome.ensures.reports) in (
      l.invariant.0
          ∙ field_more named x rest (drop l.field-index xs) here ms l.found.items less (view c.in_ok-member.member) c.in_ok-value.value found left read
          ∙ ap (λ (vs : List Value). follow (read_fields named (map field_of rest) less) (λ ts. Ok (joined vs ts))) (sym c.in_ok-push.ensures.items),
      λ path h. l.invariant.1 path (field_onward c.args.registry.now c.args.left x rest (drop l.field-index xs) here ms (view c.in_ok-member.member) found less (tree_of c.in_ok-value.value) left read path h),
    )

pub parts::read_fields-returns-in_err-value-clause-placed : goal.parts::read_fields-returns-in_err-value-clause-placed
parts::read_fields-returns-in_err-value-clause-placed t c =
    let l = c.loop-field in
    let xs = c.args.fields.now in
    let x = c.field-item.result in
    let rest = drop (c.loop-field.field-index + 1) xs in
    let here : drop c.loop-field.field-index xs ≡ x ∷ rest = drop_more xs c.loop-field.field-index x (omega (arith, c.loop-field-test.true)) ∙ ap (λ y. y ∷ rest) (sym c.field-item.is) in
    let ms = members_view l.members.entries in
    let found = ap (λ s. get_member s ms) (sym c.as_str.ensures.value) ∙ c.in_ok-member.ensures.ok in
    let p = err_from_is_err_and c.from_residual-in_err-value.result c.from_residual-in_err-value.ensures.1 in
    rw (p.1, p.2) (placed_on c.args.registry.now _ _ c.in_err-value.field-0.0 l.invariant.1 (field_placed c.args.registry.now c.args.left x rest (drop l.field-index xs) here ms (view c.in_ok-member.member) found
    tree_of c.read-outcome.result c.in_err-value.field-0.0 (record { reports = c.read-outcome.ensures.reports; placed = c.read-outcome.ensures.placed }) (outside_named _ _ _ _ c.as_str-in-loop-field.ensures.value (record { same = c.in_err-value.ensures.same; location = c.in_err-value.ensures.location }))))

pub parts::read_fields-returns-in_err-member-clause-placed : goal.parts::read_fields-returns-in_err-member-clause-placed
parts::read_fields-returns-in_err-member-clause-placed t c =
    let l = c.loop-field in
    let xs = c.args.fields.now in
    let x = c.field-item.result in
    let rest = drop (c.loop-field.field-index + 1) xs in
    let here : drop c.loop-field.field-index xs ≡ x ∷ rest = drop_more xs c.loop-field.field-index x (omega (arith, c.loop-field-test.true)) ∙ ap (λ y. y ∷ rest) (sym c.field-item.is) in
    let ms = members_view l.members.entries in
    let p = err_from_is_err_and c.from_residual-in_err-member.result c.from_residual-in_err-member.ensures.1 in
    let none = ap (λ s. get_member s ms) (sym c.as_str.ensures.value) ∙ c.in_err-member.ensures.missing in
    rw p.1 (placed_on c.args.registry.now _ _ p.0 l.invariant.1 (placed_none c.args.registry.now _ p.0 p.2.1 (missing_none c.args.registry.now c.args.left x rest (drop l.field-index xs) here ms none)))

pub parts::read_fields-returns-in_err-no_member_left-clause-placed : goal.parts::read_fields-returns-in_err-no_member_left-clause-placed
parts::read_fields-returns-in_err-no_member_left-clause-placed t c =
    let l = c.loop-field in
    let done = drop_all l.field-index c.args.fields.now c.loop-field-test.false in
    let p = err_from_is_err_and c.from_residual-in_err-no_member_left.result c.from_residual-in_err-no_member_left.ensures.1 in
    rw p.1 (placed_on c.args.registry.now _ _ p.0 l.invariant.1 (placed_none c.args.registry.now _ p.0 p.2.1 (ap (λ hs. field_parts c.args.left (map field_of hs) (members_view l.members.entries)) done)))

pub parts::read_fields-returns-clause-reports : goal.parts::read_fields-returns-clause-reports
parts::read_fields-returns-clause-reports t c =
    let l = c.loop-field in
    let done = drop_all l.field-index c.args.fields.now c.loop-field-test.false in
    l.invariant.0
    ∙ fields_done (read_named c.args.registry.now c.args.left) _ done l.found.items (members_view l.members.entries) c.in_ok-no_member_left.ensures.ok

-- ---- containers

pub containers::read_content-read-requires : goal.containers::read_content-read-requires
containers::read_content-read-requires t c =
    let r = c.args.registry.now in
    let low =
    newtype_levels r c.container_called.ensures.well_formed c.args.name.now (shape_of c.in-NewTypeStruct.format)
    (container_found r c.args.name.now _ _ c.in_ok-format.ensures.ok c.in-NewTypeStruct.is) in
    (omega (arith, low), tt)

pub containers::read_content-read_tuple-requires : goal.containers::read_content-read_tuple-requires
containers::read_content-read_tuple-requires t c =
    let r = c.args.registry.now in
    let ss = formats_shapes c.in-TupleStruct.formats.items in
    let low =
    tuple_levels r c.container_called.ensures.well_formed c.args.name.now ss
    (container_found r c.args.name.now _ _ c.in_ok-format.ensures.ok c.in-TupleStruct.is) in
    let same : shapes_levels (formats_shapes c.deref.result.now) ≡ shapes_levels ss = ap (λ fs. shapes_levels (formats_shapes fs)) c.deref.ensures.value in
    (omega (arith, low, same), tt)

pub containers::read_content-read_struct-requires : goal.containers::read_content-read_struct-requires
containers::read_content-read_struct-requires t c =
    let r = c.args.registry.now in
    let fs = map field_of c.in-Struct.fields.items in
    let low =
    struct_levels r c.container_called.ensures.well_formed c.args.name.now fs
    (container_found r c.args.name.now _ _ c.in_ok-format.ensures.ok c.in-Struct.is) in
    let same : shapes_levels (field_shapes (map field_of c.deref-in-Struct.result.now)) ≡ shapes_levels (field_shapes fs) = ap (λ gs. shapes_levels (field_shapes (map field_of gs))) c.deref-in-Struct.ensures.value in
    (omega (arith, low, same), tt)

pub containers::read_enum-read_payload-outcome-requires : goal.containers::read_enum-read_payload-outcome-requires
containers::read_enum-read_payload-outcome-requires t c =
    let asked = c.requires.1.1 in
    let cs = map choice_of c.args.variants.now.entries in
    let v = c.in_ok-number-in-Member in
    let chosen : Choice = choice_of (v.number, v.variant.now) in
    let called : choice_called c.as_str.result.now cs ≡ Some chosen = v.ensures.ok in
    let low : levels (payload_shape (payload_of v.variant.now.value)) ≤ 33 =
    variant_levels c.args.registry.now asked.1.0 c.args.name.now asked.1.1 cs asked.0 c.as_str.result.now chosen called in
    (omega (arith, low), tt)
