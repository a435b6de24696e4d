use Rattle.bcs_encode_impl.proofs.Prelude.{◌≡◌, map, drop, field_shapes, field_of, formats_shapes, shape_of, entries_pairs, items_trees, entry_of, items_written, each_written, entries_written}
use Rattle.bcs_encode_impl.proofs.by_entries.+by_entries.Given as goal

abbrev pub invariant-push_all-loop-item : goal.invariant-push_all-loop-item
invariant-push_all-loop-item l =
    items_written l.registry (items_trees l.items) (shape_of l.element) l.initial.out.items
    ≡ items_written l.registry (items_trees (drop l.item-index l.items)) (shape_of l.element) l.out.items

abbrev pub invariant-push_each-loop-i : goal.invariant-push_each-loop-i
invariant-push_each-loop-i l =
    each_written l.registry (items_trees l.items) (formats_shapes l.formats) l.initial.out.items
    ≡ each_written l.registry (items_trees (drop l.i l.items)) (formats_shapes (drop l.i l.formats)) l.out.items

abbrev pub invariant-push_fields-loop-i : goal.invariant-push_fields-loop-i
invariant-push_fields-loop-i l =
    each_written l.registry (items_trees l.items) (field_shapes (map field_of l.fields)) l.initial.out.items
    ≡ each_written l.registry (items_trees (drop l.i l.items)) (field_shapes (map field_of (drop l.i l.fields))) l.out.items

abbrev pub invariant-collect_entries-loop-k : goal.invariant-collect_entries-loop-k
invariant-collect_entries-loop-k l =
    entries_written l.registry (entries_pairs l.pairs) (shape_of l.key) (shape_of l.value) (map entry_of l.initial.entries.items)
    ≡ entries_written l.registry (entries_pairs (drop l.k-index l.pairs)) (shape_of l.key) (shape_of l.value) (map entry_of l.entries.items)
