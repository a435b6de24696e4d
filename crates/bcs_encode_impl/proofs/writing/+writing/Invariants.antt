use Rattle.bcs_encode_impl.proofs.Prelude.{◌≡◌, map, drop, of, field_shapes, name_shape, tuple, field_of, formats_shapes, shape_of, items_tree, pairs_tree, entries_pairs, items_trees, written, items_written, each_written, Continues, GivesOn, plain, plain_items, plain_each, plain_pairs, validated, all_validated, each_validated, pairs_validated}
use Rattle.bcs_encode_impl.proofs.MapEntries.{Enters}
use Rattle.bcs_encode_impl.proofs.writing.+writing.Given as goal

abbrev pub invariant-write_all-loop-item : goal.invariant-write_all-loop-item
invariant-write_all-loop-item l = record {
  validated : all_validated l.registry (items_trees l.items) (shape_of l.element) l.depth l.nodes
      ≡ all_validated l.registry (items_trees (drop l.item-index l.items)) (shape_of l.element) l.depth l.left;
  appended : Continues l.initial.out l.out (items_written l.registry (items_trees l.items) (shape_of l.element)) (items_written l.registry (items_trees (drop l.item-index l.items)) (shape_of l.element));
  given : GivesOn l.initial.out l.out (plain_items l.registry (items_trees l.items) (shape_of l.element)) (plain_items l.registry (items_trees (drop l.item-index l.items)) (shape_of l.element));
}

abbrev pub invariant-write_all_named-loop-item : goal.invariant-write_all_named-loop-item
invariant-write_all_named-loop-item l = record {
  validated : all_validated l.registry (items_trees l.items) (name_shape l.name) l.depth l.nodes
      ≡ all_validated l.registry (items_trees (drop l.item-index l.items)) (name_shape l.name) l.depth l.left;
  appended : Continues l.initial.out l.out (items_written l.registry (items_trees l.items) (name_shape l.name)) (items_written l.registry (items_trees (drop l.item-index l.items)) (name_shape l.name));
  given : GivesOn l.initial.out l.out (plain_items l.registry (items_trees l.items) (name_shape l.name)) (plain_items l.registry (items_trees (drop l.item-index l.items)) (name_shape l.name));
}

abbrev pub invariant-write_each-loop-i : goal.invariant-write_each-loop-i
invariant-write_each-loop-i l = record {
  validated : validated l.registry (items_tree (items_trees l.items)) (of (tuple (formats_shapes l.formats))) l.depth l.nodes
      ≡ each_validated l.registry (items_trees (drop l.i l.items)) (formats_shapes (drop l.i l.formats)) l.depth l.left;
  appended : Continues l.initial.out l.out (written l.registry (items_tree (items_trees l.items)) (of (tuple (formats_shapes l.formats)))) (each_written l.registry (items_trees (drop l.i l.items)) (formats_shapes (drop l.i l.formats)));
  given : GivesOn l.initial.out l.out (plain l.registry (items_tree (items_trees l.items)) (of (tuple (formats_shapes l.formats)))) (plain_each l.registry (items_trees (drop l.i l.items)) (formats_shapes (drop l.i l.formats)));
}

abbrev pub invariant-write_fields-loop-i : goal.invariant-write_fields-loop-i
invariant-write_fields-loop-i l = record {
  validated : validated l.registry (items_tree (items_trees l.items)) (of (tuple (field_shapes (map field_of l.fields)))) l.depth l.nodes
      ≡ each_validated l.registry (items_trees (drop l.i l.items)) (field_shapes (map field_of (drop l.i l.fields))) l.depth l.left;
  appended : Continues l.initial.out l.out (written l.registry (items_tree (items_trees l.items)) (of (tuple (field_shapes (map field_of l.fields))))) (each_written l.registry (items_trees (drop l.i l.items)) (field_shapes (map field_of (drop l.i l.fields))));
  given : GivesOn l.initial.out l.out (plain l.registry (items_tree (items_trees l.items)) (of (tuple (field_shapes (map field_of l.fields))))) (plain_each l.registry (items_trees (drop l.i l.items)) (field_shapes (map field_of (drop l.i l.fields))));
}

abbrev pub invariant-write_map-loop-k : goal.invariant-write_map-loop-k
invariant-write_map-loop-k l = record {
  validated : validated l.registry (pairs_tree (entries_pairs l.pairs)) (of (shape_of l.format)) l.depth l.nodes
      ≡ pairs_validated l.registry (entries_pairs (drop l.k-index l.pairs)) (shape_of l.key.value) (shape_of l.value.value) l.depth l.left;
  entered : Enters l.registry (shape_of l.key.value) (shape_of l.value.value) (entries_pairs l.pairs) (entries_pairs (drop l.k-index l.pairs)) l.initial.out l.out l.before;
  given : GivesOn l.initial.out l.out (plain_pairs l.registry (entries_pairs l.pairs) (shape_of l.key.value) (shape_of l.value.value)) (plain_pairs l.registry (entries_pairs (drop l.k-index l.pairs)) (shape_of l.key.value) (shape_of l.value.value));
}
