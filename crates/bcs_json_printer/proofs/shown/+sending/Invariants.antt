use Rattle.bcs_json_printer.proofs.Prelude.{◌≡◌, ◌+◌, ◌*◌, ◌<◌, false, true, drop, length, All, values_of, items_depth, Log, members_depth, SendsItems, SendsMembers, formats_shapes, shape_of, all_fit, each_fits, pairs_fit, nodes, pairs_nodes, trees_nodes, entries_pairs, items_trees, tree_of, shown_all, shown_each, shown_pairs, ordered, placed}
use Rattle.bcs_json_printer.proofs.Places.{shown_at}
use Rattle.bcs_json_printer.proofs.shown.+sending.Given as goal

-- the nodes of a value, and fewer for its parts
abbrev pub decreases-send_value : goal.decreases-send_value
decreases-send_value g l = 3 * nodes (tree_of l.value.now)

abbrev pub decreases-send_content : goal.decreases-send_content
decreases-send_content g l = 3 * nodes (tree_of l.value.now) + 1

abbrev pub decreases-send_variant : goal.decreases-send_variant
decreases-send_variant g l = 3 * nodes (tree_of l.value.now) + 2

abbrev pub decreases-send_payload : goal.decreases-send_payload
decreases-send_payload g l = 3 * nodes (tree_of l.value.now) + 1

abbrev pub decreases-send_list : goal.decreases-send_list
decreases-send_list g l = 3 * trees_nodes (items_trees l.items.now) + 2

abbrev pub decreases-send_all : goal.decreases-send_all
decreases-send_all g l = 3 * trees_nodes (items_trees l.items.now) + 1

abbrev pub decreases-send_each : goal.decreases-send_each
decreases-send_each g l = 3 * trees_nodes (items_trees l.items.now) + 1

abbrev pub decreases-send_fields : goal.decreases-send_fields
decreases-send_fields g l = 3 * trees_nodes (items_trees l.items.now) + 1

abbrev pub decreases-send_in_order : goal.decreases-send_in_order
decreases-send_in_order g l = 3 * trees_nodes (items_trees l.items.now) + 1

abbrev pub decreases-send_pairs : goal.decreases-send_pairs
decreases-send_pairs g l = 3 * pairs_nodes (entries_pairs l.pairs.now) + 1

-- an end that is right from here is right from the start, and if the rest nests within the limit, the whole does
abbrev pub invariant-send_all-loop-item : goal.invariant-send_all-loop-item
invariant-send_all-loop-item g l = record {
  whole : (end : Log) → SendsItems (shown_all l.context.registry.now (items_trees (drop l.item-index l.items)) (shape_of l.element)) (g.S.Serializer.written l.out) end
      → SendsItems (shown_all l.context.registry.now (items_trees l.items) (shape_of l.element)) (g.S.Serializer.written l.initial.out) end;
  fits : all_fit false l.context.registry.now (items_trees (drop l.item-index l.items)) (shape_of l.element) ≡ true;
  nests : items_depth (shown_all l.context.registry.now (items_trees (drop l.item-index l.items)) (shape_of l.element)) < l.left
      → items_depth (shown_all l.context.registry.now (items_trees l.items) (shape_of l.element)) < l.left;
}

abbrev pub invariant-send_each-loop-i : goal.invariant-send_each-loop-i
invariant-send_each-loop-i g l = record {
  whole : (end : Log) → SendsItems (shown_each l.context.registry.now (items_trees (drop l.i l.items)) (formats_shapes (drop l.i l.formats))) (g.S.Serializer.written l.out) end
      → SendsItems (shown_each l.context.registry.now (items_trees l.items) (formats_shapes l.formats)) (g.S.Serializer.written l.initial.out) end;
  fits : each_fits false l.context.registry.now (items_trees (drop l.i l.items)) (formats_shapes (drop l.i l.formats)) ≡ true;
  nests : items_depth (shown_each l.context.registry.now (items_trees (drop l.i l.items)) (formats_shapes (drop l.i l.formats))) < l.left
      → items_depth (shown_each l.context.registry.now (items_trees l.items) (formats_shapes l.formats)) < l.left;
}

abbrev pub invariant-send_pairs-loop-k : goal.invariant-send_pairs-loop-k
invariant-send_pairs-loop-k g l = record {
  whole : (end : Log) → SendsItems (shown_pairs l.context.registry.now (entries_pairs (drop l.k-index l.pairs)) (shape_of l.key) (shape_of l.value)) (g.S.Serializer.written l.out) end
      → SendsItems (shown_pairs l.context.registry.now (entries_pairs l.pairs) (shape_of l.key) (shape_of l.value)) (g.S.Serializer.written l.initial.out) end;
  fits : pairs_fit false l.context.registry.now (entries_pairs (drop l.k-index l.pairs)) (shape_of l.key) (shape_of l.value) ≡ true;
  nests : items_depth (shown_pairs l.context.registry.now (entries_pairs (drop l.k-index l.pairs)) (shape_of l.key) (shape_of l.value)) < l.left
      → items_depth (shown_pairs l.context.registry.now (entries_pairs l.pairs) (shape_of l.key) (shape_of l.value)) < l.left;
}

abbrev pub invariant-send_fields-loop-name : goal.invariant-send_fields-loop-name
invariant-send_fields-loop-name g l = record {
  whole : (end : Log) → SendsMembers (placed (shown_at l.context.registry.now l.items l.fields) l.name-iterator) (g.S.Serializer.written l.out) end
      → SendsMembers (placed (shown_at l.context.registry.now l.items l.fields) l.initial.name-iterator) (g.S.Serializer.written l.initial.out) end;
  nests : members_depth (placed (shown_at l.context.registry.now l.items l.fields) l.name-iterator) < l.left
      → members_depth (placed (shown_at l.context.registry.now l.items l.fields) l.initial.name-iterator) < l.left;
  within : All (λ i. i < length l.fields) (values_of l.name-iterator);
}

abbrev pub invariant-send_in_order-loop-place : goal.invariant-send_in_order-loop-place
invariant-send_in_order-loop-place g l = record {
  whole : (end : Log) → SendsMembers (ordered (shown_at l.context.registry.now l.items l.fields) l.fields (drop l.place-index l.order)) (g.S.Serializer.written l.out) end
      → SendsMembers (ordered (shown_at l.context.registry.now l.items l.fields) l.fields l.order) (g.S.Serializer.written l.initial.out) end;
  nests : members_depth (ordered (shown_at l.context.registry.now l.items l.fields) l.fields (drop l.place-index l.order)) < l.left
      → members_depth (ordered (shown_at l.context.registry.now l.items l.fields) l.fields l.order) < l.left;
}
