use Rattle.bcs_json_printer.proofs.Prelude.{◌≡◌, ◌+◌, ◌*◌, true, map, drop, nat_le, items_depth, members_depth, field_of, formats_shapes, shape_of, are_distinct, nodes, pairs_nodes, trees_nodes, entries_pairs, items_trees, tree_of, shown_all, shown_each, shown_fields, shown_pairs}
use Rattle.bcs_json_printer.proofs.nesting.+nesting.Given as goal

-- the nodes of a value, and fewer for its parts
abbrev pub decreases-shown_nests_within : goal.decreases-shown_nests_within
decreases-shown_nests_within l = 3 * nodes (tree_of l.value.now)

abbrev pub decreases-content_nests_within : goal.decreases-content_nests_within
decreases-content_nests_within l = 3 * nodes (tree_of l.value.now) + 1

abbrev pub decreases-variant_nests_within : goal.decreases-variant_nests_within
decreases-variant_nests_within l = 3 * nodes (tree_of l.value.now) + 2

abbrev pub decreases-list_nests_within : goal.decreases-list_nests_within
decreases-list_nests_within l = 3 * trees_nodes (items_trees l.items.now) + 2

abbrev pub decreases-all_nest_within : goal.decreases-all_nest_within
decreases-all_nest_within l = 3 * trees_nodes (items_trees l.items.now) + 1

abbrev pub decreases-each_nests_within : goal.decreases-each_nests_within
decreases-each_nests_within l = 3 * trees_nodes (items_trees l.items.now) + 1

abbrev pub decreases-fields_nest_within : goal.decreases-fields_nest_within
decreases-fields_nest_within l = 3 * trees_nodes (items_trees l.items.now) + 1

abbrev pub decreases-pairs_nest_within : goal.decreases-pairs_nest_within
decreases-pairs_nest_within l = 3 * pairs_nodes (entries_pairs l.pairs.now) + 1

-- the rest decides
abbrev pub invariant-all_nest_within-loop-item : goal.invariant-all_nest_within-loop-item
invariant-all_nest_within-loop-item l =
    nat_le (items_depth (shown_all l.registry (items_trees l.items) (shape_of l.element))) l.limit
    ≡ nat_le (items_depth (shown_all l.registry (items_trees (drop l.item-index l.items)) (shape_of l.element))) l.limit

abbrev pub invariant-each_nests_within-loop-i : goal.invariant-each_nests_within-loop-i
invariant-each_nests_within-loop-i l =
    nat_le (items_depth (shown_each l.registry (items_trees l.items) (formats_shapes l.formats))) l.limit
    ≡ nat_le (items_depth (shown_each l.registry (items_trees (drop l.i l.items)) (formats_shapes (drop l.i l.formats)))) l.limit

abbrev pub invariant-fields_nest_within-loop-i : goal.invariant-fields_nest_within-loop-i
invariant-fields_nest_within-loop-i l = record {
  left : nat_le (members_depth (shown_fields l.registry (items_trees l.items) (map field_of l.fields))) l.limit
      ≡ nat_le (members_depth (shown_fields l.registry (items_trees (drop l.i l.items)) (map field_of (drop l.i l.fields)))) l.limit;
  distinct : are_distinct (map (λ f. f.0) (map field_of (drop l.i l.fields))) ≡ true;
}

abbrev pub invariant-pairs_nest_within-loop-k : goal.invariant-pairs_nest_within-loop-k
invariant-pairs_nest_within-loop-k l =
    nat_le (items_depth (shown_pairs l.registry (entries_pairs l.pairs) (shape_of l.key) (shape_of l.value))) l.limit
    ≡ nat_le (items_depth (shown_pairs l.registry (entries_pairs (drop l.k-index l.pairs)) (shape_of l.key) (shape_of l.value))) l.limit
