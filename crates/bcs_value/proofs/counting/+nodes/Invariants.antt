use Rattle.bcs_value.proofs.Prelude.{◌≡◌, ◌+◌, ◌≤◌, min, drop, trees_nodes, pairs_nodes, items_trees, entries_pairs}
use Rattle.bcs_value.proofs.counting.+nodes.Given as goal

abbrev pub invariant-items_nodes-loop-item : goal.invariant-items_nodes-loop-item
invariant-items_nodes-loop-item l =
    (l.total ≤ 18446744073709551615)
    × (min (trees_nodes (items_trees l.items)) 18446744073709551615 ≡ min (l.total + trees_nodes (items_trees (drop l.item-index l.items))) 18446744073709551615)

abbrev pub invariant-pairs_nodes-loop-key : goal.invariant-pairs_nodes-loop-key
invariant-pairs_nodes-loop-key l =
    (l.total ≤ 18446744073709551615)
    × (min (pairs_nodes (entries_pairs l.pairs)) 18446744073709551615 ≡ min (l.total + pairs_nodes (entries_pairs (drop l.key-index l.pairs))) 18446744073709551615)
