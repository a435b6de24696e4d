use Rattle.bcs_value.proofs.Prelude.{◌≡◌, min, max, drop, trees_depth, pairs_depth, items_trees, entries_pairs}
use Rattle.bcs_value.proofs.nesting.+depth.Given as goal

abbrev pub invariant-items_depth-loop-item : goal.invariant-items_depth-loop-item
invariant-items_depth-loop-item l =
    min (trees_depth (items_trees l.items)) 18446744073709551615
    ≡ max l.greatest (min (trees_depth (items_trees (drop l.item-index l.items))) 18446744073709551615)

abbrev pub invariant-pairs_depth-loop-key : goal.invariant-pairs_depth-loop-key
invariant-pairs_depth-loop-key l =
    min (pairs_depth (entries_pairs l.pairs)) 18446744073709551615
    ≡ max l.greatest (min (pairs_depth (entries_pairs (drop l.key-index l.pairs))) 18446744073709551615)
