use Rattle.bcs_value.proofs.Prelude.{◌≡◌, drop, ◌&&◌, same, all_same, any_pair, all_pairs, is_within, has_pair, has_repeated_entries, tree_of, items_trees, entries_pairs}
use Rattle.bcs_value.proofs.sameness.+same.Given as goal

abbrev pub invariant-all_same-loop-i : goal.invariant-all_same-loop-i
invariant-all_same-loop-i l =
    all_same (items_trees l.xs) (items_trees l.ys) ≡ all_same (items_trees (drop l.i l.xs)) (items_trees (drop l.i l.ys))

abbrev pub invariant-has_pair-loop-i : goal.invariant-has_pair-loop-i
invariant-has_pair-loop-i l =
    has_pair (entries_pairs (drop l.from l.pairs)) (tree_of l.key) (tree_of l.value)
    ≡ has_pair (entries_pairs (drop l.i l.pairs)) (tree_of l.key) (tree_of l.value)

abbrev pub invariant-is_among-loop-key : goal.invariant-is_among-loop-key
invariant-is_among-loop-key l =
    any_pair (λ k v. same (tree_of l.pair.0) k && same (tree_of l.pair.1) v) (entries_pairs l.pairs)
    ≡ any_pair (λ k v. same (tree_of l.pair.0) k && same (tree_of l.pair.1) v) (entries_pairs (drop l.key-index l.pairs))

abbrev pub invariant-same_pairs-loop-pair : goal.invariant-same_pairs-loop-pair
invariant-same_pairs-loop-pair l =
    is_within (entries_pairs l.xs) (entries_pairs l.ys) ≡ is_within (entries_pairs (drop l.pair-index l.xs)) (entries_pairs l.ys)

abbrev pub invariant-same_pairs-loop-key : goal.invariant-same_pairs-loop-key
invariant-same_pairs-loop-key l =
    all_pairs (has_pair (entries_pairs l.xs)) (entries_pairs l.ys)
    ≡ all_pairs (has_pair (entries_pairs l.xs)) (entries_pairs (drop l.key-index l.ys))

abbrev pub invariant-has_repeated_entries-loop-i : goal.invariant-has_repeated_entries-loop-i
invariant-has_repeated_entries-loop-i l = has_repeated_entries (entries_pairs l.pairs) ≡ has_repeated_entries (entries_pairs (drop l.i l.pairs))
