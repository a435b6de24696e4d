use Rattle.bcs_encode_impl.proofs.Prelude.{◌≡◌, ◌-◌, map, drop, entry_of, has_equal_neighbours}
use Rattle.bcs_encode_impl.proofs.by_entries.have_equal_neighbours.Given as goal

abbrev pub invariant-loop-i : goal.invariant-loop-i
invariant-loop-i l = has_equal_neighbours (map entry_of l.entries) ≡ has_equal_neighbours (map entry_of (drop (l.i - 1) l.entries))
