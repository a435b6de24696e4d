use Rattle.std.proofs.Common.{◌≡◌, ◌-◌, map, drop}
use Rattle.bcs_key_order.specs.Spans.{lone_key_at}
use Rattle.bcs_key_order.specs.Order.{has_equal_neighbours}
use Rattle.bcs_key_order.proofs.spans.have_equal_neighbours.Given as goal

abbrev pub invariant-loop-i : goal.invariant-loop-i
invariant-loop-i l = has_equal_neighbours (map (lone_key_at l.bytes) l.spans) ≡ has_equal_neighbours (map (lone_key_at l.bytes) (drop (l.i - 1) l.spans))
