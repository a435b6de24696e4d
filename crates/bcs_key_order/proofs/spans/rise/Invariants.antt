use Rattle.std.proofs.Common.{◌≡◌, ◌-◌, map, drop}
use Rattle.bcs_key_order.specs.Spans.{lone_key_at}
use Rattle.bcs_key_order.specs.Order.{keys_rise}
use Rattle.bcs_key_order.proofs.spans.rise.Given as goal

abbrev pub invariant-loop-i : goal.invariant-loop-i
invariant-loop-i l = keys_rise (map (lone_key_at l.bytes) l.spans) ≡ keys_rise (map (lone_key_at l.bytes) (drop (l.i - 1) l.spans))
