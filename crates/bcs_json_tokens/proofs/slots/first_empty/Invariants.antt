use Rattle.bcs_json_tokens.proofs.Prelude.{◌≡◌, ◌+◌, drop, first_empty}
use Rattle.bcs_json_tokens.proofs.slots.first_empty.Given as goal

abbrev pub invariant-loop-slot : goal.invariant-loop-slot
invariant-loop-slot l = (l.count ≡ l.slot-index) × (first_empty l.slots ≡ l.count + first_empty (drop l.slot-index l.slots))
