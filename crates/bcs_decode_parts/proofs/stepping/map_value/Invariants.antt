use Rattle.bcs_decode_parts.proofs.Prelude.{◌-◌, Option, shape_of, Reached}
use Rattle.bcs_decode_parts.proofs.MapSteps.{Finds}
use Rattle.bcs_decode_parts.proofs.stepping.map_value.Given as goal

-- what is found in the remaining entries is found in the whole map
abbrev pub invariant-loop : goal.invariant-loop
invariant-loop l = record {
  whole : (r : Option Reached) → Finds l.registry l.ahead (shape_of l.key) (shape_of l.content) l.wanted l.rest (l.count - l.counter) r
      → Finds l.registry l.ahead (shape_of l.key) (shape_of l.content) l.wanted l.initial.rest l.count r;
}
