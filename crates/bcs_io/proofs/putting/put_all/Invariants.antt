use Rattle.bcs_io.proofs.Prelude.{length, ◌-◌, ◌≤◌, take, Took}
use Rattle.bcs_io.proofs.putting.put_all.Given as goal

abbrev pub invariant-loop-at : goal.invariant-loop-at
invariant-loop-at g l = record {
  within : l.at ≤ length l.bytes;
  front : Took g.K.ByteSink.taken g.K.ByteSink.is_failed l.initial.sink l.sink (take l.at l.bytes);
}

abbrev pub decreases-loop-at : goal.decreases-loop-at
decreases-loop-at g l = length l.bytes - l.at
