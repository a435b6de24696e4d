use Rattle.bcs_io.proofs.Prelude.{length, ◌≤◌, Gave}
use Rattle.bcs_io.proofs.taking.take_all.Given as goal

abbrev pub invariant-loop-count : goal.invariant-loop-count
invariant-loop-count g l = record {
  within : length l.bytes.items ≤ l.limit;
  front : Gave g.S.ByteSource.content g.S.ByteSource.is_failed g.S.ByteSource.allowance l.initial.input l.input l.bytes.items;
}

abbrev pub decreases-loop-count : goal.decreases-loop-count
decreases-loop-count g l = g.S.ByteSource.allowance l.input
