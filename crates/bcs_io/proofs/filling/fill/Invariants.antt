use Rattle.bcs_io.proofs.Prelude.{◌≡◌, ◌-◌, ◌≤◌, false, length, take, Gave}
use Rattle.bcs_io.proofs.filling.fill.Given as goal

abbrev pub invariant-loop-filled : goal.invariant-loop-filled
invariant-loop-filled g l = record {
  good : g.S.ByteSource.is_failed l.source ≡ false;
  within : l.filled ≤ length l.buf;
  len : length l.buf ≡ length l.fn.buf;
  took : Gave g.S.ByteSource.content g.S.ByteSource.is_failed g.S.ByteSource.allowance l.fn.source l.source (take l.filled l.buf);
}

abbrev pub decreases-loop-filled : goal.decreases-loop-filled
decreases-loop-filled g l = length l.buf - l.filled
