use Rattle.bcs_io.proofs.Prelude.{◌≤◌, length, take, HasNoLineFeed}
use Rattle.bcs_io.proofs.Reading.{Reads}
use Rattle.bcs_io.proofs.line_buffer.LineBuffer.advance.Given as goal

abbrev pub invariant-loop-count : goal.invariant-loop-count
invariant-loop-count g l = record {
  within : l.searched ≤ length l.self.rest;
  plain : HasNoLineFeed (take l.searched l.self.rest);
  reads : Reads g.S.ByteSource.content g.S.ByteSource.is_failed g.S.ByteSource.allowance l.initial.source l.source l.initial.self.rest l.self.rest;
}

abbrev pub decreases-loop-count : goal.decreases-loop-count
decreases-loop-count g l = g.S.ByteSource.allowance l.source
