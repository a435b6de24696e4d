use Rattle.bcs_tool.proofs.Prelude.{◌+◌, length, IsSoFar}
use Rattle.bcs_tool.proofs.lines.running.answer_each_line.Given as goal

abbrev pub invariant-loop-buffer : goal.invariant-loop-buffer
invariant-loop-buffer g l = record {
  far : IsSoFar g.S.ByteSource.content g.S.ByteSource.is_failed g.S.ByteSource.allowance g.K.ByteSink.taken g.K.ByteSink.is_failed l.work l.initial.input l.input l.initial.out l.out l.buffer.rest l.tally;
}

abbrev pub decreases-loop-buffer : goal.decreases-loop-buffer
decreases-loop-buffer g l = length l.buffer.rest + g.S.ByteSource.allowance l.input
