use Rattle.bcs_tool.proofs.Prelude.{◌≡◌, ◌+◌, length}
use Rattle.bcs_tool.proofs.BlockLemmas.{InBlock}
use Rattle.bcs_tool.proofs.lines.block.answer_block.Given as goal

abbrev pub invariant-loop-status : goal.invariant-loop-status
invariant-loop-status g l = record {
  still : l.out ≡ l.initial.out;
  far : InBlock l.work l.fn.earlier l.tally l.initial.buffer l.buffer l.held;
}

abbrev pub decreases-loop-status : goal.decreases-loop-status
decreases-loop-status g l = length l.buffer.rest
