use Rattle.bcs_tool.proofs.Prelude.{arith}
use Rattle.bcs_tool.proofs.HeldLemmas.{whole_within}
use Rattle.bcs_tool.proofs.lines.held_answers.HeldAnswers.write_to.Goals as goal

pub overflow_sub-lost : goal.overflow_sub-lost
overflow_sub-lost g c =
    omega (arith, whole_within c.as_slice-in-Err.result.now c.in-Err.accepted, c.whole.ensures, c.len.ensures, c.as_slice-in-Err.ensures.len)
