use Rattle.std.proofs.Common.{sym, ◌∙◌, arith}
use Rattle.bcs_display_errors.proofs.PointerParts.{step_more, steps_all}
use Rattle.bcs_display_errors.proofs.pointers.pointer_of.Goals as goal

pub loop-step-preserved : goal.loop-step-preserved
loop-step-preserved c = rw c.in_ok-put_step.ensures (step_more c.loop-step.out.items c.args.steps.now c.loop-step.step-index c.step-item.result (omega (arith, c.loop-step-test.true)) c.step-item.is ∙ c.loop-step.invariant)

pub returns : goal.returns
returns c = sym (steps_all c.loop-step.out.items c.args.steps.now c.loop-step.step-index (omega (arith, c.loop-step-test.false))) ∙ c.loop-step.invariant
