use Rattle.std.proofs.Common.{sym, ◌∙◌, arith}
use Rattle.bcs_display_mistakes.proofs.MarkedParts.{sign_more, signs_all}
use Rattle.bcs_display_mistakes.proofs.marking.put_marked.Goals as goal

pub loop-sign-preserved : goal.loop-sign-preserved
loop-sign-preserved c = rw c.in_ok-put_sign.ensures (sign_more c.loop-sign.out.items c.args.name.now c.loop-sign.sign-index _ c.loop-sign-test.true ∙ c.loop-sign.invariant)

pub returns : goal.returns
returns c = sym (signs_all c.loop-sign.out.items c.args.name.now c.loop-sign.sign-index (omega (arith, c.loop-sign-test.false))) ∙ c.loop-sign.invariant
