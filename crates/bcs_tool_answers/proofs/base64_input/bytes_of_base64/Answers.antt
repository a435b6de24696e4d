use Rattle.bcs_tool_answers.proofs.Prelude.{IfErr-weaker}
use Rattle.bcs_tool_answers.proofs.Base64Lemmas.{both_ok, is_base64, is_strict, no_base64}
use Rattle.bcs_tool_answers.proofs.base64_input.bytes_of_base64.Goals as goal

pub returns-clause-ok : goal.returns-clause-ok
returns-clause-ok c =
    both_ok c.decode.result _ _ _ (λ v bytes is. is_base64 c.args.text.now v.items bytes is) c.decode.ensures.bytes (c.decode.ensures.exact is_strict)

pub returns-clause-err : goal.returns-clause-err
returns-clause-err c = IfErr-weaker c.decode.result _ _ (λ e fails. no_base64 c.args.text.now e fails) c.decode.ensures.err
