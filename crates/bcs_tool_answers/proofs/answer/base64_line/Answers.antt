use Rattle.bcs_tool_answers.proofs.Prelude.{◌∙◌, ap, IfOk-weaker, line_of, base64_text}
use Rattle.bcs_tool_answers.proofs.answer.base64_line.Goals as goal

pub returns : goal.returns
unfolding base64_text
returns c = IfOk-weaker c.with_line_end.result _ _ (λ v is. is ∙ ap line_of c.in_ok-encode.ensures.text) c.with_line_end.ensures
