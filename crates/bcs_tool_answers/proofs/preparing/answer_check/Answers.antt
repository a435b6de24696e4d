use Rattle.bcs_tool_answers.proofs.Prelude.{length, subst, ℕ, IfOk-weaker, checked, count_line, PrintsWithoutPlace}
use Rattle.bcs_tool_answers.proofs.AnswerLemmas.{same_answer}
use Rattle.bcs_tool_answers.proofs.preparing.answer_check.Goals as goal

pub returns-in-Ok : goal.returns-in-Ok
returns-in-Ok c =
    let work = c.args.work.now in
    let is = c.in-Ok.ensures.ok in
    IfOk-weaker c.counted.result _ _ (λ a made bytes. same_answer work bytes a 0 (count_line (length is.0)) (subst (λ (n : ℕ). PrintsWithoutPlace a 0 (count_line n)) is.2 made)
    (checked is.0 c.requires is.1)) c.counted.ensures
