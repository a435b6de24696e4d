use Rattle.bcs_tool_answers.proofs.Prelude.{IfOk-weaker}
use Rattle.bcs_tool_answers.proofs.AnswerLemmas.{listed_answer}
use Rattle.bcs_tool_answers.proofs.growing.answer_growth.Goals as goal

pub returns-in_ok-answer-in-Ok : goal.returns-in_ok-answer-in-Ok
returns-in_ok-answer-in-Ok c =
    let verdict = c.in_ok-answer-in-Ok.answer in
    IfOk-weaker c.listed.result _ _ (λ a h bytes.
    listed_answer c.args.work.now h.2 bytes verdict a h.0 h.1 h.4 (c.in_ok-answer-in-Ok.ensures h.2 bytes h.3)) c.listed.ensures
