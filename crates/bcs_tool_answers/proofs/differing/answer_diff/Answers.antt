use Rattle.bcs_tool_answers.proofs.Prelude.{refl, IfOk-weaker, differed, Diff}
use Rattle.bcs_tool_answers.proofs.AnswerLemmas.{is_asked, placed_answer}
use Rattle.bcs_tool_answers.proofs.differing.answer_diff.Goals as goal

pub returns : goal.returns
returns c =
    let input = c.args.input.now in
    IfOk-weaker c.differing_values.result _ _ (λ a is. placed_answer c.args.work.now input a.status a.output.items a refl refl is.1
    (differed _ _ a.status a.output.items (is_asked input Diff c.requires.command c.requires.asked c.requires.within) is.0)) c.differing_values.ensures
