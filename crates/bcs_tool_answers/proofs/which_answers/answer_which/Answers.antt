use Rattle.bcs_tool_answers.proofs.Prelude.{inl, refl, IfOk-weaker, sifted, Which}
use Rattle.bcs_tool_answers.proofs.AnswerLemmas.{is_asked, placed_answer}
use Rattle.bcs_tool_answers.proofs.which_answers.answer_which.Goals as goal

pub returns : goal.returns
returns c =
    IfOk-weaker c.found_in.result _ _ (λ a is input within gives. placed_answer _ input a.status a.output.items a refl refl (inl is.1)
    (sifted _ _ c.args.bytes.now a.status a.output.items (is_asked input Which c.requires.command c.requires.asked within) gives is.0)) c.found_in.ensures
