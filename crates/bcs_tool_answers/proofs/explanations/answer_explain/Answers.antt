use Rattle.bcs_tool_answers.proofs.Prelude.{◌≡◌, true, IfErr, IfOk-weaker, Result, refl, subst, is_some, unopened, Explain}
use Rattle.bcs_display_pieces.specs.declared.refused_view.RefusedView.{RefusedView}
use Rattle.bcs_display_pieces.specs.declared.views.Views.{Views}
use Rattle.bcs_tool_answers.proofs.AnswerLemmas.{is_asked, placed_answer}
use Rattle.bcs_tool_answers.proofs.explanations.answer_explain.Goals as goal

pub returns-in-Err : goal.returns-in-Err
returns-in-Err c =
    let given = subst (λ (r : Result Views RefusedView). IfErr r (λ _. is_some c.args.work.now.options.views ≡ true)) c.in-Err.is c.in_ok-views.ensures.given in
    IfOk-weaker c.answer_refused_view.result _ _ (λ a is input within gives. placed_answer _ input 2 _ a is.0 refl is.1
    (unopened _ _ c.args.bytes.now a.output.items (is_asked input Explain c.requires.command c.requires.asked within) gives given)) c.answer_refused_view.ensures
