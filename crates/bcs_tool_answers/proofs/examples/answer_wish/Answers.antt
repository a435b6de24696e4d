use Rattle.bcs_tool_answers.proofs.Prelude.{inl, inr, refl, IfOk-weaker, shape_of, exampled}
use Rattle.bcs_tool_answers.proofs.AnswerLemmas.{placed_answer, same_answer}
use Rattle.bcs_tool_answers.proofs.examples.answer_wish.Goals as goal

pub returns-in-Ok : goal.returns-in-Ok
returns-in-Ok c =
    IfOk-weaker c.shown.result _ _ (λ a made bytes. same_answer c.args.work.now bytes a 0 _ made
    (exampled c.args.registry.now (shape_of c.args.format.now) 0 _ c.requires.asks (inl refl))) c.shown.ensures

pub returns-in-Err : goal.returns-in-Err
returns-in-Err c =
    IfOk-weaker c.refused_wish.result _ _ (λ a is bytes. placed_answer c.args.work.now bytes 2 a.output.items a is.0 refl is.1
    (exampled c.args.registry.now (shape_of c.args.format.now) 2 a.output.items c.requires.asks (inr refl))) c.refused_wish.ensures
