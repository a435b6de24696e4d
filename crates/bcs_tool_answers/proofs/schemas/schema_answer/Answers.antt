use Rattle.bcs_tool_answers.proofs.Prelude.{IfOk-weaker, shape_of, described}
use Rattle.bcs_tool_answers.proofs.AnswerLemmas.{same_answer}
use Rattle.bcs_tool_answers.proofs.schemas.schema_answer.Goals as goal

pub returns : goal.returns
returns c =
    IfOk-weaker c.shown.result _ _ (λ a made bytes. same_answer c.args.work.now bytes a 0 _ made
    (described c.args.registry.now (shape_of c.args.format.now) _ c.requires.asks)) c.shown.ensures
