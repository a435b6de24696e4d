use Rattle.bcs_tool_answers.specs.Answers.{shown}
use Rattle.bcs_tool_answers.proofs.AnswerLemmas.{same_answer}
use Rattle.bcs_tool_answers.proofs.showing.answer_show.Goals as goal

pub returns-in_ok-registry_text-in-Ok : goal.returns-in_ok-registry_text-in-Ok
returns-in_ok-registry_text-in-Ok c bytes =
    let is = c.in-Ok.ensures.ok in
    same_answer c.args.work.now bytes c.unplaced.result 0 _ c.unplaced.ensures (shown c.in-Ok.registry _ c.requires is.0 is.1)
