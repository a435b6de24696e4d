use Rattle.bcs_tool_answers.proofs.Prelude.{◌∙◌, ap, refusal_line, unmade}
use Rattle.bcs_move_types.specs.FaultNames.{move_refusal_name}
use Rattle.bcs_tool_answers.proofs.AnswerLemmas.{placed_answer, with_place}
use Rattle.bcs_tool_answers.proofs.from_move.refusal_answer.Goals as goal

pub returns : goal.returns
returns c bytes =
    let work = c.args.work.now in
    let name = c.args.refusal.name in
    let set = c.placed.ensures in
    let is = c.in_ok-refused.ensures in
    placed_answer work bytes 2 (refusal_line (move_refusal_name name)) c.placed.result (set.status ∙ is.same_status)
    (set.output ∙ is.same_output ∙ ap refusal_line c.name-name.ensures)
    (with_place work _ _ set.place c.place_of_move-place.ensures) (unmade name c.requires)
