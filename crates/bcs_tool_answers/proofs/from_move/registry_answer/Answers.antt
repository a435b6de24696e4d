use Rattle.bcs_tool_answers.proofs.Prelude.{◌∙◌, string_bytes, line_of, made}
use Rattle.bcs_tool_answers.proofs.AnswerLemmas.{placed_answer, with_place}
use Rattle.bcs_tool_answers.proofs.from_move.registry_answer.Goals as goal

pub returns : goal.returns
returns c bytes =
    let work = c.args.work.now in
    let text = string_bytes c.args.made.json in
    let set = c.placed.ensures in
    let is = c.in_ok-shown.ensures in
    let registry = c.requires.registry in
    placed_answer work bytes 0 (line_of text) c.placed.result (set.status ∙ is.same_status) (set.output ∙ is.same_output)
    (with_place work _ _ set.place c.place_of_notes-place.ensures) (made registry.0 text c.requires.command (registry.1, registry.2))
