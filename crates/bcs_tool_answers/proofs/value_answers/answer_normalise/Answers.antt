use Rattle.bcs_tool_answers.proofs.Prelude.{◌∙◌, inr, refl, string_bytes, IfOk-weaker, normalised, refused, Normalise}
use Rattle.bcs_tool_answers.proofs.AnswerLemmas.{is_asked, placed_answer, same_answer, with_place}
use Rattle.bcs_tool_answers.proofs.value_answers.answer_normalise.Goals as goal

pub returns-in-Ok : goal.returns-in-Ok
returns-in-Ok c =
    let text = c.args.text.now in
    IfOk-weaker c.shown.result _ _ (λ a is. same_answer _ text a 0 _ is
    (normalised _ _ (string_bytes c.in-Ok.normal) (is_asked text Normalise c.requires.command c.requires.asked c.requires.within) c.in-Ok.ensures.normal)) c.shown.ensures

pub returns-in_ok-refused_text-in-Err : goal.returns-in_ok-refused_text-in-Err
returns-in_ok-refused_text-in-Err c =
    let text = c.args.text.now in
    let set = c.placed.ensures in
    let is = c.in_ok-refused_text-in-Err.ensures in
    placed_answer _ text 2 _ c.placed.result (set.status ∙ is.1.same_status) (set.output ∙ is.1.same_output)
    (with_place c.args.work.now _ _ set.place c.place_of_refusal-place.ensures)
    (refused Normalise _ _ c.in-Err.refusal.fault (inr refl) (is_asked text Normalise c.requires.command c.requires.asked c.requires.within) (c.in-Err.ensures.refused.0 is.0))
