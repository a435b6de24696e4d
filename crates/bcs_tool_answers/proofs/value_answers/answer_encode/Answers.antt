use Rattle.bcs_tool_answers.proofs.Prelude.{◌∙◌, IfOk, inl, refl, subst, IfOk-weaker, encoded, printed, refused, PrintsWithoutPlace, Coding, Encode}
use Rattle.bcs_tool_answers.proofs.AnswerLemmas.{is_asked, placed_answer, same_answer, with_place}
use Rattle.bcs_tool_answers.proofs.value_answers.answer_encode.Goals as goal

pub returns-in-Ok : goal.returns-in-Ok
returns-in-Ok c =
    let text = c.args.text.now in
    IfOk-weaker c.encoded.result _ _ (λ a is. same_answer _ text a 0 _ is
    (encoded _ _ c.in-Ok.bytes.items (is_asked text Encode c.requires.command c.requires.asked c.requires.within) c.in-Ok.ensures.bytes))
    (subst (λ (coding : Coding). IfOk c.encoded.result (λ a. PrintsWithoutPlace a 0 (printed coding c.in-Ok.bytes.items))) c.coding.ensures c.encoded.ensures)

pub returns-in_ok-refused_text-in-Err : goal.returns-in_ok-refused_text-in-Err
returns-in_ok-refused_text-in-Err c =
    let text = c.args.text.now in
    let set = c.placed.ensures in
    let is = c.in_ok-refused_text-in-Err.ensures in
    placed_answer _ text 2 _ c.placed.result (set.status ∙ is.1.same_status) (set.output ∙ is.1.same_output)
    (with_place c.args.work.now _ _ set.place c.place_of_refusal-place.ensures)
    (refused Encode _ _ c.in-Err.refusal.fault (inl refl) (is_asked text Encode c.requires.command c.requires.asked c.requires.within) (c.in-Err.ensures.refused.0 is.0))
