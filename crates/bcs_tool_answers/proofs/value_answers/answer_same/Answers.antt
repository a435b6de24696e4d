use Rattle.bcs_tool_answers.proofs.Prelude.{List, subst, ℕ, shape_of, AnswersTexts, compared, nothing, Same}
use Rattle.bcs_tool_answers.proofs.AnswerLemmas.{is_asked, placed_answer, with_place}
use Rattle.bcs_tool_answers.proofs.value_answers.answer_same.Goals as goal

pub returns-then-answer-eq2 : goal.returns-then-answer-eq2
returns-then-answer-eq2 c =
    let text = c.args.text.now in
    let asked = c.args.asked.now in
    let answer = c.in_ok-answer.answer in
    let set = c.placed.ensures in
    let P : List ℕ → Type 0 = λ first. AnswersTexts asked.registry c.args.work.now.limits (shape_of asked.format) first text answer.status answer.output.items in
    placed_answer _ text _ _ c.placed.result set.status set.output (with_place c.args.work.now _ _ set.place c.place_of_pair-place.ensures)
    (compared _ _ _ _ (is_asked text Same c.requires.command c.requires.asked c.requires.within) (subst P c.as_slice.ensures.value c.in_ok-answer.ensures.answers))

pub returns-else-answer-eq2 : goal.returns-else-answer-eq2
returns-else-answer-eq2 c =
    let text = c.args.text.now in
    let asked = c.args.asked.now in
    let answer = c.in_ok-answer.answer in
    let P : List ℕ → Type 0 = λ first. AnswersTexts asked.registry c.args.work.now.limits (shape_of asked.format) first text answer.status answer.output.items in
    (compared _ _ _ _ (is_asked text Same c.requires.command c.requires.asked c.requires.within) (subst P c.as_slice.ensures.value c.in_ok-answer.ensures.answers), nothing c.in_ok-answer.ensures.place)
