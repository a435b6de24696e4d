use Rattle.bcs_tool_answers.proofs.Prelude.{◌∙◌, [], refl, refusal_line, refused_early, job_fault_name}
use Rattle.bcs_tool_answers.proofs.AnswerLemmas.{placed_answer, with_place}
use Rattle.bcs_tool_answers.proofs.refusing.refused_words.Goals as goal

pub returns-clause-answers : goal.returns-clause-answers
returns-clause-answers c bytes =
    let work = c.args.work.now in
    let fault = c.args.fault in
    let set = c.placed.ensures in
    let is = c.in_ok-answer.ensures in
    placed_answer work bytes 2 (refusal_line (job_fault_name fault)) c.placed.result (set.status ∙ is.1.same_status) (set.output ∙ is.1.same_output)
    (with_place work _ _ set.place c.place_of_words-place.ensures) (refused_early fault [] (c.requires.refused is.0) (λ _. refl))
