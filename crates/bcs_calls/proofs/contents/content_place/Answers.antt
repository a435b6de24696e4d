use Rattle.bcs_calls.proofs.Prelude.{ap, map, subst, ◌∙◌, shape_of, step_of, all_spelled, Steps}
use Rattle.bcs_calls.specs.Contents.{AnswersContentAt, stepped}
use Rattle.bcs_calls.proofs.contents.content_place.Goals as goal

pub returns-in-Ok-steps_of : goal.returns-in-Ok-steps_of
returns-in-Ok-steps_of c =
    let asked = c.args.asked.now in
    let same = ap (map step_of) c.as_slice-in-Ok-steps_of.ensures.value ∙ c.in-Ok-steps_of.ensures ∙ ap all_spelled c.as_slice.ensures.value in
    stepped (all_spelled c.in-Ok.path.items) c.in-Ok.ensures.leads
    (subst (λ (x : Steps). AnswersContentAt asked.registry.now asked.limits (shape_of asked.format.now) c.args.bytes.now x c.scanned_content.result) same c.scanned_content.ensures)
