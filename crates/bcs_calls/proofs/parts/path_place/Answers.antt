use Rattle.bcs_calls.proofs.Prelude.{ap, map, rules, ◌∙◌, shape_of, step_of, all_spelled}
use Rattle.bcs_calls.proofs.PartAnswers.{by_steps, part_only, part_stopped}
use Rattle.bcs_calls.proofs.parts.path_place.Goals as goal

pub returns-in-Ok-steps_of-clause-answers : goal.returns-in-Ok-steps_of-clause-answers
returns-in-Ok-steps_of-clause-answers c =
    let asked = c.args.asked.now in
    let s = shape_of asked.format.now in
    let same = ap (map step_of) c.as_slice-in-Ok-steps_of.ensures.value ∙ c.in-Ok-steps_of.ensures ∙ ap all_spelled c.as_slice.ensures.value in
    let answers =
    by_steps asked.registry.now asked.limits s c.args.bytes.now c.args.path.now c.step_place.result (all_spelled c.in-Ok.spelled.items)
    (map step_of c.as_slice-in-Ok-steps_of.result.now) c.in-Ok.ensures.ok same c.step_place.ensures
    in
    search (rules, answers)

pub returns-in-Ok-steps_of-clause-only : goal.returns-in-Ok-steps_of-clause-only
returns-in-Ok-steps_of-clause-only c steps n t path h memory =
    let asked = c.args.asked.now in
    let s = shape_of asked.format.now in
    let same = ap (map step_of) c.as_slice-in-Ok-steps_of.ensures.value ∙ c.in-Ok-steps_of.ensures ∙ ap all_spelled c.as_slice.ensures.value in
    let answers =
    by_steps asked.registry.now asked.limits s c.args.bytes.now c.args.path.now c.step_place.result (all_spelled c.in-Ok.spelled.items)
    (map step_of c.as_slice-in-Ok-steps_of.result.now) c.in-Ok.ensures.ok same c.step_place.ensures
    in
    part_only asked.registry.now asked.limits s c.args.bytes.now c.args.path.now c.step_place.result steps n t path h memory answers

pub returns-in-Ok-steps_of-clause-stopped : goal.returns-in-Ok-steps_of-clause-stopped
returns-in-Ok-steps_of-clause-stopped c steps e o path h =
    let asked = c.args.asked.now in
    let s = shape_of asked.format.now in
    let same = ap (map step_of) c.as_slice-in-Ok-steps_of.ensures.value ∙ c.in-Ok-steps_of.ensures ∙ ap all_spelled c.as_slice.ensures.value in
    let answers =
    by_steps asked.registry.now asked.limits s c.args.bytes.now c.args.path.now c.step_place.result (all_spelled c.in-Ok.spelled.items)
    (map step_of c.as_slice-in-Ok-steps_of.result.now) c.in-Ok.ensures.ok same c.step_place.ensures
    in
    part_stopped asked.registry.now asked.limits s c.args.bytes.now c.args.path.now c.step_place.result steps e o path h answers
