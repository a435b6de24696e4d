use Rattle.bcs_tool_answers.proofs.Prelude.{◌∙◌, ap, map, string_bytes, subst, IfOk-weaker, shape_of, step_of, Err, None, Ok, refl, Some, SpellsSteps, List, Step, sym, NoContent}
use Rattle.bcs_tool_command_line.specs.declared.command.Command.TheVariants.{Part}
use Rattle.bcs_tool_answers.proofs.AnswerLemmas.{is_asked, placed_answer, same_answer}
use Rattle.bcs_tool_answers.proofs.PartAnswers.{finds, has_no_content, leads_nowhere}
use Rattle.bcs_tool_answers.proofs.part_answers.answer_steps.Goals as goal

pub returns-in-Ok-Some : goal.returns-in-Ok-Some
returns-in-Ok-Some c =
    let work = c.args.work.now in
    let asked = c.args.asked.now in
    let path = map step_of c.as_slice.result.now in
    let led = c.requires.scanned in
    let spelled = subst (λ (steps : List Step). SpellsSteps work.options.notation (string_bytes work.path) steps)
    (sym (ap (map step_of) c.as_slice.ensures.value ∙ c.in_ok-steps.ensures)) c.requires.spelled in
    IfOk-weaker c.answer_found.result _ _ (λ a is input within gives. same_answer work input a 0 _ is
    (finds work input asked.registry (shape_of asked.format) c.args.bytes.now led.0 led.1 path (is_asked input Part c.requires.command c.requires.asked within) spelled gives led.2
    (Ok c.in-Ok-Some.field-0) c.in-Ok-Some.part (ap Ok c.in-Ok-Some.field-0-is) (c.in-Ok-Some.ensures led.0 led.1 led.2))) c.answer_found.ensures

pub returns-in-Ok-None : goal.returns-in-Ok-None
returns-in-Ok-None c =
    let work = c.args.work.now in
    let asked = c.args.asked.now in
    let path = map step_of c.as_slice.result.now in
    let led = c.requires.scanned in
    let spelled = subst (λ (steps : List Step). SpellsSteps work.options.notation (string_bytes work.path) steps)
    (sym (ap (map step_of) c.as_slice.ensures.value ∙ c.in_ok-steps.ensures)) c.requires.spelled in
    IfOk-weaker c.answer_nowhere.result _ _ (λ a is input within gives. placed_answer work input 1 _ a is.0 is.1 is.2
    (leads_nowhere work input asked.registry (shape_of asked.format) c.args.bytes.now led.0 led.1 path (is_asked input Part c.requires.command c.requires.asked within) spelled gives led.2
    (Ok c.in-Ok-None.field-0) (ap Ok c.in-Ok-None.field-0-is) (c.in-Ok-None.ensures led.0 led.1 led.2))) c.answer_nowhere.ensures

pub returns-in-Err : goal.returns-in-Err
returns-in-Err c =
    let work = c.args.work.now in
    let asked = c.args.asked.now in
    let path = map step_of c.as_slice.result.now in
    let led = c.requires.scanned in
    let spelled = subst (λ (steps : List Step). SpellsSteps work.options.notation (string_bytes work.path) steps)
    (sym (ap (map step_of) c.as_slice.ensures.value ∙ c.in_ok-steps.ensures)) c.requires.spelled in
    IfOk-weaker c.answer_no_content.result _ _ (λ a is input within gives. placed_answer work input 2 _ a is.0 is.1 is.2
    (has_no_content work input asked.registry (shape_of asked.format) c.args.bytes.now led.0 led.1 path (is_asked input Part c.requires.command c.requires.asked within) spelled gives led.2
    (Err c.in-Err.field-0) c.in-Err.field-0 refl (c.in-Err.ensures led.0 led.1 led.2))) c.answer_no_content.ensures
