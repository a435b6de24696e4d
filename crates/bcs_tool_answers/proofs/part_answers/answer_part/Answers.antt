use Rattle.bcs_tool_answers.proofs.Prelude.{IfOk-weaker, front_stopped}
use Rattle.bcs_tool_command_line.specs.declared.command.Command.TheVariants.{Part}
use Rattle.bcs_tool_answers.proofs.AnswerLemmas.{is_asked, placed_answer}
use Rattle.bcs_tool_answers.proofs.part_answers.answer_part.Goals as goal

pub returns-in-Err : goal.returns-in-Err
returns-in-Err c =
    let stop = c.in-Err.stop in
    IfOk-weaker c.answer_stop.result _ _ (λ a is input within gives. placed_answer _ input 2 _ a is.0 is.1 is.2
    (front_stopped _ _ c.args.bytes.now stop.reason stop.place (is_asked input Part c.requires.command c.requires.asked within) gives c.in-Err.ensures.stops)) c.answer_stop.ensures
