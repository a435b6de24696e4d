use Rattle.bcs_tool_answers.proofs.Prelude.{IfOk-weaker, scan_stopped, scanned, Scan}
use Rattle.bcs_tool_answers.proofs.AnswerLemmas.{is_asked, placed_answer, same_answer}
use Rattle.bcs_tool_answers.proofs.scan_answers.answer_scan.Goals as goal

pub returns-in-Ok : goal.returns-in-Ok
returns-in-Ok c =
    let found = c.in-Ok.ensures.found in
    IfOk-weaker c.counted.result _ _ (λ a is input within gives. same_answer _ input a 0 _ is
    (scanned _ _ c.args.bytes.now c.in-Ok.count found.0.0 (is_asked input Scan c.requires.command c.requires.asked within) gives found.0.1 found.1)) c.counted.ensures

pub returns-in-Err : goal.returns-in-Err
returns-in-Err c =
    let stop = c.in-Err.stop in
    IfOk-weaker c.answer_stop.result _ _ (λ a is input within gives. placed_answer _ input 2 _ a is.0 is.1 is.2
    (scan_stopped _ _ c.args.bytes.now stop.reason stop.place (is_asked input Scan c.requires.command c.requires.asked within) gives c.in-Err.ensures.stops)) c.answer_stop.ensures
