use Rattle.bcs_tool_answers.proofs.OneRefusal.{refusal_reads_nothing}
use Rattle.bcs_tool_answers.proofs.preparing.prepare_asked.Goals as goal

pub returns-in_ok-refused_words-in-Err : goal.returns-in_ok-refused_words-in-Err
returns-in_ok-refused_words-in-Err c =
    let refused = c.in_ok-refused_words-in-Err.ensures in
    (refusal_reads_nothing c.args.work.now c.in-Err.fault refused.refuses, refused.answers)
