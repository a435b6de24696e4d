use Rattle.bcs_tool_answers.proofs.Prelude.{refl}
use Rattle.bcs_tool_answers.proofs.OneRefusal.{reads_nothing}
use Rattle.bcs_tool_answers.proofs.preparing.prepare.Goals as goal

pub returns-in_ok-answer_alone-in-None : goal.returns-in_ok-answer_alone-in-None
returns-in_ok-answer_alone-in-None c = (reads_nothing c.args.work.now c.args.work.now.command refl c.in-None.ensures, c.in_ok-answer_alone-in-None.ensures)
