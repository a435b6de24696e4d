use Rattle.bcs_tool_answers.proofs.LineLaws as law
use Rattle.bcs_tool_answers.proofs.laws.one_answer_a_line.Goals as goal

pub returns : goal.returns
returns c = law.one_answer_a_line
