use Rattle.bcs_tool_command_line.proofs.Prelude.{arith, common_steps}
use Rattle.bcs_tool_command_line.proofs.definition.with_words.Goals as goal

pub loop-word-preserved : goal.loop-word-preserved
loop-word-preserved c = grind (arith, common_steps)
