use Rattle.bcs_tool_command_line.proofs.Prelude.{◌∙◌, ap₂, coding}
use Rattle.bcs_tool_command_line.proofs.arguments.coding_of.Goals as goal

pub returns : goal.returns
returns c = c.of.ensures ∙ ap₂ coding c.is_set.ensures c.is_set-2.ensures
