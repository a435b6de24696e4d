use Rattle.bcs_tool_command_line.proofs.Prelude.{rules}
use Rattle.bcs_tool_command_line.proofs.parsing.refusal.Goals as goal

pub returns-then-eq : goal.returns-then-eq
returns-then-eq c = search rules

pub returns-in_default : goal.returns-in_default
returns-in_default c = search rules

pub returns-in-DisplayHelp : goal.returns-in-DisplayHelp
returns-in-DisplayHelp c = search rules

pub returns-in_default-kind : goal.returns-in_default-kind
returns-in_default-kind c = search rules
