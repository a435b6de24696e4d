use Rattle.bcs_tool.proofs.Prelude.{rules}
use Rattle.bcs_tool.proofs.console.command_line.misuse_fault.Goals as goal

pub returns-in-Ok : goal.returns-in-Ok
returns-in-Ok c = search rules
