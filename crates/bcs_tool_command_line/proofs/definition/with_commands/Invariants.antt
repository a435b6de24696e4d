use Rattle.bcs_tool_command_line.proofs.Prelude.{◌≡◌, drop, fold, map, app_of, app_of_command, with_command}
use Rattle.bcs_tool_command_line.proofs.definition.with_commands.Given as goal

abbrev pub invariant-loop-command : goal.invariant-loop-command
invariant-loop-command l = fold with_command (app_of l.program) (map app_of_command (drop l.command-index l.commands))
    ≡ fold with_command (app_of l.initial.program) (map app_of_command l.commands)
