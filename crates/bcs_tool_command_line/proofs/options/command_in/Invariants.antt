use Rattle.bcs_tool_command_line.proofs.Prelude.{◌≡◌, bytes_eq, drop, find, row_of}
use Rattle.bcs_tool_command_line.proofs.options.command_in.Given as goal

abbrev pub invariant-loop-command : goal.invariant-loop-command
invariant-loop-command l = find (λ c. bytes_eq l.name (row_of c).name) (drop l.command-index l.commands)
    ≡ find (λ c. bytes_eq l.name (row_of c).name) l.commands
