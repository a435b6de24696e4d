use Rattle.bcs_tool_command_line.proofs.Prelude.{◌≡◌, drop, find, found_of, is_misuse, rows_of}
use Rattle.bcs_tool_command_line.proofs.misuse.first_misuse.Given as goal

abbrev pub invariant-loop-misuse : goal.invariant-loop-misuse
invariant-loop-misuse l = find (λ m. is_misuse m l.command (rows_of (found_of l.given))) (drop l.misuse-index l.misuses)
    ≡ find (λ m. is_misuse m l.command (rows_of (found_of l.given))) l.misuses
