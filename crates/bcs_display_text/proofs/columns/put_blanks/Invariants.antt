use Rattle.std.proofs.Common.{◌≡◌, ◌++◌}
use Rattle.bcs_display_text.specs.Columns.{blanks}
use Rattle.bcs_display_text.proofs.columns.put_blanks.Given as goal

abbrev pub invariant-loop : goal.invariant-loop
invariant-loop l = l.out.items ≡ l.initial.out.items ++ blanks l.counter
