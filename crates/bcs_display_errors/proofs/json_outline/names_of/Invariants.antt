use Rattle.std.proofs.Common.{◌≤◌, length}
use Rattle.bcs_display_errors.proofs.json_outline.names_of.Given as goal

abbrev pub invariant-members : goal.invariant-members
invariant-members l = length l.reader ≤ length l.initial.reader

abbrev pub decreases-members : goal.decreases-members
decreases-members l = length l.reader
