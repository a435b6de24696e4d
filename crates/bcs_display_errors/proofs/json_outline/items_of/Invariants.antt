use Rattle.std.proofs.Common.{◌≤◌, length}
use Rattle.bcs_display_errors.proofs.json_outline.items_of.Given as goal

abbrev pub invariant-items : goal.invariant-items
invariant-items l = length l.reader ≤ length l.initial.reader

abbrev pub decreases-items : goal.decreases-items
decreases-items l = length l.reader
