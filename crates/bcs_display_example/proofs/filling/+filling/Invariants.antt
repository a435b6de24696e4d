use Rattle.std.proofs.Common.{◌+◌, ◌*◌, ◌≤◌}
use Rattle.bcs_display_example.proofs.filling.+filling.Given as goal

-- Each value takes at least one node from the budget.

abbrev pub decreases-fill : goal.decreases-fill
decreases-fill l = 4 * l.left.now + 1

abbrev pub decreases-fill_option : goal.decreases-fill_option
decreases-fill_option l = 4 * l.left.now

abbrev pub decreases-fill_copies : goal.decreases-fill_copies
decreases-fill_copies l = 4 * l.left.now

abbrev pub decreases-fill_entry : goal.decreases-fill_entry
decreases-fill_entry l = 4 * l.left.now

abbrev pub decreases-fill_row : goal.decreases-fill_row
decreases-fill_row l = 4 * l.left.now

abbrev pub decreases-fill_fields : goal.decreases-fill_fields
decreases-fill_fields l = 4 * l.left.now

abbrev pub decreases-fill_named : goal.decreases-fill_named
decreases-fill_named l = 4 * l.left.now

abbrev pub decreases-fill_part : goal.decreases-fill_part
decreases-fill_part l = 4 * l.left.now + 2

abbrev pub invariant-fill_row-loop-format : goal.invariant-fill_row-loop-format
invariant-fill_row-loop-format l = l.left ≤ l.initial.left

abbrev pub invariant-fill_fields-loop-field : goal.invariant-fill_fields-loop-field
invariant-fill_fields-loop-field l = l.left ≤ l.initial.left
