use Rattle.std.proofs.Common.{◌+◌, ◌*◌, ◌≤◌, length}
use Rattle.bcs_display_errors.proofs.json_outline.+outline.Given as goal

abbrev pub decreases-outline_at : goal.decreases-outline_at
decreases-outline_at l = 2 * length l.steps.now

abbrev pub decreases-outline_in_items : goal.decreases-outline_in_items
decreases-outline_in_items l = 2 * length l.inner.now + 1

abbrev pub decreases-outline_in_members : goal.decreases-outline_in_members
decreases-outline_in_members l = 2 * length l.inner.now + 1

abbrev pub invariant-outline_in_items-items : goal.invariant-outline_in_items-items
invariant-outline_in_items-items l = length l.reader ≤ length l.initial.reader

abbrev pub decreases-outline_in_items-items : goal.decreases-outline_in_items-items
decreases-outline_in_items-items l = length l.reader

abbrev pub invariant-outline_in_members-members : goal.invariant-outline_in_members-members
invariant-outline_in_members-members l = length l.reader ≤ length l.initial.reader

abbrev pub decreases-outline_in_members-members : goal.decreases-outline_in_members-members
decreases-outline_in_members-members l = length l.reader
