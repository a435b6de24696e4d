use Rattle.std.proofs.Common.{◌+◌, ◌*◌}
use Rattle.bcs_move_types.proofs.sui_types.+json.Given as goal

-- A type may nest `levels` deep, and its arguments one level less.

abbrev pub decreases-next_type : goal.decreases-next_type
decreases-next_type l = 3 * l.levels + 1

abbrev pub decreases-next_tagged : goal.decreases-next_tagged
decreases-next_tagged l = 3 * l.levels

abbrev pub decreases-next_struct : goal.decreases-next_struct
decreases-next_struct l = 3 * l.levels + 2
