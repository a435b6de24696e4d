use Rattle.std.proofs.Common.{◌+◌, ◌*◌}
use Rattle.bcs_move_types.proofs.type_text.+reading.Given as goal

-- A type may nest `levels` deep, and its arguments one level less.

abbrev pub decreases-next_type : goal.decreases-next_type
decreases-next_type l = 2 * l.levels

abbrev pub decreases-next_arguments : goal.decreases-next_arguments
decreases-next_arguments l = 2 * l.levels + 1
