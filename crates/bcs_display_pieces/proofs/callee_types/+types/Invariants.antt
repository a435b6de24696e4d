use Rattle.std.proofs.Common.{◌+◌, ◌*◌}
use Rattle.bcs_display_pieces.proofs.callee_types.+types.Given as goal

-- A type may nest `levels` deep, and the types in it one level less.

abbrev pub decreases-put_list : goal.decreases-put_list
decreases-put_list l = 3 * l.levels

abbrev pub decreases-put_type : goal.decreases-put_type
decreases-put_type l = 3 * l.levels + 2

abbrev pub decreases-put_vector : goal.decreases-put_vector
decreases-put_vector l = 3 * l.levels + 1

abbrev pub decreases-put_struct : goal.decreases-put_struct
decreases-put_struct l = 3 * l.levels + 1
