use Rattle.bcs_encode_spec.proofs.Sorting.{equal_neighbours_repeat}
use Rattle.bcs_encode_spec.proofs.laws.equal_neighbours_repeat.Goals as goal

pub returns : goal.returns
returns c = equal_neighbours_repeat
