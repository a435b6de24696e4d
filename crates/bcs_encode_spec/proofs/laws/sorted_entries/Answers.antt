use Rattle.bcs_encode_spec.proofs.Sorting.{sorted_entries}
use Rattle.bcs_encode_spec.proofs.laws.sorted_entries.Goals as goal

pub returns : goal.returns
returns c = sorted_entries
