use Rattle.bcs_io.proofs.Prelude.{rules}
use Rattle.bcs_io.proofs.slice_source.SliceSource.rest.Goals as goal

pub returns : goal.returns
returns c = search rules
