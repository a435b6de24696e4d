use Rattle.bcs_io.proofs.Prelude.{rules}
use Rattle.bcs_io.proofs.read_source.ReadSourceByteSource.failed.Goals as goal

pub returns : goal.returns
returns g c = search rules
