use Rattle.bcs_value.proofs.Prelude.{rules}
use Rattle.bcs_value.proofs.fitting.has_format.Goals as goal

pub returns : goal.returns
returns c = search rules
