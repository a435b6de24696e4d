use Rattle.bcs_value.proofs.Prelude.{rules}
use Rattle.bcs_value.proofs.fitting.fits_loosely.Goals as goal

pub returns : goal.returns
returns c = search rules
