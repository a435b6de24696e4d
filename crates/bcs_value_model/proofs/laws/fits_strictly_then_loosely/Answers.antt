use Rattle.bcs_value_model.proofs.Loosening.{strictly_then_loosely}
use Rattle.bcs_value_model.proofs.laws.fits_strictly_then_loosely.Goals as goal

pub returns : goal.returns
returns c = strictly_then_loosely
