use Rattle.bcs_value_model.proofs.Growth.{growth_keeps}
use Rattle.bcs_value_model.proofs.laws.growth_keeps_fitting.Goals as goal

pub returns : goal.returns
returns c = growth_keeps
