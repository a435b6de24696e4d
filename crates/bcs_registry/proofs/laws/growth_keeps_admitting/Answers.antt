use Rattle.bcs_registry.proofs.Prelude.{growth_keeps_admitting_holds}
use Rattle.bcs_registry.proofs.laws.growth_keeps_admitting.Goals as goal

pub returns : goal.returns
returns c = growth_keeps_admitting_holds
