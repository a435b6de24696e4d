use Rattle.bcs_registry.proofs.OneText.{one_registry}
use Rattle.bcs_registry.proofs.laws.one_registry.Goals as goal

pub returns : goal.returns
returns c = one_registry
