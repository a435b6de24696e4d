use Rattle.bcs_registry.proofs.OneText.{one_format}
use Rattle.bcs_registry.proofs.laws.one_format.Goals as goal

pub returns : goal.returns
returns c = one_format
