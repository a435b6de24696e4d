use Rattle.bcs_registry.proofs.SomeText.{registry_written}
use Rattle.bcs_registry.proofs.laws.some_registry.Goals as goal

pub returns : goal.returns
returns c = registry_written
