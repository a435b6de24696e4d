use Rattle.bcs_registry.proofs.OrFault.{registry_or_fault}
use Rattle.bcs_registry.proofs.laws.registry_or_fault.Goals as goal

pub returns : goal.returns
returns c = registry_or_fault
