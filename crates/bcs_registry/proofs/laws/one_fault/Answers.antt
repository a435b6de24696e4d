use Rattle.bcs_registry.proofs.OneFault.{one_fault}
use Rattle.bcs_registry.proofs.laws.one_fault.Goals as goal

pub returns : goal.returns
returns c = one_fault
