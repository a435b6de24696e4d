use Rattle.bcs_registry.proofs.OneFault.{one_format_fault}
use Rattle.bcs_registry.proofs.laws.one_format_fault.Goals as goal

pub returns : goal.returns
returns c = one_format_fault
