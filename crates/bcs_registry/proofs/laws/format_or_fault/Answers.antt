use Rattle.bcs_registry.proofs.OrFault.{format_or_fault}
use Rattle.bcs_registry.proofs.laws.format_or_fault.Goals as goal

pub returns : goal.returns
returns c = format_or_fault
