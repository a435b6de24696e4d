use Rattle.bcs_registry.proofs.Prelude.{rules}
use Rattle.bcs_registry.proofs.registry.Registry.variant_number.Goals as goal

pub returns : goal.returns
returns c = search rules
