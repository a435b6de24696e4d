use Rattle.bcs_registry.proofs.Prelude.{rules}
use Rattle.bcs_registry.proofs.registry.Registry.read_format.Goals as goal

pub returns-clause-ok : goal.returns-clause-ok
returns-clause-ok c = search rules
