use Rattle.bcs_registry.proofs.Prelude.{common_steps, rules, arith}
use Rattle.bcs_registry.proofs.registry.Registry.len.Goals as goal

pub returns-clause-orderly : goal.returns-clause-orderly
returns-clause-orderly c = search rules

pub returns-clause-length : goal.returns-clause-length
returns-clause-length c = grind (arith, common_steps)
