use Rattle.bcs_value.proofs.Prelude.{rules}
use Rattle.bcs_value.proofs.limits.Limits.depth.Goals as goal

pub returns-clause-is : goal.returns-clause-is
returns-clause-is c = search rules

pub returns-clause-bound : goal.returns-clause-bound
returns-clause-bound c = search rules
