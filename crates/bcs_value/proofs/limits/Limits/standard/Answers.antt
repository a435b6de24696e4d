use Rattle.bcs_value.proofs.Prelude.{rules}
use Rattle.bcs_value.proofs.limits.Limits.standard.Goals as goal

pub returns-clause-depth : goal.returns-clause-depth
returns-clause-depth c = search rules

pub returns-clause-nodes : goal.returns-clause-nodes
returns-clause-nodes c = search rules
