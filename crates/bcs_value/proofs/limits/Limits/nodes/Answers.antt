use Rattle.bcs_value.proofs.Prelude.{rules}
use Rattle.bcs_value.proofs.limits.Limits.nodes.Goals as goal

pub returns : goal.returns
returns c = search rules
