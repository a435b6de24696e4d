use Rattle.bcs_calls.proofs.Prelude.{rules}
use Rattle.bcs_calls.proofs.numbered.stop_reason.Goals as goal

pub returns-in-402-clause-some : goal.returns-in-402-clause-some
returns-in-402-clause-some c = search rules
