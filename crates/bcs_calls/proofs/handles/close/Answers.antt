use Rattle.bcs_calls.proofs.Prelude.{rules}
use Rattle.bcs_calls.proofs.handles.close.Goals as goal

pub returns : goal.returns
returns c = search rules
