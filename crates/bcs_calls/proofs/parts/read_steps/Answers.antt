use Rattle.bcs_calls.proofs.Prelude.{rules}
use Rattle.bcs_calls.proofs.parts.read_steps.Goals as goal

pub returns-in-Ok-read_path-clause-ok : goal.returns-in-Ok-read_path-clause-ok
returns-in-Ok-read_path-clause-ok c = search rules

pub returns-in-Err-BadPath-clause-err : goal.returns-in-Err-BadPath-clause-err
returns-in-Err-BadPath-clause-err c = search rules
