use Rattle.bcs_json.proofs.Prelude.{rules}
use Rattle.bcs_json.proofs.reading.read_value_or_refusal.Goals as goal

pub returns-clause-denotes : goal.returns-clause-denotes
returns-clause-denotes c = search rules
