use Rattle.bcs_json.proofs.Prelude.{rules}
use Rattle.bcs_json.proofs.decoding.whole_value.Goals as goal

pub returns-then-length-bytes : goal.returns-then-length-bytes
returns-then-length-bytes c = search rules
