use Rattle.bcs_json_spec.proofs.Headline as law
use Rattle.bcs_json_spec.proofs.laws.equal_values_equal_bytes.Goals as goal

pub returns : goal.returns
returns c = law.equal_values_equal_bytes
