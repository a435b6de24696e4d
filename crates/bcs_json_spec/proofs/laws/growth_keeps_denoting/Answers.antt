use Rattle.bcs_json_spec.proofs.GrownSpelling as law
use Rattle.bcs_json_spec.proofs.laws.growth_keeps_denoting.Goals as goal

pub returns : goal.returns
returns c = law.growth_keeps_denoting
