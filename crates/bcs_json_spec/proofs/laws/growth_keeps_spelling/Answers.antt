use Rattle.bcs_json_spec.proofs.GrownSpelling as law
use Rattle.bcs_json_spec.proofs.laws.growth_keeps_spelling.Goals as goal

pub returns : goal.returns
returns c = law.growth_keeps_spelling
