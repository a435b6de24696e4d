use Rattle.bcs_json_spec.proofs.Places as law
use Rattle.bcs_json_spec.proofs.laws.one_place.Goals as goal

pub returns : goal.returns
returns c = law.one_place
