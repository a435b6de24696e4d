use Rattle.bcs_json_spec.proofs.PlaceFaults as law
use Rattle.bcs_json_spec.proofs.laws.place_is_refused_alone.Goals as goal

pub returns : goal.returns
returns c = law.place_is_refused_alone
