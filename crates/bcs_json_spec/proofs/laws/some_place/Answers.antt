use Rattle.bcs_json_spec.proofs.SomePlace as law
use Rattle.bcs_json_spec.proofs.laws.some_place.Goals as goal

pub returns : goal.returns
returns c = law.some_place
