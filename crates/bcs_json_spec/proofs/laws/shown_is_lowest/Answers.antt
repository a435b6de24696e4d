use Rattle.bcs_json_spec.proofs.Lowest as law
use Rattle.bcs_json_spec.proofs.laws.shown_is_lowest.Goals as goal

pub returns : goal.returns
returns c = law.shown_is_lowest
