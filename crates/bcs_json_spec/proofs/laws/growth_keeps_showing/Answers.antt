use Rattle.bcs_json_spec.proofs.GrowthOfShowing as law
use Rattle.bcs_json_spec.proofs.laws.growth_keeps_showing.Goals as goal

pub returns : goal.returns
returns c = law.growth_keeps_showing
