use Rattle.bcs_json_spec.proofs.TextLaws as law
use Rattle.bcs_json_spec.proofs.laws.denoted_is_not_refused.Goals as goal

pub returns : goal.returns
returns c = law.denoted_is_not_refused
