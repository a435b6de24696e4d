use Rattle.bcs_json_spec.proofs.Headline as law
use Rattle.bcs_json_spec.proofs.laws.normal_text_is_stable.Goals as goal

pub returns : goal.returns
returns c = law.normal_text_is_stable
