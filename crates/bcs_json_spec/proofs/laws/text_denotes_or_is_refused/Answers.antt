use Rattle.bcs_json_spec.proofs.OneAnswer as law
use Rattle.bcs_json_spec.proofs.laws.text_denotes_or_is_refused.Goals as goal

pub returns : goal.returns
returns c = law.text_denotes_or_is_refused
