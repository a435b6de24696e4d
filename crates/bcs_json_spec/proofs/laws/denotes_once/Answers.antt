use Rattle.bcs_json_spec.proofs.TextLaws as law
use Rattle.bcs_json_spec.proofs.laws.denotes_once.Goals as goal

pub returns : goal.returns
returns c = law.denotes_once
