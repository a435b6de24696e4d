use Rattle.bcs_json_spec.proofs.SomeText as law
use Rattle.bcs_json_spec.proofs.laws.some_normal_text.Goals as goal

pub returns : goal.returns
returns c = law.some_normal_text
