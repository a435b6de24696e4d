use Rattle.bcs_json_spec.proofs.Headline as law
use Rattle.bcs_json_spec.proofs.laws.shown_bytes_come_back.Goals as goal

pub returns : goal.returns
returns c = law.shown_bytes_come_back
