use Rattle.bcs_json_spec.proofs.SameDepth as law
use Rattle.bcs_json_spec.proofs.laws.shown_is_read_back.Goals as goal

pub returns : goal.returns
returns c = law.shown_is_read_back
