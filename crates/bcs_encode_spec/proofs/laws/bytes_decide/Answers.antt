use Rattle.bcs_encode_spec.proofs.FormLaws.{bytes_decide_same}
use Rattle.bcs_encode_spec.proofs.laws.bytes_decide.Goals as goal

pub returns : goal.returns
returns c = bytes_decide_same
