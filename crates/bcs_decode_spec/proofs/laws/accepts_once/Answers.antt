use Rattle.bcs_decode_spec.proofs.Verdicts.{accepts_once_is}
use Rattle.bcs_decode_spec.proofs.laws.accepts_once.Goals as goal

pub returns : goal.returns
returns c = accepts_once_is
