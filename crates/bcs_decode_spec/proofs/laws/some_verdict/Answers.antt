use Rattle.bcs_decode_spec.proofs.Verdicts.{some_verdict_is}
use Rattle.bcs_decode_spec.proofs.laws.some_verdict.Goals as goal

pub returns : goal.returns
returns c = some_verdict_is
