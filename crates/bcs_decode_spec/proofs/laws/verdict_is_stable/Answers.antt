use Rattle.bcs_decode_spec.proofs.StableVerdict.{verdict_is_stable_is}
use Rattle.bcs_decode_spec.proofs.laws.verdict_is_stable.Goals as goal

pub returns : goal.returns
returns c = verdict_is_stable_is
