use Rattle.bcs_encode_spec.proofs.Growth.{keeps_soundness}
use Rattle.bcs_encode_spec.proofs.laws.growth_keeps_soundness.Goals as goal

pub returns : goal.returns
returns c = keeps_soundness
