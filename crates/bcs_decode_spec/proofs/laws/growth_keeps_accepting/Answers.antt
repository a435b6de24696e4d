use Rattle.bcs_decode_spec.proofs.Growing.{keeps_accepting}
use Rattle.bcs_decode_spec.proofs.laws.growth_keeps_accepting.Goals as goal

pub returns : goal.returns
returns c = keeps_accepting
