use Rattle.bcs_encode_spec.proofs.Growth.{keeps_order}
use Rattle.bcs_encode_spec.proofs.laws.growth_keeps_order.Goals as goal

pub returns : goal.returns
returns c = keeps_order
