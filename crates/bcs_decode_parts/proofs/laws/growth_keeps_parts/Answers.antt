use Rattle.bcs_decode_parts.proofs.Growing.{growth_keeps_parts_is}
use Rattle.bcs_decode_parts.proofs.laws.growth_keeps_parts.Goals as goal

pub returns : goal.returns
returns c = growth_keeps_parts_is
