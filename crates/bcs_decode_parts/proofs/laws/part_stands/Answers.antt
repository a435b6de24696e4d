use Rattle.bcs_decode_parts.proofs.Standing.{part_stands_is}
use Rattle.bcs_decode_parts.proofs.laws.part_stands.Goals as goal

pub returns : goal.returns
returns c = part_stands_is
