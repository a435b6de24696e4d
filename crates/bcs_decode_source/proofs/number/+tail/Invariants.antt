use Rattle.bcs_decode_source.proofs.Prelude.{◌-◌}
use Rattle.bcs_decode_source.proofs.number.+tail.Given as goal

abbrev pub decreases-tail : goal.decreases-tail
decreases-tail g l = 4 - l.index
