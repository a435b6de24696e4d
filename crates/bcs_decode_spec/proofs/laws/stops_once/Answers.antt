use Rattle.bcs_decode_spec.proofs.Verdicts.{stops_once_is}
use Rattle.bcs_decode_spec.proofs.laws.stops_once.Goals as goal

pub returns : goal.returns
returns c = stops_once_is
