use Rattle.bcs_decode_spec.proofs.Verdicts.{stops_all_once_is}
use Rattle.bcs_decode_spec.proofs.laws.stops_all_once.Goals as goal

pub returns : goal.returns
returns c = stops_all_once_is
