use Rattle.bcs_decode_spec.proofs.Verdicts.{no_two_verdicts_of_all_are}
use Rattle.bcs_decode_spec.proofs.laws.no_two_verdicts_of_all.Goals as goal

pub returns : goal.returns
returns c = no_two_verdicts_of_all_are
