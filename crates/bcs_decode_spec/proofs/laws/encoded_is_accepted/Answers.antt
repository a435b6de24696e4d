use Rattle.bcs_decode_spec.proofs.Encoded.{encoded_is_accepted_is}
use Rattle.bcs_decode_spec.proofs.laws.encoded_is_accepted.Goals as goal

pub returns : goal.returns
returns c = encoded_is_accepted_is
