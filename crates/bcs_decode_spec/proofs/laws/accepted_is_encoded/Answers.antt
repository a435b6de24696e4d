use Rattle.bcs_decode_spec.proofs.Encoded.{accepted_is_encoded_is}
use Rattle.bcs_decode_spec.proofs.laws.accepted_is_encoded.Goals as goal

pub returns : goal.returns
returns c = accepted_is_encoded_is
