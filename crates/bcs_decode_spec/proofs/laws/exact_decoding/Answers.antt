use Rattle.bcs_decode_spec.proofs.Encoded.{exact_decoding_is}
use Rattle.bcs_decode_spec.proofs.laws.exact_decoding.Goals as goal

pub returns : goal.returns
returns c = exact_decoding_is
