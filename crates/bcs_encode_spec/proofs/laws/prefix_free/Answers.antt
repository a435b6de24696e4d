use Rattle.bcs_encode_spec.proofs.FormLaws.{plain_is_prefix_free}
use Rattle.bcs_encode_spec.proofs.laws.prefix_free.Goals as goal

pub returns : goal.returns
returns c = plain_is_prefix_free
