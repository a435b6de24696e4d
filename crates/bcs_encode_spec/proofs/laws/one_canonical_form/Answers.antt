use Rattle.bcs_encode_spec.proofs.FormLaws.{has_one_form}
use Rattle.bcs_encode_spec.proofs.laws.one_canonical_form.Goals as goal

pub returns : goal.returns
returns c = has_one_form
