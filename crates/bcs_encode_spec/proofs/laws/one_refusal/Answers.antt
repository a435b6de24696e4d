use Rattle.bcs_encode_spec.proofs.Refusals.{one_refusal}
use Rattle.bcs_encode_spec.proofs.laws.one_refusal.Goals as goal

pub returns : goal.returns
returns c = one_refusal
