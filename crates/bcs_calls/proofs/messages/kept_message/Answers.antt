use Rattle.bcs_calls.proofs.Prelude.{refl}
use Rattle.bcs_calls.proofs.messages.kept_message.Goals as goal

pub returns-clause-tells : goal.returns-clause-tells
returns-clause-tells c some refused = (c.told_refusal.result, c.told_refusal.ensures.answers refused, refl)
