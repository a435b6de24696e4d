use Rattle.std.proofs.lemmas.Result.{IfOk-weaker}
use Rattle.bcs_calls.proofs.whole_refusals.written.Goals as goal

pub returns : goal.returns
returns c = IfOk-weaker c.both.result _ _ (λ told is. (c.deref.result.now, (c.without_nul.result.now, c.without_nul.ensures, is))) c.both.ensures
