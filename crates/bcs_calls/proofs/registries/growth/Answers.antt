use Rattle.bcs_calls.proofs.Prelude.{◌≡◌, Err, Ok, refl, breaks}
use Rattle.bcs_calls.proofs.registries.growth.Goals as goal

pub returns-in-Ok-clause-broken : goal.returns-in-Ok-clause-broken
returns-in-Ok-clause-broken c e h = let k : Ok c.in-Ok.field-0 ≡ Err e = (c.in-Ok.ensures.fault e).1 h in cc

pub returns-in-Err-clause-answers : goal.returns-in-Err-clause-answers
returns-in-Err-clause-answers c = breaks c.in-Err.fault ((c.in-Err.ensures.fault c.in-Err.fault).0 refl) c.refusal.ensures

pub returns-in-Err-clause-broken : goal.returns-in-Err-clause-broken
returns-in-Err-clause-broken c e h = let k : Err c.in-Err.fault ≡ Err e = (c.in-Err.ensures.fault e).1 h in cc
