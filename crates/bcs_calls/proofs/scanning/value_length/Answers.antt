use Rattle.bcs_calls.proofs.Prelude.{ap, true≢false, is_ok}
use Rattle.bcs_calls.specs.Scanned.{found, stopped}
use Rattle.bcs_calls.proofs.Refusals.{same_stop}
use Rattle.bcs_calls.proofs.scanning.value_length.Goals as goal

pub returns-in-Ok-clause-answers : goal.returns-in-Ok-clause-answers
returns-in-Ok-clause-answers c = let value = c.in-Ok.ensures.found in found c.in-Ok.length value.0 value.1 c.sized.ensures

pub returns-in-Ok-clause-only : goal.returns-in-Ok-clause-only
returns-in-Ok-clause-only c n t h _ = let k = c.in-Ok.ensures.only n t h in cc

pub returns-in-Ok-clause-stopped : goal.returns-in-Ok-clause-stopped
returns-in-Ok-clause-stopped c e o h _ = absurd (true≢false (ap is_ok (c.in-Ok.ensures.stopped e o h)))

pub returns-in-Err-clause-answers : goal.returns-in-Err-clause-answers
returns-in-Err-clause-answers c = stopped c.in-Err.stop.reason c.in-Err.stop.place c.in-Err.ensures.stops c.stopped.ensures

pub returns-in-Err-clause-only : goal.returns-in-Err-clause-only
returns-in-Err-clause-only c n t h _ = let k = c.in-Err.ensures.only n t h in cc

pub returns-in-Err-clause-stopped : goal.returns-in-Err-clause-stopped
returns-in-Err-clause-stopped c e o h _ = same_stop c.in-Err.stop e o c.stopped.result (c.in-Err.ensures.stopped e o h) c.stopped.ensures
