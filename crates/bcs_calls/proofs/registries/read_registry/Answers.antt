use Rattle.bcs_calls.proofs.Prelude.{IsLeastFault}
use Rattle.bcs_calls.proofs.Refusals.{registry_refused}
use Rattle.bcs_calls.proofs.registries.read_registry.Goals as goal

pub returns-in-Err-clause-err : goal.returns-in-Err-clause-err
returns-in-Err-clause-err c =
    registry_refused (IsLeastFault c.args.text.now) c.args.status c.in-Err.fault c.registry_refusal.result c.in-Err.ensures.fault c.registry_refusal.ensures.memory c.registry_refusal.ensures.refusal
