use Rattle.bcs_calls.proofs.Prelude.{IsLeastFormatFault, Format}
use Rattle.bcs_calls.proofs.Refusals.{registry_refused}
use Rattle.bcs_calls.proofs.registries.read_known.Goals as goal

pub returns-in-Err-clause-err : goal.returns-in-Err-clause-err
returns-in-Err-clause-err c =
    registry_refused (IsLeastFormatFault c.args.registry.now c.args.text.now) Format c.in-Err.fault c.registry_refusal.result c.in-Err.ensures.fault c.registry_refusal.ensures.memory c.registry_refusal.ensures.refusal
