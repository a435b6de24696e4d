use Rattle.bcs_calls.proofs.Prelude.{Format}
use Rattle.bcs_calls.specs.Explained.{no_format}
use Rattle.bcs_calls.proofs.Refusals.{registry_refused}
use Rattle.bcs_calls.proofs.views.view_refusal.Goals as goal

pub returns-in-Some : goal.returns-in-Some
returns-in-Some c =
    no_format (registry_refused (λ e. Unit {0}) Format c.in-Some.fault c.registry_refusal.result (λ h. tt) c.registry_refusal.ensures.memory c.registry_refusal.ensures.refusal)
