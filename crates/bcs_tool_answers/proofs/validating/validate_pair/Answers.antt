use Rattle.bcs_tool_answers.proofs.Prelude.{inr, subst, IsLeastFault, IsRegistry, RefusesGrowth}
use Rattle.bcs_tool_answers.proofs.ValidatingLemmas.{refused_by_registry}
use Rattle.bcs_tool_answers.proofs.validating.validate_pair.Goals as goal

pub returns-in_err-newer-clause-fault : goal.returns-in_err-newer-clause-fault
returns-in_err-newer-clause-fault c =
    let older = c.in_ok-older.older in
    let fault = c.in_err-newer.field-0.0 in
    let is_older = subst (λ text. IsRegistry text older) c.as_slice.ensures.value c.in_ok-older.ensures.ok in
    refused_by_registry (RefusesGrowth c.args.work.now) c.from_residual-in_err-newer.result fault c.from_residual-in_err-newer.ensures.1
    (λ differs. inr (older, is_older, subst (λ text. IsLeastFault text fault) c.as_slice-2.ensures.value (c.in_err-newer.ensures.fault differs)))
