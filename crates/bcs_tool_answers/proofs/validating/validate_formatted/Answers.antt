use Rattle.bcs_tool_answers.proofs.Prelude.{inl, inr, subst, IsLeastFault, IsRegistry, RefusesFormatWord, RefusesFormatted}
use Rattle.bcs_tool_answers.proofs.ValidatingLemmas.{refused_by_registry}
use Rattle.bcs_tool_answers.proofs.validating.validate_formatted.Goals as goal

pub returns-in_err-registry-clause-fault : goal.returns-in_err-registry-clause-fault
returns-in_err-registry-clause-fault c =
    let fault = c.in_err-registry.field-0.0 in
    refused_by_registry (RefusesFormatted c.args.work.now) c.from_residual.result fault c.from_residual.ensures.1
    (λ differs. inl (subst (λ text. IsLeastFault text fault) c.as_slice.ensures.value (c.in_err-registry.ensures.fault differs)))

pub returns-in_err-format-clause-fault : goal.returns-in_err-format-clause-fault
returns-in_err-format-clause-fault c =
    let registry = c.in_ok-registry.registry in
    let fault = c.in_err-format.field-0.0 in
    let is = subst (λ text. IsRegistry text registry) c.as_slice.ensures.value c.in_ok-registry.ensures.ok in
    refused_by_registry (RefusesFormatted c.args.work.now) c.from_residual-in_err-format.result fault c.from_residual-in_err-format.ensures.1
    (λ differs. inr (registry, is, subst (λ word. RefusesFormatWord registry word fault) c.as_str.ensures.value (c.in_err-format.ensures.fault differs)))
