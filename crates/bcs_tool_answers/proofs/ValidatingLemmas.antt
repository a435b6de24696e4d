-- Faults that a `?` returns.
use Rattle.bcs_tool_answers.proofs.Prelude.{◌≡◌, ◌≢◌, ◌∙◌, Result, IfErr, ap, sym, subst, IsErrAnd, err_from_is_err_and, RegistryFault, JobFault, Registry}
use Rattle.bcs_registry_model.specs.declared.fault.RegistryFault.TheVariants.{OutOfMemory}

pub refused_by_registry : {T : Type 0} (P : JobFault → Type 0) (r : Result T JobFault) (fault : RegistryFault) → IsErrAnd r (λ e. e ≡ Registry fault)
    → (fault ≢ OutOfMemory → P (Registry fault)) → IfErr r (λ e. e ≢ Registry OutOfMemory → P e)
refused_by_registry P r fault is why =
    let p = err_from_is_err_and r is in rw p.1 (λ differs. subst P (sym p.2) (why (λ memory. differs (p.2 ∙ ap Registry memory))))
