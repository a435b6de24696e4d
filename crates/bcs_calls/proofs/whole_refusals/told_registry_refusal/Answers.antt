use Rattle.bcs_calls.proofs.Prelude.{◌≢◌, List, rules, subst, ℕ, Puts, stands, told}
use Rattle.bcs_registry_model.specs.declared.fault.RegistryFault.TheVariants.{OutOfMemory}
use Rattle.bcs_calls.proofs.whole_refusals.told_registry_refusal.Goals as goal

pub returns-in-Ok-clause-answers : goal.returns-in-Ok-clause-answers
returns-in-Ok-clause-answers c = stands c.in-Ok.field-0 c.in-Ok.ensures.ok c.plain.ensures

pub returns-in-Ok-written-clause-answers : goal.returns-in-Ok-written-clause-answers
returns-in-Ok-written-clause-answers c =
    let other : c.in-Err.fault ≢ OutOfMemory = search rules in
    let parted = c.in-Ok-written.ensures in
    told c.in-Err.fault parted.0 c.in-Ok-written.told.items c.put.result (c.in-Err.ensures.fault other) parted.1
    (subst (λ (b : List ℕ). Puts b c.args.out.now c.put.new.out c.put.result) c.deref.ensures.value c.put.ensures.puts)
    c.with_fault.ensures
