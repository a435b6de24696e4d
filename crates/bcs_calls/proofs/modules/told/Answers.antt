use Rattle.bcs_calls.proofs.Prelude.{List, subst, ℕ, Puts}
use Rattle.bcs_calls.specs.Modules.{told}
use Rattle.bcs_calls.proofs.modules.told.Goals as goal

pub returns-in-Ok-clause-answers : goal.returns-in-Ok-clause-answers
returns-in-Ok-clause-answers c =
    let parted = c.in-Ok.ensures in
    told c.args.refusal.name parted.0 c.in-Ok.told.items c.put.result parted.1
    (subst (λ (b : List ℕ). Puts b c.args.out.now c.put.new.out c.put.result) c.deref.ensures.value c.put.ensures.puts) c.with_fault.ensures
