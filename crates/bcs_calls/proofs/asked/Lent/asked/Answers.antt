use Rattle.bcs_calls.proofs.Prelude.{◌≡◌, subst, Entries, shape_of}
use Rattle.bcs_registry_model.specs.WellFormed.{Admits}
use Rattle.bcs_calls.proofs.asked.Lent.asked.Goals as goal

pub invariant_of-result : goal.invariant_of-result
invariant_of-result c =
    let is : c.args.self.now.opened.value ≡ c.registry.result.now = cc (c.registry.ensures, c.deref.ensures) in
    record { admitted = subst (λ (r : Entries). Admits r (shape_of c.args.self.now.known.format)) is c.args.self.now.admitted }
