use Rattle.bcs_calls.proofs.Prelude.{◌≡◌, subst, Entries}
use Rattle.bcs_calls.specs.Keeping.{Knows}
use Rattle.bcs_calls.proofs.asked.Lent.back.Goals as goal

pub keep-requires : goal.keep-requires
keep-requires c =
    let is : c.args.self.opened.value ≡ c.deref_mut.result.now = cc c.deref_mut.ensures.value in
    subst (λ (r : Entries). Knows r c.args.self.known) is c.requires
