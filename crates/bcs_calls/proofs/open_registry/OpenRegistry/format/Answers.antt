use Rattle.bcs_calls.proofs.Prelude.{◌≡◌, IfOk, subst, Entries, RefusesFormat}
use Rattle.std.specs.Prelude.{IfErr}
use Rattle.bcs_calls.specs.Keeping.{Knows}
use Rattle.bcs_calls.proofs.open_registry.OpenRegistry.format.Goals as goal

pub returns-clause-ok : goal.returns-clause-ok
returns-clause-ok c =
    let is : c.self.inside.registry ≡ c.args.self.now = cc (c.self.view_is, c.take_last.ensures.same) in
    subst (λ (r : Entries). IfOk c.read_known.result (λ known. Knows r known × (known.text.items ≡ c.args.text.now))) is c.read_known.ensures.ok

pub returns-clause-err : goal.returns-clause-err
returns-clause-err c =
    let is : c.self.inside.registry ≡ c.args.self.now = cc (c.self.view_is, c.take_last.ensures.same) in
    subst (λ (r : Entries). IfErr c.read_known.result (λ a. RefusesFormat r c.args.text.now a)) is c.read_known.ensures.err
