use Rattle.bcs_calls.proofs.Prelude.{◌≡◌, Some, Option, IfSome, subst, Entries}
use Rattle.bcs_calls.specs.Keeping.{Knows}
use Rattle.bcs_calls.specs.declared.known.Known.{Known}
use Rattle.bcs_calls.proofs.open_registry.OpenRegistry.take_last.Goals as goal

pub returns-then-is_of-clause-some : goal.returns-then-is_of-clause-some
returns-then-is_of-clause-some c =
    let is : c.self.inside.last ≡ Some c.in-Some.last = cc (c.take.ensures.value, c.in-Some.is) in
    let view : c.self.inside.registry ≡ c.args.self.now = c.self.view_is in
    let knows : Knows c.self.inside.registry c.in-Some.last = subst (λ (x : Option Known). IfSome x (λ known. Knows c.self.inside.registry known)) is c.self.invariant in
    (subst (λ (r : Entries). Knows r c.in-Some.last) view knows, c.is_of.ensures c.if-is_of.true)
