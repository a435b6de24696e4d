use Rattle.bcs_calls.proofs.Prelude.{◌≡◌, Some, Option, rules, subst, Entries, on_handle, RefusesAsk}
use Rattle.bcs_calls.proofs.lending.take_ask.Goals as goal

pub returns-in-Err-clause-err : goal.returns-in-Err-clause-err
returns-in-Err-clause-err c =
    let is : Some c.in-Some.opened.value ≡ c.args.handle.now.registry = cc c.in-Some.ensures.taken in
    let refuses = subst (λ (x : Option Entries). RefusesAsk (on_handle x c.args.ask.now) c.in-Err.refused.1) is c.in-Err.ensures.err.0 in
    let kept : c.put.new.self.registry ≡ c.args.handle.now.registry = cc (c.put.ensures, c.in-Err.ensures.err.1, is) in
    search (rules, refuses, kept)
