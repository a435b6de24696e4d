use Rattle.bcs_calls.proofs.Prelude.{◌≢◌, List, rules, subst, ℕ, OutOfMemory, Puts, no_memory, told}
use Rattle.bcs_calls.proofs.whole_refusals.told_refusal.Goals as goal

pub returns-then-eq-clause-answers : goal.returns-then-eq-clause-answers
returns-then-eq-clause-answers c refused = no_memory c.plain.ensures

pub returns-in-Some-clause-answers : goal.returns-in-Some-clause-answers
returns-in-Some-clause-answers c refused =
    let other : c.args.refusal.now.fault ≢ OutOfMemory = search rules in
    told c.args.refusal.now.fault c.in-Some.told.items c.put.result (refused.0 other) (c.in-Some.ensures other refused)
    (subst (λ (b : List ℕ). Puts b c.args.out.now c.put.new.out c.put.result) c.deref.ensures.value c.put.ensures.puts)
    c.with_fault.ensures

pub returns-in-None-clause-answers : goal.returns-in-None-clause-answers
returns-in-None-clause-answers c refused = no_memory c.plain-in-None.ensures
