use Rattle.bcs_calls.proofs.Prelude.{◌≡◌, Answer, List, rules, shape_of, Some, subst, ℕ, Puts, stands, told}
use Rattle.bcs_calls.specs.Answers.{with_stop}
use Rattle.bcs_calls.specs.Places.{AnswersStopRefusal}
use Rattle.bcs_calls.proofs.whole_refusals.told_stop.Goals as goal

pub returns-in-Ok-clause-answers : goal.returns-in-Ok-clause-answers
returns-in-Ok-clause-answers c =
    let ends = rw c.in-Ok-Some.field-0-is at c.in-Ok-Some.ensures.some in
    let parted = c.in-Ok.ensures in
    let puts = subst (λ (b : List ℕ). Puts b c.args.out.now c.put.new.out c.put.result) c.deref.ensures.value c.put.ensures.puts in
    let asked = c.args.asked.now in
    let known : (a : Answer) → a ≡ with_stop (Some c.in-Ok-Some.stopped.stop) c.put.result
    → AnswersStopRefusal asked.registry.now asked.limits (shape_of asked.format.now) c.args.bytes.now c.args.out.now c.put.new.out a =
    λ a is. told c.in-Ok-Some.stopped.stop parted.0 c.in-Ok.told.items c.put.result ends parted.1 puts is in
    search (rules, known)

pub returns-in-Ok-None-clause-answers : goal.returns-in-Ok-None-clause-answers
returns-in-Ok-None-clause-answers c = stands (c.in-Ok-None.ensures.none c.in-Ok-None.field-0-is) c.plain-in-Ok-None.ensures
