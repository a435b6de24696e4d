use Rattle.bcs_calls.proofs.Prelude.{Bool, subst, shape_of, Compares, different, equal}
use Rattle.bcs_calls.proofs.Refusals.{texts_refused}
use Rattle.bcs_calls.proofs.texts.comparison.Goals as goal

pub returns-in-Ok-true : goal.returns-in-Ok-true
returns-in-Ok-true c =
    let asked = c.args.asked.now in
    let s = shape_of asked.format.now in
    let compares = subst (λ (x : Bool). Compares asked.registry.now asked.limits s c.args.first.now c.args.second.now x) c.in-Ok-true.field-0-test c.in-Ok-true.ensures.compares in
    equal compares c.plain.ensures

pub returns-in-Ok-false : goal.returns-in-Ok-false
returns-in-Ok-false c =
    let asked = c.args.asked.now in
    let s = shape_of asked.format.now in
    let compares = subst (λ (x : Bool). Compares asked.registry.now asked.limits s c.args.first.now c.args.second.now x) c.in-Ok-false.field-0-test c.in-Ok-false.ensures.compares in
    different compares c.plain-in-Ok-false.ensures

pub returns-in-Err : goal.returns-in-Err
returns-in-Err c =
    let asked = c.args.asked.now in
    texts_refused asked.registry.now asked.limits (shape_of asked.format.now) c.args.first.now c.args.second.now
    c.in-Err.fault c.text_refusal.result c.in-Err.ensures.fault c.text_refusal.ensures.memory c.text_refusal.ensures.refusal
