use Rattle.bcs_calls.proofs.Prelude.{List, ℕ, subst, shape_of, HasBytes, put, Puts}
use Rattle.bcs_json_spec.proofs.TextOutcomes.{memory_alone}
use Rattle.bcs_calls.proofs.Refusals.{text_refused}
use Rattle.bcs_calls.proofs.texts.text_bytes.Goals as goal

pub returns-in-Ok-clause-answers : goal.returns-in-Ok-clause-answers
returns-in-Ok-clause-answers c =
    put c.in-Ok.bytes.items c.in-Ok.ensures.bytes
    (subst (λ (b : List ℕ). Puts b c.args.out.now c.put.new.out c.put.result) c.deref.ensures.value c.put.ensures.puts)

pub returns-in-Err-clause-answers : goal.returns-in-Err-clause-answers
returns-in-Err-clause-answers c =
    let asked = c.args.asked.now in
    let s = shape_of asked.format.now in
    let fault = c.in-Err.ensures.refused.0 in
    text_refused asked.registry.now asked.limits s (HasBytes asked.registry.now asked.limits s c.args.text.now) c.args.text.now c.args.out.now c.args.out.now
    c.in-Err.refusal.fault c.keep.result fault (memory_alone asked.registry.now asked.limits s c.args.text.now c.in-Err.refusal.fault fault) c.keep.ensures.memory c.keep.ensures.refusal
