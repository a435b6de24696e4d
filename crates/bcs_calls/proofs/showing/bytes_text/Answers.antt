use Rattle.bcs_calls.proofs.Prelude.{Err, List, string_bytes, subst, ℕ, shape_of, Shows, FromFault, Puts, too_nested}
use Rattle.bcs_calls.specs.Shown.{no_memory, put, stopped}
use Rattle.bcs_calls.proofs.showing.bytes_text.Goals as goal

pub returns-in-Ok-clause-answers : goal.returns-in-Ok-clause-answers
returns-in-Ok-clause-answers c =
    put (string_bytes c.in-Ok.text) c.in-Ok.ensures
    (subst (λ (b : List ℕ). Puts b c.args.out.now c.put.new.out c.put.result) c.as_bytes.ensures.value c.put.ensures.puts)

pub returns-in-Err-Stop-clause-answers : goal.returns-in-Err-Stop-clause-answers
returns-in-Err-Stop-clause-answers c =
    let asked = c.args.asked.now in
    let stop = c.in-Err-Stop.stop in
    let shows = subst (λ (x : FromFault). Shows asked.registry.now asked.limits (shape_of asked.format.now) c.args.bytes.now (Err x)) c.in-Err-Stop.field-0-is c.in-Err-Stop.ensures in
    stopped stop.reason stop.place shows c.stopped.ensures

pub returns-in-Err-TooNested-clause-answers : goal.returns-in-Err-TooNested-clause-answers
returns-in-Err-TooNested-clause-answers c =
    let asked = c.args.asked.now in
    let nests =
    subst (λ (x : FromFault). Shows asked.registry.now asked.limits (shape_of asked.format.now) c.args.bytes.now (Err x)) c.in-Err-TooNested.field-0-is c.in-Err-TooNested.ensures
    in
    too_nested nests c.refusal.ensures

pub returns-in-Err-OutOfMemory-clause-answers : goal.returns-in-Err-OutOfMemory-clause-answers
returns-in-Err-OutOfMemory-clause-answers c =
    let asked = c.args.asked.now in
    let ran_out = subst (λ (x : FromFault). Shows asked.registry.now asked.limits (shape_of asked.format.now) c.args.bytes.now (Err x)) c.in-Err-OutOfMemory.field-0-is c.in-Err-OutOfMemory.ensures in
    no_memory ran_out.0 ran_out.1 ran_out.2 c.plain.ensures
