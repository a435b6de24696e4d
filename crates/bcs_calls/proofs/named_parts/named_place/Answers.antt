use Rattle.bcs_calls.proofs.Prelude.{map, shape_of, step_of}
use Rattle.bcs_calls.specs.NamedParts.{stepped}
use Rattle.bcs_calls.proofs.NameRefusals.{named_refused}
use Rattle.bcs_calls.proofs.named_parts.named_place.Goals as goal

pub returns-in-Err : goal.returns-in-Err
returns-in-Err c =
    let asked = c.args.asked.now in
    named_refused asked.registry.now asked.limits (shape_of asked.format.now) c.args.bytes.now c.args.name.now c.in-Err.answer c.args.notation c.in-Err.ensures.err

pub returns-in-Ok-steps_of : goal.returns-in-Ok-steps_of
returns-in-Ok-steps_of c = stepped c.in-Ok.ensures.named (map step_of c.as_slice-in-Ok-steps_of.result.now) c.scanned_place.ensures
