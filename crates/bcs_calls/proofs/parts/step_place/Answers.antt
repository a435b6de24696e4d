use Rattle.bcs_calls.proofs.Prelude.{Option, map, subst, of, shape_of, part_at, GivesPart, step_of, found, stopped}
use Rattle.bcs_decode_parts.specs.declared.part.Part.{Part}
use Rattle.bcs_calls.proofs.PartAnswers.{finds, finds_none}
use Rattle.bcs_calls.proofs.parts.step_place.Goals as goal

pub returns-in-Ok-Some : goal.returns-in-Ok-Some
returns-in-Ok-Some c =
    let asked = c.args.asked.now in
    let r = asked.registry.now in
    let value = c.in-Ok-Some.ensures.found in
    let at = part_at r (map step_of c.args.steps.now) (of (shape_of asked.format.now)) value.1 in
    let gives = subst (λ (x : Option Part). GivesPart r c.args.bytes.now at x) c.in-Ok-Some.field-0-is value.3 in
    found value.0 value.1 value.2 (finds r c.args.bytes.now c.placed.result at c.in-Ok-Some.found gives c.placed.ensures)

pub returns-in-Ok-None : goal.returns-in-Ok-None
returns-in-Ok-None c =
    let asked = c.args.asked.now in
    let r = asked.registry.now in
    let value = c.in-Ok-None.ensures.found in
    let at = part_at r (map step_of c.args.steps.now) (of (shape_of asked.format.now)) value.1 in
    let gives = subst (λ (x : Option Part). GivesPart r c.args.bytes.now at x) c.in-Ok-None.field-0-is value.3 in
    found value.0 value.1 value.2 (finds_none r c.args.bytes.now c.plain.result at gives c.plain.ensures)

pub returns-in-Err : goal.returns-in-Err
returns-in-Err c = stopped c.in-Err.stop.reason c.in-Err.stop.place c.in-Err.ensures.stops c.stopped.ensures
