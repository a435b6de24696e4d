use Rattle.bcs_calls.proofs.Prelude.{map, of, shape_of, part_at, step_of, found}
use Rattle.bcs_calls.proofs.PartAnswers.{finds, finds_none}
use Rattle.bcs_calls.proofs.named_parts.scanned_place.Goals as goal

pub returns-in-Some : goal.returns-in-Some
returns-in-Some c =
    let asked = c.args.asked.now in
    let r = asked.registry.now in
    let value = c.requires in
    let at = part_at r (map step_of c.args.steps.now) (of (shape_of asked.format.now)) value.1 in
    found value.0 value.1 value.2 (finds r c.args.bytes.now c.placed.result at c.in-Some.found (c.in-Some.ensures value.0 value.1 value.2) c.placed.ensures)

pub returns-in-None : goal.returns-in-None
returns-in-None c =
    let asked = c.args.asked.now in
    let r = asked.registry.now in
    let value = c.requires in
    let at = part_at r (map step_of c.args.steps.now) (of (shape_of asked.format.now)) value.1 in
    found value.0 value.1 value.2 (finds_none r c.args.bytes.now c.plain.result at (c.in-None.ensures value.0 value.1 value.2) c.plain.ensures)
