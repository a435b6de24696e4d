use Rattle.bcs_calls.proofs.Prelude.{◌≡◌, Answer, Ok, Option, map, Refused, refusal, rules, subst, of, shape_of, part_at, step_of}
use Rattle.bcs_decode_parts.specs.declared.part.Part.{Part}
use Rattle.bcs_part_names.specs.Contents.{GivesContent}
use Rattle.bcs_calls.specs.Contents.{AnswersContentAt, found}
use Rattle.bcs_calls.specs.declared.fault.Fault.TheVariants.{NoContent}
use Rattle.bcs_calls.proofs.ContentAnswers.{finds_content, finds_none, finds_nowhere}
use Rattle.bcs_calls.proofs.contents.scanned_content.Goals as goal

pub returns-in-Ok-Some : goal.returns-in-Ok-Some
returns-in-Ok-Some c =
    let asked = c.args.asked.now in
    let r = asked.registry.now in
    let value = c.requires in
    let at = part_at r (map step_of c.args.steps.now) (of (shape_of asked.format.now)) value.1 in
    let gives = subst (λ (x : Option Part). GivesContent r c.args.bytes.now at (Ok x)) c.in-Ok-Some.field-0-is (c.in-Ok-Some.ensures value.0 value.1 value.2) in
    found value.0 value.1 value.2 (finds_content r c.args.bytes.now c.placed.result at c.in-Ok-Some.found gives c.placed.ensures)

pub returns-in-Ok-None : goal.returns-in-Ok-None
returns-in-Ok-None c =
    let asked = c.args.asked.now in
    let r = asked.registry.now in
    let value = c.requires in
    let at = part_at r (map step_of c.args.steps.now) (of (shape_of asked.format.now)) value.1 in
    let gives = subst (λ (x : Option Part). GivesContent r c.args.bytes.now at (Ok x)) c.in-Ok-None.field-0-is (c.in-Ok-None.ensures value.0 value.1 value.2) in
    found value.0 value.1 value.2 (finds_nowhere r c.args.bytes.now c.plain.result at gives c.plain.ensures)

pub returns-in-Err : goal.returns-in-Err
returns-in-Err c =
    let asked = c.args.asked.now in
    let r = asked.registry.now in
    let value = c.requires in
    let at = part_at r (map step_of c.args.steps.now) (of (shape_of asked.format.now)) value.1 in
    let known : (a : Answer) → a ≡ refusal Refused NoContent → AnswersContentAt r asked.limits (shape_of asked.format.now) c.args.bytes.now (map step_of c.args.steps.now) a =
    λ a is. found value.0 value.1 value.2 (finds_none r c.args.bytes.now a at _ (c.in-Err.ensures value.0 value.1 value.2) is) in
    search (rules, known)
