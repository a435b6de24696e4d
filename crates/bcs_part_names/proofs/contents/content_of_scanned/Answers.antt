use Rattle.std.proofs.Common.{map, None, refl, rules, Some}
use Rattle.bcs_registry_model.specs.Container.{of}
use Rattle.bcs_registry_model.specs.View.{shape_of}
use Rattle.bcs_decode_parts.specs.Parts.{part_at}
use Rattle.bcs_decode_parts.specs.Steps.{step_of}
use Rattle.bcs_part_names.proofs.PartContents.{gives_found, gives_none, gives_nowhere, leads_from}
use Rattle.bcs_part_names.proofs.contents.content_of_scanned.Goals as goal

pub returns-in_default : goal.returns-in_default
returns-in_default c = λ n t good.
    (let r = c.args.registry.now in
    let b = c.args.bytes.now in
    let s = shape_of c.args.format.now in
    let path = map step_of c.args.path.now in
    let start = c.value_at_start-start in
    gives_nowhere r b (part_at r path (of s) t)
    (leads_from r c.args.limits.now s b n t start.result path None good start.ensures.bytes start.ensures.here start.ensures.depth start.ensures.nodes c.in_default.ensures))

pub returns-in-Some-sized_content : goal.returns-in-Some-sized_content
returns-in-Some-sized_content c = λ n t good.
    (let r = c.args.registry.now in
    let b = c.args.bytes.now in
    let s = shape_of c.args.format.now in
    let path = map step_of c.args.path.now in
    let start = c.value_at_start-start in
    let at = c.in-Some.at in
    let x = c.in-Some-sized_content in
    gives_found r b (part_at r path (of s) t) at x.size x.rest _ c.bytes_before.result.now
    (leads_from r c.args.limits.now s b n t start.result path (Some at) good start.ensures.bytes start.ensures.here start.ensures.depth start.ensures.nodes c.in-Some.ensures)
    x.ensures c.first_bytes.ensures (search rules) refl)

pub returns-in-None : goal.returns-in-None
returns-in-None c = λ n t good.
    (let r = c.args.registry.now in
    let b = c.args.bytes.now in
    let s = shape_of c.args.format.now in
    let path = map step_of c.args.path.now in
    let start = c.value_at_start-start in
    let at = c.in-Some.at in
    gives_none r b (part_at r path (of s) t) at _
    (leads_from r c.args.limits.now s b n t start.result path (Some at) good start.ensures.bytes start.ensures.here start.ensures.depth start.ensures.nodes c.in-Some.ensures)
    c.in-None.ensures)
