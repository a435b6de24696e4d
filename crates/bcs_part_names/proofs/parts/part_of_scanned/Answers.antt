use Rattle.std.proofs.Common.{drop, map, rules, subst, List, ℕ}
use Rattle.bcs_registry_model.specs.Container.{of}
use Rattle.bcs_registry_model.specs.View.{shape_of}
use Rattle.bcs_decode_parts.proofs.Skips.{accepted_stands}
use Rattle.bcs_decode_parts.specs.Parts.{part_at}
use Rattle.bcs_decode_parts.specs.Steps.{GivesPart, step_of}
use Rattle.bcs_part_names.proofs.parts.part_of_scanned.Goals as goal

pub returns : goal.returns
returns c = λ n t good.
    (let r = c.args.registry.now in
    let s = shape_of c.args.format.now in
    let start = c.value_at_start-start in
    let known = c.walk.ensures t (drop n c.args.bytes.now)
    (accepted_stands r c.args.limits.now s c.args.bytes.now n t start.result.ahead good start.ensures.bytes start.ensures.depth start.ensures.nodes) in
    subst (λ (b : List ℕ). GivesPart r b (part_at r (map step_of c.args.path.now) (of s) t) c.walk.result) start.ensures.bytes
    (search (rules, known)))
