use Rattle.bcs_tool_answers.proofs.Prelude.{Bool, Ok, map, subst, sym, shape_of, part_at, step_of, GivesPrinted}
use Rattle.bcs_registry_model.specs.Container.{of}
use Rattle.bcs_tool_answers.proofs.PrintedParts.{content_printed, part_printed}
use Rattle.bcs_tool_answers.proofs.part_answers.printed_part.Goals as goal

pub returns-then-work : goal.returns-then-work
returns-then-work c n t accepts =
    let asked = c.args.asked.now in
    let part = part_at asked.registry (map step_of c.args.steps.now) (of (shape_of asked.format)) t in
    subst (λ (content : Bool). GivesPrinted content asked.registry part c.content_of_scanned.result) (sym c.if-work.true)
    (content_printed asked.registry c.args.bytes.now part c.content_of_scanned.result (c.content_of_scanned.ensures n t accepts))

pub returns-else-work : goal.returns-else-work
returns-else-work c n t accepts =
    let asked = c.args.asked.now in
    let part = part_at asked.registry (map step_of c.args.steps.now) (of (shape_of asked.format)) t in
    subst (λ (content : Bool). GivesPrinted content asked.registry part (Ok c.part_of_scanned.result)) (sym c.if-work.false)
    (part_printed asked.registry c.args.bytes.now part c.part_of_scanned.result (c.part_of_scanned.ensures n t accepts))
