use Rattle.bcs_explain.proofs.Prelude.{shape_of, skip, items_reach}
use Rattle.bcs_explain.proofs.empty_elements.skip_empty_elements.Goals as goal

pub returns-clause-whole : goal.returns-clause-whole
returns-clause-whole c =
    let at = c.args.cursor.now in
    let size = c.in-Some.size in
    let row = c.sized_row.ensures in
    rw (row.rest, row.place, row.nodes)
    (items_reach (skip c.args.registry.now c.args.depth (shape_of c.args.element.now)) size.bytes size.nodes c.in-Some.ensures.fixed.0
    c.sized_row.result c.args.count row.within at.place at.nodes at.rest.now row.bytes row.begun)
