use Rattle.bcs_decode_parts.proofs.Prelude.{refl, arith, shape_of}
use Rattle.bcs_decode_parts.proofs.RowSteps.{list_past, list_stuck, list_leads}
use Rattle.bcs_decode_parts.proofs.stepping.list_item.Goals as goal

pub returns-then-index-from : goal.returns-then-index-from
returns-then-index-from c = λ t after h.
    list_past c.args.registry.now c.args.ahead.now (shape_of c.args.element.now) c.args.index t after c.in_ok-count.count c.in_ok-count.rest.now h c.in_ok-count.ensures
    (omega (arith, c.if-index-from.true, c.from.ensures))

pub returns-in_err-rest : goal.returns-in_err-rest
returns-in_err-rest c = λ t after h.
    absurd (list_stuck c.args.registry.now c.args.ahead.now (shape_of c.args.element.now) c.args.index t after c.in_ok-count.count c.in_ok-count.rest.now c.at.result h c.in_ok-count.ensures
    (omega (arith, c.if-index-from.false, c.from.ensures)) (record { depth_is = c.at.ensures.depth; nodes_are = c.at.ensures.nodes }) c.at.ensures.bytes c.in_err-rest.ensures)

pub returns : goal.returns
returns c = λ t after h.
    list_leads c.args.registry.now c.args.ahead.now (shape_of c.args.element.now) c.args.index t after c.in_ok-count.count c.in_ok-count.rest.now c.at.result c.in_ok-rest.rest.now _ h c.in_ok-count.ensures
    (omega (arith, c.if-index-from.false, c.from.ensures)) (record { depth_is = c.at.ensures.depth; nodes_are = c.at.ensures.nodes }) c.at.ensures.bytes
    c.in_ok-rest.ensures refl (record { depth_is = c.at-2.ensures.depth; nodes_are = c.at-2.ensures.nodes }) c.at-2.ensures.bytes
