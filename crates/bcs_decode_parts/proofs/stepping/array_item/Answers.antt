use Rattle.bcs_decode_parts.proofs.Prelude.{refl, arith, shape_of}
use Rattle.bcs_decode_parts.proofs.RowSteps.{array_past, array_stuck, array_leads}
use Rattle.bcs_decode_parts.proofs.stepping.array_item.Goals as goal

pub returns-then-index-size : goal.returns-then-index-size
returns-then-index-size c = λ t after h. array_past c.args.registry.now c.args.ahead.now (shape_of c.args.element.now) c.args.size c.args.index t after h c.if-index-size.true

pub returns-in_err-rest : goal.returns-in_err-rest
returns-in_err-rest c = λ t after h.
    absurd (array_stuck c.args.registry.now c.args.ahead.now (shape_of c.args.element.now) c.args.size c.args.index t after h (omega (arith, c.if-index-size.false)) c.in_err-rest.ensures)

pub returns : goal.returns
returns c = λ t after h.
    array_leads c.args.registry.now c.args.ahead.now (shape_of c.args.element.now) c.args.size c.args.index t after c.in_ok-rest.rest.now _ h (omega (arith, c.if-index-size.false))
    c.in_ok-rest.ensures refl (record { depth_is = c.at.ensures.depth; nodes_are = c.at.ensures.nodes }) c.at.ensures.bytes
