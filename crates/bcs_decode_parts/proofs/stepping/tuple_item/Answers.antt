use Rattle.bcs_decode_parts.proofs.Prelude.{◌+◌, length, drop, refl, sym, arith, ltb-true, shape_of, formats_shapes}
use Rattle.bcs_decode_parts.proofs.FormatRows.{formats_count, formats_split, formats_before}
use Rattle.bcs_decode_parts.proofs.RowSteps.{tuple_past, tuple_stuck, tuple_leads}
use Rattle.bcs_decode_parts.proofs.stepping.tuple_item.Goals as goal

pub returns-in_err-format : goal.returns-in_err-format
returns-in_err-format c = λ t after h.
    (let fs = c.args.formats.now in
    let none = c.in_err-format.ensures.lookup in
    rw (c.from_residual.ensures) (tuple_past c.args.registry.now c.args.ahead.now (formats_shapes fs) c.args.index t after h (omega (arith, none, formats_count fs))))

pub returns-in_err-rest : goal.returns-in_err-rest
returns-in_err-rest c = λ t after h.
    (let fs = c.args.formats.now in
    let i = c.args.index in
    let front = c.split_at.result.0.now in
    let f = c.in_ok-format.format.now in
    let there = c.in_ok-format.ensures.lookup in
    let lt = ltb-true i (length fs) (sym there.0) in
    let split = formats_split fs front i f c.split_at.ensures.front lt there.1 in
    let long = formats_before fs front i c.split_at.ensures.front lt in
    absurd (tuple_stuck c.args.registry.now c.args.ahead.now (formats_shapes fs) (formats_shapes front) (shape_of f) (formats_shapes (drop (i + 1) fs)) i split long t after h c.in_err-rest.ensures))

pub returns : goal.returns
returns c = λ t after h.
    (let fs = c.args.formats.now in
    let i = c.args.index in
    let front = c.split_at.result.0.now in
    let f = c.in_ok-format.format.now in
    let there = c.in_ok-format.ensures.lookup in
    let lt = ltb-true i (length fs) (sym there.0) in
    let split = formats_split fs front i f c.split_at.ensures.front lt there.1 in
    let long = formats_before fs front i c.split_at.ensures.front lt in
    tuple_leads c.args.registry.now c.args.ahead.now (formats_shapes fs) (formats_shapes front) (shape_of f) (formats_shapes (drop (i + 1) fs)) i split long t after c.in_ok-rest.rest.now _ h c.in_ok-rest.ensures refl
    (record { depth_is = c.at.ensures.depth; nodes_are = c.at.ensures.nodes }) c.at.ensures.bytes)
