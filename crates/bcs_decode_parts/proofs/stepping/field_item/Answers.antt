use Rattle.bcs_decode_parts.proofs.Prelude.{◌+◌, length, drop, map, refl, sym, arith, ltb-true, shape_of, field_of, field_shapes}
use Rattle.bcs_decode_parts.proofs.FormatRows.{fields_count, fields_split, fields_before}
use Rattle.bcs_decode_parts.proofs.RowSteps.{tuple_past, tuple_stuck, tuple_leads}
use Rattle.bcs_decode_parts.proofs.stepping.field_item.Goals as goal

pub returns-in_err-field : goal.returns-in_err-field
returns-in_err-field c = λ t after h.
    (let fs = c.args.fields.now in
    let none = c.in_err-field.ensures.lookup in
    rw (c.from_residual.ensures) (tuple_past c.args.registry.now c.args.ahead.now (field_shapes (map field_of fs)) c.args.index t after h (omega (arith, none, fields_count fs))))

pub returns-in_err-rest : goal.returns-in_err-rest
returns-in_err-rest c = λ t after h.
    (let fs = c.args.fields.now in
    let i = c.args.index in
    let front = c.split_at.result.0.now in
    let f = c.in_ok-field.field.now in
    let there = c.in_ok-field.ensures.lookup in
    let lt = ltb-true i (length fs) (sym there.0) in
    let split = fields_split fs front i f c.split_at.ensures.front lt there.1 in
    let long = fields_before fs front i c.split_at.ensures.front lt in
    absurd (tuple_stuck c.args.registry.now c.args.ahead.now (field_shapes (map field_of fs)) (field_shapes (map field_of front)) (shape_of f.value) (field_shapes (map field_of (drop (i + 1) fs))) i split long t after h c.in_err-rest.ensures))

pub returns : goal.returns
returns c = λ t after h.
    (let fs = c.args.fields.now in
    let i = c.args.index in
    let front = c.split_at.result.0.now in
    let f = c.in_ok-field.field.now in
    let there = c.in_ok-field.ensures.lookup in
    let lt = ltb-true i (length fs) (sym there.0) in
    let split = fields_split fs front i f c.split_at.ensures.front lt there.1 in
    let long = fields_before fs front i c.split_at.ensures.front lt in
    tuple_leads c.args.registry.now c.args.ahead.now (field_shapes (map field_of fs)) (field_shapes (map field_of front)) (shape_of f.value) (field_shapes (map field_of (drop (i + 1) fs))) i split long t after c.in_ok-rest.rest.now _ h c.in_ok-rest.ensures refl
    (record { depth_is = c.at.ensures.depth; nodes_are = c.at.ensures.nodes }) c.at.ensures.bytes)
