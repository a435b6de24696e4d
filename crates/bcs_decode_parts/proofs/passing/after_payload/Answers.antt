use Rattle.bcs_decode_parts.proofs.Prelude.{payload_shape, payload_of, skip}
use Rattle.bcs_decode_parts.proofs.Skips.{skipped, passed, stuck}
use Rattle.bcs_decode_parts.proofs.passing.after_payload.Goals as goal

pub returns-in-Ok : goal.returns-in-Ok
returns-in-Ok c = λ t after h.
    (let r = c.args.registry.now in
    passed r c.args.ahead.now (skip r c.args.ahead.now.depth (payload_shape (payload_of c.args.held.now))) c.over-cursor.result _ _ _ _ _ after (record { rest = c.over-cursor.ensures.rest; place = c.over-cursor.ensures.place; nodes_are = c.over-cursor.ensures.nodes }) c.in-Ok.ensures.passes (skipped r c.args.ahead.now (payload_shape (payload_of c.args.held.now)) t after h))

pub returns-in-Err : goal.returns-in-Err
returns-in-Err c = λ t after h.
    (let r = c.args.registry.now in
    stuck r c.args.ahead.now (skip r c.args.ahead.now.depth (payload_shape (payload_of c.args.held.now))) c.over-cursor.result _ _ _ after (record { rest = c.over-cursor.ensures.rest; place = c.over-cursor.ensures.place; nodes_are = c.over-cursor.ensures.nodes }) c.in-Err.ensures.passes (skipped r c.args.ahead.now (payload_shape (payload_of c.args.held.now)) t after h))
