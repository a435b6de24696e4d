use Rattle.bcs_decode_slice.proofs.Prelude.{◌≡◌, ◌*◌, ◌/◌, ◌<◌, ◌≤◌, suc, length, arith, ◌⊎◌, inl, inr}
use Rattle.bcs_decode_slice.proofs.WholeRows.{row_passed, row_many, row_ended, room_low, room_high, room_for}
use Rattle.bcs_decode_slice.proofs.integers.skip_integers.Goals as goal
use Rattle.bcs_decode_slice.proofs.integers.skip_integers.Goals.{then-width-eq0, else-width-eq0}

pub returns-then-there-some-clause-passes : goal.returns-then-there-some-clause-passes
returns-then-there-some-clause-passes c =
    let at = c.args.cursor.now in
    let w = c.args.width in
    let k = c.if-width-eq0.there in
    elim c.if-width-eq0.branch [
      | then-width-eq0 x ↦ absurd (omega (arith, x.there-is, c.if-there-some.true))
      | else-width-eq0 x ↦
          (let positive : 0 < w = omega (arith, x.if-width-eq0.false) in
          let is : k ≡ length at.rest.now / w = x.there-is in
          let low : k * w ≤ length at.rest.now = room_low (length at.rest.now) k w positive is in
          let high : length at.rest.now < suc k * w = room_high (length at.rest.now) k w positive is in
          rw (c.end_of_input.ensures.reason, c.end_of_input.ensures.place)
          (row_ended w k c.args.count at.place at.nodes at.rest.now (omega arith) (omega arith) low high))
    ]

pub returns-then-nodes-count-clause-passes : goal.returns-then-nodes-count-clause-passes
returns-then-nodes-count-clause-passes c =
    let at = c.args.cursor.now in
    let w = c.args.width in
    let same : c.from-nodes.result ≡ at.nodes = c.from-nodes.ensures in
    let k = c.if-width-eq0.there in
    let enough : at.nodes ≤ k = omega (arith, same) in
    let some : (w ≡ 0) ⊎ ((0 < w) × (k ≡ length at.rest.now / w)) = elim c.if-width-eq0.branch [
      | then-width-eq0 x ↦ inl (omega (arith, x.if-width-eq0.true))
      | else-width-eq0 x ↦ inr (omega (arith, x.if-width-eq0.false), x.there-is)
    ] in
    let low : at.nodes * w ≤ length at.rest.now = room_for (length at.rest.now) at.nodes k w enough some in
    rw same (row_many w c.args.count at.place at.nodes at.rest.now (omega arith) low)

pub returns-clause-passes : goal.returns-clause-passes
returns-clause-passes c =
    let at = c.args.cursor.now in
    let w = c.args.width in
    let k = c.if-width-eq0.there in
    let enough : c.args.count ≤ k = omega arith in
    let some : (w ≡ 0) ⊎ ((0 < w) × (k ≡ length at.rest.now / w)) = elim c.if-width-eq0.branch [
      | then-width-eq0 x ↦ inl (omega (arith, x.if-width-eq0.true))
      | else-width-eq0 x ↦ inr (omega (arith, x.if-width-eq0.false), x.there-is)
    ] in
    let low : c.args.count * w ≤ length at.rest.now = room_for (length at.rest.now) c.args.count k w enough some in
    rw (c.advance.ensures.rest, c.advance.ensures.place, c.advance.ensures.nodes) (row_passed w c.args.count at.place at.nodes at.rest.now (omega arith) low)
