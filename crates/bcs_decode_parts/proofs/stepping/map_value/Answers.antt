use Rattle.bcs_decode_parts.proofs.Prelude.{ℕ, ◌+◌, ◌-◌, ◌<◌, ◌≡◌, Some, None, refl, sym, subst, ◌∙◌, arith, false≢true, bytes_eq-Decides, shape_of}
use Rattle.bcs_decode_parts.proofs.MapSteps.{Finds, found_in_map, none_left, key_stuck, key_leads, value_stuck, next_finds}
use Rattle.bcs_decode_parts.proofs.stepping.map_value.Goals as goal

pub loop-init : goal.loop-init
loop-init c = record { whole = λ r found ps after long stand. found ps after (omega (arith, long)) stand }

pub returns-in_err-behind : goal.returns-in_err-behind
returns-in_err-behind c = λ t after h.
    (let r = c.args.registry.now in
    let a = c.args.ahead.now in
    let f = shape_of c.args.key.now in
    let g = shape_of c.args.content.now in
    let w = c.args.wanted.now in
    let n = c.in_ok-count.count in
    let l = c.loop in
    let start = c.in_ok-count.rest.now in
    let some : 0 < n - l.counter = omega (arith, c.loop-test.true) in
    rw (c.from_residual-in_err-behind.ensures)
    (found_in_map r a f g w n start c.in_ok-count.ensures None
    (l.invariant.whole None (key_stuck r a f g w l.rest.now (n - l.counter) some c.at.result (record { depth_is = c.at.ensures.depth; nodes_are = c.at.ensures.nodes }) c.at.ensures.bytes c.in_err-behind.ensures None)) t after h))

pub returns-then-eq : goal.returns-then-eq
returns-then-eq c = λ t after h.
    (let r = c.args.registry.now in
    let a = c.args.ahead.now in
    let f = shape_of c.args.key.now in
    let g = shape_of c.args.content.now in
    let w = c.args.wanted.now in
    let n = c.in_ok-count.count in
    let l = c.loop in
    let start = c.in_ok-count.rest.now in
    let some : 0 < n - l.counter = omega (arith, c.loop-test.true) in
    found_in_map r a f g w n start c.in_ok-count.ensures (Some _)
    (l.invariant.whole (Some _)
    (key_leads r a f g w l.rest.now (n - l.counter) some c.at.result (record { depth_is = c.at.ensures.depth; nodes_are = c.at.ensures.nodes }) c.at.ensures.bytes c.in_ok-behind.behind.now c.bytes_before.result.now c.in_ok-behind.ensures c.bytes_before.ensures
    _ ((bytes_eq-Decides c.bytes_before.result.now w).0 (sym c.eq.ensures ∙ c.if-eq.true)) refl (record { depth_is = c.at-then-eq.ensures.depth; nodes_are = c.at-then-eq.ensures.nodes }) c.at-then-eq.ensures.bytes)) t after h)

pub returns-in_err-rest : goal.returns-in_err-rest
returns-in_err-rest c = λ t after h.
    (let r = c.args.registry.now in
    let a = c.args.ahead.now in
    let f = shape_of c.args.key.now in
    let g = shape_of c.args.content.now in
    let w = c.args.wanted.now in
    let n = c.in_ok-count.count in
    let l = c.loop in
    let start = c.in_ok-count.rest.now in
    let some : 0 < n - l.counter = omega (arith, c.loop-test.true) in
    rw (c.from_residual-in_err-rest.ensures)
    (found_in_map r a f g w n start c.in_ok-count.ensures None
    (l.invariant.whole None
    (value_stuck r a f g w l.rest.now (n - l.counter) some c.at.result (record { depth_is = c.at.ensures.depth; nodes_are = c.at.ensures.nodes }) c.at.ensures.bytes c.in_ok-behind.behind.now c.bytes_before.result.now c.in_ok-behind.ensures c.bytes_before.ensures
    (λ e. absurd (false≢true (sym (sym c.eq.ensures ∙ c.if-eq.false) ∙ (bytes_eq-Decides c.bytes_before.result.now w).1 e))) c.at-in-loop.result (record { depth_is = c.at-in-loop.ensures.depth; nodes_are = c.at-in-loop.ensures.nodes }) c.at-in-loop.ensures.bytes c.in_err-rest.ensures None)) t after h))

pub loop-preserved : goal.loop-preserved
loop-preserved c =
    (let r = c.args.registry.now in
    let a = c.args.ahead.now in
    let f = shape_of c.args.key.now in
    let g = shape_of c.args.content.now in
    let w = c.args.wanted.now in
    let n = c.in_ok-count.count in
    let l = c.loop in
    let start = c.in_ok-count.rest.now in
    let some : 0 < n - l.counter = omega (arith, c.loop-test.true) in
    record {
      whole = λ q found. l.invariant.whole q
          (next_finds r a f g w l.rest.now (n - l.counter) some c.at.result (record { depth_is = c.at.ensures.depth; nodes_are = c.at.ensures.nodes }) c.at.ensures.bytes c.in_ok-behind.behind.now c.bytes_before.result.now c.in_ok-behind.ensures c.bytes_before.ensures
          (λ e. absurd (false≢true (sym (sym c.eq.ensures ∙ c.if-eq.false) ∙ (bytes_eq-Decides c.bytes_before.result.now w).1 e))) c.at-in-loop.result (record { depth_is = c.at-in-loop.ensures.depth; nodes_are = c.at-in-loop.ensures.nodes }) c.at-in-loop.ensures.bytes c.in_ok-rest.rest.now q c.in_ok-rest.ensures
          (let fewer : n - (l.counter + 1) ≡ (n - l.counter) - 1 = omega arith in subst (λ (m : ℕ). Finds r a f g w c.in_ok-rest.rest.now m q) fewer found));
    })

pub returns : goal.returns
returns c = λ t after h.
    (let r = c.args.registry.now in
    let a = c.args.ahead.now in
    let f = shape_of c.args.key.now in
    let g = shape_of c.args.content.now in
    let w = c.args.wanted.now in
    let n = c.in_ok-count.count in
    let l = c.loop in
    let start = c.in_ok-count.rest.now in
    found_in_map r a f g w n start c.in_ok-count.ensures None
    (l.invariant.whole None (none_left r a f g w l.rest.now (n - l.counter) (omega (arith, c.loop-test.false)))) t after h)
