use Rattle.bcs_explain.proofs.Prelude.{◌∙◌, ap, ap₂, sym, arith, ℕ, Ok, Err, rules, get_or_default, err_from_is_err_and, shape_of, Reason, AreBytes, value_here, skipping, found_only, found_never, stopped_never, stopped_only, skips_accepts, skips_stops}
use Rattle.bcs_explain.proofs.explaining.explain.Goals as goal

pub returns-clause-found : goal.returns-clause-found
returns-clause-found g c =
    let r = c.args.registry.now in
    let l = c.args.limits.now in
    let s = shape_of c.args.format.now in
    let b = c.args.bytes.now in
    let e = ap (λ d. value_here skipping r d s 0 l.nodes b) (sym c.depth.ensures.is) ∙ ap (λ m. value_here skipping r c.depth.result s 0 m b) (sym c.nodes.ensures.is) ∙ c.in_ok-value.ensures.passes in
    let bytes : AreBytes b = λ k d lt. (let same = get_or_default b k d 0 lt in omega (arith, same, c.type_inv.bytes k)) in
    skips_accepts r l s b c.value.new.cursor.place _ _ bytes e

pub returns-clause-only : goal.returns-clause-only
returns-clause-only g c = λ n t good.
    (let r = c.args.registry.now in
    let l = c.args.limits.now in
    let s = shape_of c.args.format.now in
    let b = c.args.bytes.now in
    let e = ap (λ d. value_here skipping r d s 0 l.nodes b) (sym c.depth.ensures.is) ∙ ap (λ m. value_here skipping r c.depth.result s 0 m b) (sym c.nodes.ensures.is) ∙ c.in_ok-value.ensures.passes in
    ap Ok (found_only r l s b c.value.new.cursor.place _ _ e n t good))

pub returns-clause-stopped : goal.returns-clause-stopped
returns-clause-stopped g c = λ d o bad.
    (let r = c.args.registry.now in
    let l = c.args.limits.now in
    let s = shape_of c.args.format.now in
    let b = c.args.bytes.now in
    let e = ap (λ d. value_here skipping r d s 0 l.nodes b) (sym c.depth.ensures.is) ∙ ap (λ m. value_here skipping r c.depth.result s 0 m b) (sym c.nodes.ensures.is) ∙ c.in_ok-value.ensures.passes in
    absurd (found_never r l s b c.value.new.cursor.place _ _ e d o bad))

pub returns-in_err-value-clause-stops : goal.returns-in_err-value-clause-stops
returns-in_err-value-clause-stops g c =
    let p = err_from_is_err_and c.from_residual.result c.from_residual.ensures.1 in
    let r = c.args.registry.now in
    let l = c.args.limits.now in
    let s = shape_of c.args.format.now in
    let b = c.args.bytes.now in
    let e = ap (λ d. value_here skipping r d s 0 l.nodes b) (sym c.depth.ensures.is) ∙ ap (λ m. value_here skipping r c.depth.result s 0 m b) (sym c.nodes.ensures.is) ∙ c.in_err-value.ensures.passes in
    let bytes : AreBytes b = λ k d lt. (let same = get_or_default b k d 0 lt in omega (arith, same, c.type_inv.bytes k)) in
    rw (p.1, p.2) (skips_stops r l s b _ _ bytes e)

pub returns-in_err-value-clause-only : goal.returns-in_err-value-clause-only
returns-in_err-value-clause-only g c = λ n t good.
    (let r = c.args.registry.now in
    let l = c.args.limits.now in
    let s = shape_of c.args.format.now in
    let b = c.args.bytes.now in
    let e = ap (λ d. value_here skipping r d s 0 l.nodes b) (sym c.depth.ensures.is) ∙ ap (λ m. value_here skipping r c.depth.result s 0 m b) (sym c.nodes.ensures.is) ∙ c.in_err-value.ensures.passes in
    absurd (stopped_never r l s b _ _ e n t good))

pub returns-in_err-value-clause-stopped : goal.returns-in_err-value-clause-stopped
returns-in_err-value-clause-stopped g c = λ d o bad.
    (let p = err_from_is_err_and c.from_residual.result c.from_residual.ensures.1 in
    let r = c.args.registry.now in
    let l = c.args.limits.now in
    let s = shape_of c.args.format.now in
    let b = c.args.bytes.now in
    let e = ap (λ d. value_here skipping r d s 0 l.nodes b) (sym c.depth.ensures.is) ∙ ap (λ m. value_here skipping r c.depth.result s 0 m b) (sym c.nodes.ensures.is) ∙ c.in_err-value.ensures.passes in
    let same = stopped_only r l s b _ _ e d o bad in
    rw (p.1, p.2) (ap₂ (λ (x : Reason) (y : ℕ). Err (record { reason = x; place = y })) same.0 same.1))

pub returns-in_err-value-clause-found : goal.returns-in_err-value-clause-found
returns-in_err-value-clause-found g c = search rules

pub returns-clause-stops : goal.returns-clause-stops
returns-clause-stops g c = search rules
