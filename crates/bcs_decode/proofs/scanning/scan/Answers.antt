use Rattle.bcs_decode.proofs.Prelude.{◌∙◌, ap, ap₂, sym, arith, ℕ, Ok, Err, rules, get_or_default, shape_of, Reason, AreBytes, value_here, skipping, found_only, found_never, stopped_never, stopped_only, skips_accepts, skips_stops}
use Rattle.bcs_decode.proofs.scanning.scan.Goals as goal

pub returns-in-Ok-clause-found : goal.returns-in-Ok-clause-found
returns-in-Ok-clause-found c =
    let r = c.args.registry.now in
    let l = c.args.limits.now in
    let s = shape_of c.args.format.now in
    let b = c.args.bytes.now in
    let e = ap (λ d. value_here skipping r d s 0 l.nodes b) (sym c.depth.ensures.is) ∙ ap (λ m. value_here skipping r c.depth.result s 0 m b) (sym c.nodes.ensures.is) ∙ c.in-Ok.ensures.passes in
    let bytes : AreBytes b = λ k d lt. (let same = get_or_default b k d 0 lt in omega (arith, same, c.type_inv.bytes k)) in
    skips_accepts r l s b c.value.new.cursor.place _ _ bytes e

pub returns-in-Ok-clause-only : goal.returns-in-Ok-clause-only
returns-in-Ok-clause-only c = λ n t good.
    (let r = c.args.registry.now in
    let l = c.args.limits.now in
    let s = shape_of c.args.format.now in
    let b = c.args.bytes.now in
    let e = ap (λ d. value_here skipping r d s 0 l.nodes b) (sym c.depth.ensures.is) ∙ ap (λ m. value_here skipping r c.depth.result s 0 m b) (sym c.nodes.ensures.is) ∙ c.in-Ok.ensures.passes in
    ap Ok (found_only r l s b c.value.new.cursor.place _ _ e n t good))

pub returns-in-Ok-clause-stopped : goal.returns-in-Ok-clause-stopped
returns-in-Ok-clause-stopped c = λ d o bad.
    (let r = c.args.registry.now in
    let l = c.args.limits.now in
    let s = shape_of c.args.format.now in
    let b = c.args.bytes.now in
    let e = ap (λ d. value_here skipping r d s 0 l.nodes b) (sym c.depth.ensures.is) ∙ ap (λ m. value_here skipping r c.depth.result s 0 m b) (sym c.nodes.ensures.is) ∙ c.in-Ok.ensures.passes in
    absurd (found_never r l s b c.value.new.cursor.place _ _ e d o bad))

pub returns-in-Err-clause-stops : goal.returns-in-Err-clause-stops
returns-in-Err-clause-stops c =
    let r = c.args.registry.now in
    let l = c.args.limits.now in
    let s = shape_of c.args.format.now in
    let b = c.args.bytes.now in
    let e = ap (λ d. value_here skipping r d s 0 l.nodes b) (sym c.depth.ensures.is) ∙ ap (λ m. value_here skipping r c.depth.result s 0 m b) (sym c.nodes.ensures.is) ∙ c.in-Err.ensures.passes in
    let bytes : AreBytes b = λ k d lt. (let same = get_or_default b k d 0 lt in omega (arith, same, c.type_inv.bytes k)) in
    skips_stops r l s b _ _ bytes e

pub returns-in-Err-clause-only : goal.returns-in-Err-clause-only
returns-in-Err-clause-only c = λ n t good.
    (let r = c.args.registry.now in
    let l = c.args.limits.now in
    let s = shape_of c.args.format.now in
    let b = c.args.bytes.now in
    let e = ap (λ d. value_here skipping r d s 0 l.nodes b) (sym c.depth.ensures.is) ∙ ap (λ m. value_here skipping r c.depth.result s 0 m b) (sym c.nodes.ensures.is) ∙ c.in-Err.ensures.passes in
    absurd (stopped_never r l s b _ _ e n t good))

pub returns-in-Err-clause-stopped : goal.returns-in-Err-clause-stopped
returns-in-Err-clause-stopped c = λ d o bad.
    (let r = c.args.registry.now in
    let l = c.args.limits.now in
    let s = shape_of c.args.format.now in
    let b = c.args.bytes.now in
    let e = ap (λ d. value_here skipping r d s 0 l.nodes b) (sym c.depth.ensures.is) ∙ ap (λ m. value_here skipping r c.depth.result s 0 m b) (sym c.nodes.ensures.is) ∙ c.in-Err.ensures.passes in
    let same = stopped_only r l s b _ _ e d o bad in
    ap₂ (λ (x : Reason) (y : ℕ). Err (record { reason = x; place = y })) same.0 same.1)

pub returns-in-Err-clause-found : goal.returns-in-Err-clause-found
returns-in-Err-clause-found c = search rules

pub returns-in-Ok-clause-stops : goal.returns-in-Ok-clause-stops
returns-in-Ok-clause-stops c = search rules
