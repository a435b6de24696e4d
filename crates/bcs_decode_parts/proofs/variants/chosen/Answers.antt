use Rattle.bcs_decode_parts.proofs.Prelude.{◌≡◌, ℕ, map, subst, rules, of, nothing, choice_at, payload_shape, choice_of, payload_of, choice_found, choice_missing}
use Rattle.bcs_decode_parts.proofs.variants.chosen.Goals as goal

pub returns-in_err-variant : goal.returns-in_err-variant
returns-in_err-variant c = λ n after small is.
    (let es = c.args.variants.now.entries in
    let number = c.in_ok-number.ensures n after small is in
    rw (c.from_residual-in_err-variant.ensures)
    (subst (λ (m : ℕ). choice_at m (map choice_of es) ≡ nothing) number.0 (choice_missing c.in_ok-number.number es c.get.result c.get.ensures.value (search rules))))

pub returns : goal.returns
returns c = λ n after small is.
    (let es = c.args.variants.now.entries in
    let held = payload_of c.in_ok-variant.variant.now.value in
    let number = c.in_ok-number.ensures n after small is in
    (subst (λ (m : ℕ). choice_at m (map choice_of es) ≡ of (payload_shape held)) number.0 (choice_found c.in_ok-number.number es c.in_ok-variant.variant c.get.result c.get.ensures.value (search rules)), number.1))
