use Rattle.bcs_num.proofs.Prelude.{common_steps, ◌≡◌, ap, arith, rules, suc, Some, None, ℤ, ints, width_of}
use Rattle.bcs_num.proofs.Decimals.{minus_text}
use Rattle.bcs_num.proofs.decimal.parse_signed.Goals as goal

pub returns-in_err-plain_number-in-45-clause-only : goal.returns-in_err-plain_number-in-45-clause-only
returns-in_err-plain_number-in-45-clause-only c z fits is =
    let m = minus_text (width_of c.args.width) z c.args.text.now c.as_bytes.result.now fits (search rules) is c.as_bytes.ensures.value in
    let number : c.plain_number.result ≡ Some (suc m.0) = c.plain_number.ensures.only (suc m.0) (omega (arith, m.2)) m.4 in
    let none : c.plain_number.result ≡ None = c.in_err-plain_number-in-45.was in
    absurd cc

pub returns-in_err-below-in-45-clause-only : goal.returns-in_err-below-in-45-clause-only
returns-in_err-below-in-45-clause-only c z fits is =
    let m = minus_text (width_of c.args.width) z c.args.text.now c.as_bytes.result.now fits (search rules) is c.as_bytes.ensures.value in
    let number : c.plain_number.result ≡ Some (suc m.0) = c.plain_number.ensures.only (suc m.0) (omega (arith, m.2)) m.4 in
    let some : c.plain_number.result ≡ Some c.in_ok-plain_number-in-45.field-0 = c.in_ok-plain_number-in-45.was in
    let same : c.in_ok-plain_number-in-45.field-0 ≡ suc m.0 = cc in
    absurd (c.in_err-below-in-45.ensures (omega (arith, same)))

pub returns-then-below-greatest-clause-only : goal.returns-then-below-greatest-clause-only
returns-then-below-greatest-clause-only c z fits is =
    let m = minus_text (width_of c.args.width) z c.args.text.now c.as_bytes.result.now fits (search rules) is c.as_bytes.ensures.value in
    let number : c.plain_number.result ≡ Some (suc m.0) = c.plain_number.ensures.only (suc m.0) (omega (arith, m.2)) m.4 in
    let some : c.plain_number.result ≡ Some c.in_ok-plain_number-in-45.field-0 = c.in_ok-plain_number-in-45.was in
    let same : c.in_ok-plain_number-in-45.field-0 ≡ suc m.0 = cc in
    let below : c.in_ok-below-in-45.below ≡ m.0 = omega (arith, same, c.in_ok-below-in-45.ensures.1) in
    ap (λ (x : ℤ). Some x) (omega (arith, ints, m.1, m.2, below))

pub returns-else-below-greatest-clause-only : goal.returns-else-below-greatest-clause-only
returns-else-below-greatest-clause-only c z fits is =
    let m = minus_text (width_of c.args.width) z c.args.text.now c.as_bytes.result.now fits (search rules) is c.as_bytes.ensures.value in
    let number : c.plain_number.result ≡ Some (suc m.0) = c.plain_number.ensures.only (suc m.0) (omega (arith, m.2)) m.4 in
    let some : c.plain_number.result ≡ Some c.in_ok-plain_number-in-45.field-0 = c.in_ok-plain_number-in-45.was in
    let same : c.in_ok-plain_number-in-45.field-0 ≡ suc m.0 = cc in
    let below : c.in_ok-below-in-45.below ≡ m.0 = omega (arith, same, c.in_ok-below-in-45.ensures.1) in
    absurd (omega (arith, below, m.3, c.if-below-greatest.false, c.greatest_signed-greatest.ensures))

pub returns-in_err-plain_number-in-45-clause-found : goal.returns-in_err-plain_number-in-45-clause-found
returns-in_err-plain_number-in-45-clause-found c = search rules

pub returns-in_err-below-in-45-clause-found : goal.returns-in_err-below-in-45-clause-found
returns-in_err-below-in-45-clause-found c = search rules

pub returns-in_err-n-in_default-clause-found : goal.returns-in_err-n-in_default-clause-found
returns-in_err-n-in_default-clause-found c = search rules

pub returns-in_err-n-in_default-clause-only : goal.returns-in_err-n-in_default-clause-only
returns-in_err-n-in_default-clause-only c = search rules

pub returns-else-below-greatest-clause-found : goal.returns-else-below-greatest-clause-found
returns-else-below-greatest-clause-found c = search rules

pub returns-then-n-greatest-clause-found : goal.returns-then-n-greatest-clause-found
returns-then-n-greatest-clause-found c = search rules

pub returns-then-n-greatest-clause-only : goal.returns-then-n-greatest-clause-only
returns-then-n-greatest-clause-only c = search rules

pub returns-else-n-greatest-clause-found : goal.returns-else-n-greatest-clause-found
returns-else-n-greatest-clause-found c = search rules

pub returns-else-n-greatest-clause-only : goal.returns-else-n-greatest-clause-only
returns-else-n-greatest-clause-only c = search rules

pub returns-then-below-greatest-clause-found : goal.returns-then-below-greatest-clause-found
returns-then-below-greatest-clause-found c = grind (arith, common_steps)
