use Rattle.bcs_num.proofs.Prelude.{◌≡◌, ◌+◌, ◌*◌, ◌∙◌, arith, rules, None, take, drop, get_or, length, min, sym, refl, digit_value, take_all}
use Rattle.bcs_num.proofs.Decimals.{next_value, next_digits, no_digit, too_large}
use Rattle.bcs_num.proofs.decimal.number.Goals as goal

pub returns-in_err-checked_mul : goal.returns-in_err-checked_mul
returns-in_err-checked_mul c =
    let none : c.from_residual-in_err-checked_mul.result ≡ None = search rules in
    let back : c.split_at.result.1.now ≡ drop (min (length c.args.digits.now) 19) c.args.digits.now = c.split_at.ensures.back ∙ rw c.min.ensures refl in
    rw none (too_large c.args.digits.now c.split_at.result.1.now _ c.loop-byte.byte-index c.loop-byte.n back c.loop-byte-test.true c.loop-byte.invariant.value (omega (arith, c.in_err-checked_mul.ensures)))

pub returns-in_err-digit : goal.returns-in_err-digit
returns-in_err-digit c =
    let none : c.from_residual-in_err-digit.result ≡ None = search rules in
    let back : c.split_at.result.1.now ≡ drop (min (length c.args.digits.now) 19) c.args.digits.now = c.split_at.ensures.back ∙ rw c.min.ensures refl in
    rw none (no_digit c.args.digits.now c.split_at.result.1.now _ c.loop-byte.byte-index c.loop-byte.n back c.loop-byte-test.true c.loop-byte.invariant.value c.in_err-digit.ensures)

pub returns-in_err-n : goal.returns-in_err-n
returns-in_err-n c =
    let product = c.in_ok-checked_mul.ensures in
    let digit = c.in_ok-digit.ensures in
    let none : c.from_residual-in_err-n.result ≡ None = search rules in
    let back : c.split_at.result.1.now ≡ drop (min (length c.args.digits.now) 19) c.args.digits.now = c.split_at.ensures.back ∙ rw c.min.ensures refl in
    rw none (too_large c.args.digits.now c.split_at.result.1.now _ c.loop-byte.byte-index c.loop-byte.n back c.loop-byte-test.true c.loop-byte.invariant.value (omega (arith, product.1, digit.1, c.from.ensures, c.in_err-n.ensures)))

pub loop-byte-preserved : goal.loop-byte-preserved
loop-byte-preserved c =
    let product = c.in_ok-checked_mul.ensures in
    let digit = c.in_ok-digit.ensures in
    let sum = c.in_ok-n.ensures in
    let value : c.in_ok-n.n ≡ c.loop-byte.n * 10 + digit_value (get_or c.split_at.result.1.now c.loop-byte.byte-index 0) = omega (arith, sum.1, product.1, digit.1, c.from.ensures) in
    let back : c.split_at.result.1.now ≡ drop (min (length c.args.digits.now) 19) c.args.digits.now = c.split_at.ensures.back ∙ rw c.min.ensures refl in
    record {
      digits_so_far = next_digits c.args.digits.now c.split_at.result.1.now _ c.loop-byte.byte-index c.loop-byte.n back c.loop-byte-test.true c.loop-byte.invariant.value c.loop-byte.invariant.digits_so_far digit.0;
      value = value ∙ sym (next_value c.args.digits.now c.split_at.result.1.now _ c.loop-byte.byte-index c.loop-byte.n back c.loop-byte-test.true c.loop-byte.invariant.value);
      fits = omega (arith, sum.0, sum.1);
    }

pub returns : goal.returns
returns c =
    let all : take (min (length c.args.digits.now) 19 + c.loop-byte.byte-index) c.args.digits.now ≡ c.args.digits.now = take_all _ c.args.digits.now (omega (arith, c.split_at.ensures.back_len, c.min.ensures)) in
    ((rw all at c.loop-byte.invariant.digits_so_far, omega (arith, c.loop-byte.invariant.fits, rw all at c.loop-byte.invariant.value)), rw all at c.loop-byte.invariant.value)
