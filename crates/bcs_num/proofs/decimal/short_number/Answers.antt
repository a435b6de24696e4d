use Rattle.bcs_num.proofs.Prelude.{◌≡◌, arith, rules, None, digits_more, digits_value_more}
use Rattle.bcs_num.proofs.Decimals.{all_digits_at, short_fits}
use Rattle.bcs_num.proofs.decimal.short_number.Goals as goal

pub overflow_mul-n : goal.overflow_mul-n
overflow_mul-n c =
    let below = short_fits c.args.digits.now c.loop-byte.byte-index c.loop-byte.n c.loop-byte-test.true c.requires c.loop-byte.invariant.digits_so_far c.loop-byte.invariant.value in
    record { fits = omega arith }

pub overflow_add-n : goal.overflow_add-n
overflow_add-n c =
    let below = short_fits c.args.digits.now c.loop-byte.byte-index c.loop-byte.n c.loop-byte-test.true c.requires c.loop-byte.invariant.digits_so_far c.loop-byte.invariant.value in
    let digit = c.in_ok-digit.ensures in
    record { fits = omega (arith, c.from.ensures, digit.0, digit.1) }

pub returns-in_err-digit : goal.returns-in_err-digit
returns-in_err-digit c =
    let none : c.from_residual.result ≡ None = search rules in
    rw none (λ digits. c.in_err-digit.ensures (all_digits_at c.args.digits.now c.loop-byte.byte-index digits c.loop-byte-test.true))

pub loop-byte-preserved : goal.loop-byte-preserved
loop-byte-preserved c =
    let digit = c.in_ok-digit.ensures in
    let next = digits_value_more 10 c.args.digits.now c.loop-byte.byte-index c.loop-byte-test.true in
    record {
      digits_so_far = digits_more 10 c.args.digits.now c.loop-byte.byte-index c.loop-byte-test.true c.loop-byte.invariant.digits_so_far digit.0;
      value = omega (arith, next, c.loop-byte.invariant.value, c.from.ensures, digit.1);
    }
