use Rattle.bcs_num.proofs.Prelude.{arith, subst, sym, rules, nat_tests}
use Rattle.bcs_num.proofs.Decimals.{IsPlain, decimal_is_plain, plain_found, plain_only}
use Rattle.bcs_num.proofs.decimal.plain_number.Goals as goal
use Rattle.bcs_num.proofs.decimal.plain_number.Goals.{else-digits-eq48-via-then-digits-eq48+else-digits-gt1, else-digits-eq48-via-else-digits-eq48}

pub returns-then-is_empty-clause-only : goal.returns-then-is_empty-clause-only
returns-then-is_empty-clause-only c n small is =
    let plain : IsPlain c.args.digits.now = subst IsPlain (sym is) (decimal_is_plain n (omega arith)) in
    let some = plain.some in
    absurd (grind (arith, nat_tests, c.if-is_empty.ensures))

pub returns-then-digits-gt1-clause-only : goal.returns-then-digits-gt1-clause-only
returns-then-digits-gt1-clause-only c n small is =
    let plain : IsPlain c.args.digits.now = subst IsPlain (sym is) (decimal_is_plain n (omega arith)) in
    absurd (omega (arith, plain.zero_alone c.if-digits-eq48.true))

pub returns-clause-found : goal.returns-clause-found
returns-clause-found c =
    plain_found c.args.digits.now c.number.result (record {
      some = grind (arith, nat_tests, c.if-is_empty.ensures);
      zero_alone = λ zero. elim c.else-digits-eq48.branch [
        | else-digits-eq48-via-then-digits-eq48+else-digits-gt1 w ↦ grind (arith, nat_tests, c.if-is_empty.ensures)
        | else-digits-eq48-via-else-digits-eq48 w ↦ absurd (w.if-digits-eq48.false zero)
      ];
    }) c.number.ensures

pub returns-clause-only : goal.returns-clause-only
returns-clause-only c = plain_only c.args.digits.now c.number.result c.number.ensures

pub returns-then-is_empty-clause-found : goal.returns-then-is_empty-clause-found
returns-then-is_empty-clause-found c = search rules

pub returns-then-digits-gt1-clause-found : goal.returns-then-digits-gt1-clause-found
returns-then-digits-gt1-clause-found c = search rules
