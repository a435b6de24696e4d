use Rattle.bcs_json_passing.proofs.Prelude.{◌<◌, ◌^◌, arith, number, unsigned}
use Rattle.bcs_json_passing.proofs.WholeTexts.{unsigned_alone, signed_alone}
use Rattle.bcs_json_passing.proofs.passing.pass_number.Goals as goal

pub returns-in-Some-clause-ok : goal.returns-in-Some-clause-ok
returns-in-Some-clause-ok c =
    let n = c.in-Some.field-0 in
    let plain = c.in-Some.ensures.found in
    let fits : n < 2 ^ 64 = omega (arith, plain.0) in
    (number (unsigned n), unsigned_alone c.args.text.now n plain.1 fits)

pub returns-in-Some-parse_signed-clause-ok : goal.returns-in-Some-parse_signed-clause-ok
returns-in-Some-parse_signed-clause-ok c =
    let z = c.in-Some-parse_signed.field-0 in
    let plain = c.in-Some-parse_signed.ensures.found in
    let held = signed_alone c.args.text.now z plain.1 plain.0 in
    (held.0, held.1)
