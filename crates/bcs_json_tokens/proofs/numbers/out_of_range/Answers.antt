use Rattle.bcs_json_tokens.proofs.Prelude.{◌<◌, ◌^◌, pos, refl, arith, number, unsigned, BadNumber, IsHere, IsOutOfRange}
use Rattle.bcs_json_passing.proofs.WholeTexts.{signed_alone, unsigned_alone}
use Rattle.bcs_json_tokens.proofs.Starts.{refused_as}
use Rattle.bcs_json_tokens.proofs.numbers.out_of_range.Goals as goal

pub returns-in-Some : goal.returns-in-Some
returns-in-Some c =
    let s = c.args.text.now in
    let v = c.in-Some.field-0 in
    let plain = c.in-Some.ensures.found in
    let fits : v < 2 ^ 64 = omega (arith, plain.0) in
    refused_as (IsHere BadNumber) (IsOutOfRange s) c.here.result (λ e h. record { json = number (unsigned v); integer = pos v; is = unsigned_alone s v plain.1 fits; spells = refl; same = plain.1; here = h }) c.here.ensures

pub returns-in-Some-parse_signed : goal.returns-in-Some-parse_signed
returns-in-Some-parse_signed c =
    let s = c.args.text.now in
    let z = c.in-Some-parse_signed.field-0 in
    let plain = c.in-Some-parse_signed.ensures.found in
    let held = signed_alone s z plain.1 plain.0 in
    refused_as (IsHere BadNumber) (IsOutOfRange s) c.here-in-Some-parse_signed.result (λ e h. record { json = held.0; integer = z; is = held.1; spells = held.2; same = plain.1; here = h }) c.here-in-Some-parse_signed.ensures
