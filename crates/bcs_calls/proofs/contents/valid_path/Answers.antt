use Rattle.std.proofs.Common.{Err, Ok}
use Rattle.std.specs.Prelude.{IfErr}
use Rattle.bcs_calls.proofs.Prelude.{arith, shape_of}
use Rattle.bcs_calls.specs.Contents.{AnswersContent}
use Rattle.bcs_calls.specs.NamedParts.{RefusesName}
use Rattle.bcs_calls.proofs.NameRefusals.{content_refused}
use Rattle.bcs_calls.proofs.contents.valid_path.Goals as goal

pub returns-else-notation-eq-STEPS-clause-err : goal.returns-else-notation-eq-STEPS-clause-err
returns-else-notation-eq-STEPS-clause-err c =
    let asked = c.args.asked.now in
    let r = asked.registry.now in
    let l = asked.limits in
    let s = shape_of asked.format.now in
    let b = c.args.bytes.now in
    let name = c.args.name.now in
    let n = c.args.notation in
    (elim c.led_path.result as (λ x. IfErr x (λ a. RefusesName r l s b n name a) → IfErr x (λ a. AnswersContent r l s b n name a)) [
      | Ok path ↦ λ h. h
      | Err a ↦ λ h. content_refused r l s b name a n (omega (arith, c.if-notation-eq-STEPS.false)) h
    ]) c.led_path.ensures.err
