use Rattle.bcs_calls.proofs.Prelude.{◌∙◌, ap, inl, inr, refl, subst, Answer, IfSome, shape_of}
use Rattle.bcs_calls.specs.Messages.{IsRefusalOf}
use Rattle.bcs_calls.specs.declared.call.ValueCall.TheVariants.{Normalise, ToBcs}
use Rattle.bcs_calls.proofs.Calls.{value_told}
use Rattle.bcs_calls.proofs.asking.told_value.Goals as goal

pub returns-in-Some-clause-tells : goal.returns-in-Some-clause-tells
returns-in-Some-clause-tells c refuses some =
    let asked = c.args.asked.now in
    let q = c.args.question.now in
    let kept = subst (λ o. IfSome o (IsRefusalOf c.args.call q asked.registry.now asked.limits (shape_of asked.format.now))) c.in-Some.is (c.answer_value-answer.ensures.kept refl) in
    let told = c.kept_message-length.ensures.tells some kept.1 in
    let long = ap (λ (a : Answer). a.length) c.with_length.ensures ∙ told.2 in
    elim (kept.0) [
      | inl is ↦ (told.0, value_told asked q _ c.args.message.now _ told.0 c.args.call ToBcs is told.1, long)
      | inr is ↦ (told.0, value_told asked q _ c.args.message.now _ told.0 c.args.call Normalise is told.1, long)
    ]
