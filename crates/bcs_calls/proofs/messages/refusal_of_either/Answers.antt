use Rattle.bcs_calls.proofs.Prelude.{arith, ◌≡◌, ◌≢◌, ◌∙◌, List, subst, sym, ℕ, shape_of, No, Done}
use Rattle.bcs_calls.specs.Messages.{of_first, of_second}
use Rattle.bcs_calls.specs.Places.{AnswersTextRefusal}
use Rattle.bcs_calls.specs.Statuses.{status_number}
use Rattle.bcs_calls.proofs.TwoDocuments.{denotes_if_no}
use Rattle.bcs_calls.proofs.messages.refusal_of_either.Goals as goal

pub returns-then-told-number : goal.returns-then-told-number
returns-then-told-number c =
    let asked = c.args.asked.now in
    let s = shape_of asked.format.now in
    let told = c.text_refusal-told in
    let denied : told.result.status ≡ status_number No = c.if-told-number.true ∙ c.number.ensures in
    let first = denotes_if_no asked.registry.now asked.limits s c.args.first.now c.args.message.now told.new.out told.result told.ensures.answers denied in
    let other : told.result.status ≢ status_number Done = λ done. (let k : status_number Done ≡ status_number No = sym done ∙ denied in omega (arith, k)) in
    of_second first.0 first.1
    (subst (λ (old : List ℕ). AnswersTextRefusal asked.registry.now asked.limits s c.args.second.now old c.text_refusal.new.out c.text_refusal.result) (told.ensures.untouched other) c.text_refusal.ensures.answers)

pub returns-else-told-number : goal.returns-else-told-number
returns-else-told-number c = of_first (λ denied. c.if-told-number.false (denied ∙ sym c.number.ensures)) c.text_refusal-told.ensures.answers
