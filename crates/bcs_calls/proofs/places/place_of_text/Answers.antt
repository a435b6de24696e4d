use Rattle.bcs_calls.proofs.Prelude.{◌∙◌, Err, List, Ok, Result, ap, map, sym, ℕ, IfOk, IfSome, result_ok, pointer_step_of, JsonStep, MisspellsAt, subst, whole, pointer}
use Rattle.bcs_calls.specs.Places.{placed}
use Rattle.bcs_calls.proofs.places.place_of_text.Goals as goal

some_of_ok : {X E : Type 0} (r : Result X E) {P Q : X → Type 0} → IfOk r P → ((x : X) → P x → Q x) → IfSome (result_ok r) Q
some_of_ok (Ok x) h f = f x h
some_of_ok (Err e) h f = tt

pub returns-then-has_no_way : goal.returns-then-has_no_way
returns-then-has_no_way c r l s text other refused = whole (refused.0 other) (sym c.has_no_way.ensures ∙ c.if-has_no_way.true) c.new.ensures.items

pub returns-in-Some : goal.returns-in-Some
returns-in-Some c =
    rw c.ok.ensures.value (some_of_ok c.pointer_of.result c.pointer_of.ensures (λ x is r l s text other refused.
    placed (map pointer_step_of c.in-Some.steps.items)
    (subst (λ o. IfSome o (λ v. MisspellsAt r l s text (map pointer_step_of v.items) c.args.refusal.now.fault)) c.in-Some.is refused.1)
    (is ∙ ap (λ (steps : List JsonStep). pointer (map pointer_step_of steps)) c.deref.ensures.value)))
