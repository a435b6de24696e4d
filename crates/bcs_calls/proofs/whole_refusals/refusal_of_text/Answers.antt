use Rattle.std.proofs.Common.{[]}
use Rattle.bcs_calls.proofs.Prelude.{◌∙◌, ◌++◌, ◌∷◌, Err, List, Ok, Result, ap, ℕ, IfOk, IfSome, result_ok, shape_of}
use Rattle.bcs_calls.proofs.whole_refusals.refusal_of_text.Goals as goal

some_of_ok : {X E : Type 0} (r : Result X E) {P Q : X → Type 0} → IfOk r P → ((x : X) → P x → Q x) → IfSome (result_ok r) Q
some_of_ok (Ok x) h f = f x h
some_of_ok (Err e) h f = tt

pub returns : goal.returns
returns c =
    let asked = c.args.asked.now in
    let message = c.without_nul.result.now in
    rw c.ok.ensures.value (some_of_ok c.both.result c.both.ensures (λ x is fault refused. (
      c.in_ok-place.place.items,
      c.in_ok-place.ensures asked.registry.now asked.limits (shape_of asked.format.now) c.args.text.now fault refused,
      (message, c.without_nul.ensures, is ∙ ap (λ (place : List ℕ). (place ++ (0 ∷ [])) ++ message) c.deref.ensures.value),
    )))
