-- The appended part of a path, followed by the rest of it.
use Rattle.std.proofs.Common.{◌≡◌, ◌∙◌, ℕ, ◌+◌, ◌<◌, ◌≤◌, List, ◌∷◌, ◌++◌, ap, sym, drop, drop_of_length-le, get_or, length, append_assoc, append-nil, map}
use Rattle.std.proofs.lemmas.List.{drop_more}
use Rattle.bcs_json_spec.specs.Place.{pointer_step_of}
use Rattle.bcs_json_spec.specs.declared.json_step.JsonStep.{JsonStep}
use Rattle.bcs_display_errors.specs.Pointers.{pointer, pointer_step}

-- one more step is appended
pub step_more : (put : List ℕ) (steps : List JsonStep) (i : ℕ) (x : JsonStep) → i < length steps → x ≡ get_or steps i x
    → (put ++ pointer_step (pointer_step_of x)) ++ pointer (map pointer_step_of (drop (i + 1) steps)) ≡ put ++ pointer (map pointer_step_of (drop i steps))
step_more put steps i x within is =
    append_assoc put _ _
    ∙ ap (λ (left : List JsonStep). put ++ pointer (map pointer_step_of left)) (ap (λ (y : JsonStep). y ∷ drop (i + 1) steps) is ∙ sym (drop_more steps i x within))

pub steps_all : (put : List ℕ) (steps : List JsonStep) (i : ℕ) → length steps ≤ i → put ++ pointer (map pointer_step_of (drop i steps)) ≡ put
steps_all put steps i past = ap (λ (left : List JsonStep). put ++ pointer (map pointer_step_of left)) (drop_of_length-le steps past) ∙ append-nil put
