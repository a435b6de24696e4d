-- Locations with one more step, and in reverse order.
use Rattle.bcs_json_reader.proofs.Prelude.{◌≡◌, ◌∙◌, List, [], ◌∷◌, ◌++◌, map, reverse, refl, ap, sym, reverse-append, map-append, pointer_step_of, JsonStep}

pub steps_more : (inner : List JsonStep) (s : JsonStep) → reverse (map pointer_step_of (inner ++ s ∷ [])) ≡ pointer_step_of s ∷ reverse (map pointer_step_of inner)
steps_more inner s = ap reverse (map-append pointer_step_of inner (s ∷ [])) ∙ reverse-append (map pointer_step_of inner) (pointer_step_of s ∷ [])

pub steps_turned : (inner : List JsonStep) → map pointer_step_of (reverse inner) ≡ reverse (map pointer_step_of inner)
steps_turned [] = refl
steps_turned (s ∷ inner) =
    ap (map pointer_step_of) (reverse-append (s ∷ []) inner) ∙ map-append pointer_step_of (reverse inner) (s ∷ []) ∙ ap (λ ps. ps ++ pointer_step_of s ∷ []) (steps_turned inner)
    ∙ sym (reverse-append (pointer_step_of s ∷ []) (map pointer_step_of inner))
