-- The appended part of a name, followed by the rest of it.
use Rattle.std.proofs.Common.{◌≡◌, ◌∙◌, ℕ, ◌+◌, ◌<◌, ◌≤◌, List, ◌++◌, ap, sym, drop, drop_of_length-le, get_or, length, append_assoc, append-nil}
use Rattle.std.proofs.lemmas.List.{drop_more}
use Rattle.bcs_display_mistakes.specs.Marked.{marked, marked_sign}

-- one more byte is appended
pub sign_more : (put name : List ℕ) (i d : ℕ) → i < length name
    → (put ++ marked_sign (get_or name i d)) ++ marked (drop (i + 1) name) ≡ put ++ marked (drop i name)
sign_more put name i d within = append_assoc put _ _ ∙ ap (λ (left : List ℕ). put ++ marked left) (sym (drop_more name i d within))

pub signs_all : (put name : List ℕ) (i : ℕ) → length name ≤ i → put ++ marked (drop i name) ≡ put
signs_all put name i past = ap (λ (left : List ℕ). put ++ marked left) (drop_of_length-le name past) ∙ append-nil put
