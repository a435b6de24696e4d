-- Hexadecimal digits, byte by byte.
use Rattle.std.proofs.Common.{◌≡◌, ◌∙◌, ℕ, ◌+◌, ◌<◌, ◌≤◌, List, [], ◌∷◌, ◌++◌, ap, refl, sym, drop, drop_of_length-le, get_or, length, append_assoc, append-nil}
use Rattle.std.proofs.lemmas.List.{drop_more}
use Rattle.hex.specs.Hex.{encode_lower, encode_with}

digits_of_none : encode_lower [] ≡ []
unfolding encode_with
digits_of_none = refl

digits_step : (byte : ℕ) (bytes : List ℕ) → encode_lower (byte ∷ bytes) ≡ encode_lower (byte ∷ []) ++ encode_lower bytes
unfolding encode_with
digits_step byte bytes = refl

-- appending the digits of the next byte doesn't change the concatenation of the output and the remaining digits
pub digits_more : (put bytes : List ℕ) (i d : ℕ) → i < length bytes
    → (put ++ encode_lower (get_or bytes i d ∷ [])) ++ encode_lower (drop (i + 1) bytes) ≡ put ++ encode_lower (drop i bytes)
digits_more put bytes i d within =
    append_assoc put _ _
    ∙ ap (λ (digits : List ℕ). put ++ digits) (sym (digits_step (get_or bytes i d) (drop (i + 1) bytes)) ∙ ap encode_lower (sym (drop_more bytes i d within)))

-- after the last byte no digits remain
pub digits_all : (put bytes : List ℕ) (i : ℕ) → length bytes ≤ i → put ++ encode_lower (drop i bytes) ≡ put
digits_all put bytes i past =
    ap (λ (rest : List ℕ). put ++ encode_lower rest) (drop_of_length-le bytes past) ∙ ap (λ (digits : List ℕ). put ++ digits) digits_of_none ∙ append-nil put
