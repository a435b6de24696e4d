-- An input either gives bytes or is invalid.
use Rattle.bcs_tool_answers.proofs.Prelude.{◌≡◌, ◌∙◌, ◌<◌, ◌⊎◌, inl, inr, ℕ, List, Result, Ok, Err, refl, sym, All-from_get_or, decode_of-ok, decode_of, FromHexError, AreBytes, IsHexOf, GivesBytes, without_blanks, Coding, Hexadecimal, Base64, Raw}
use Rattle.bcs_tool_answers.proofs.Base64Lemmas.{some_base64}

-- a text either is the hexadecimal of some bytes or is invalid
digits : (text : List ℕ) → ((b : List ℕ) × AreBytes b × IsHexOf text b) ⊎ ((b : List ℕ) → IsHexOf text b → ⊥)
digits text = at (decode_of text) refl
  where
    at : (o : Result (List ℕ) FromHexError) → decode_of text ≡ o → ((b : List ℕ) × AreBytes b × IsHexOf text b) ⊎ ((b : List ℕ) → IsHexOf text b → ⊥)
    at (Ok b) is = inl (b, All-from_get_or (λ x. x < 256) b 0 (λ i within. (decode_of-ok text b is).3 i), is)
    at (Err e) is = inr (λ b h. cc (sym is ∙ h))

-- an input that consists of bytes either gives bytes or is invalid
pub some_given : (input : List ℕ) (coding : Coding) → AreBytes input → ((b : List ℕ) × AreBytes b × GivesBytes coding input b) ⊎ ((b : List ℕ) → GivesBytes coding input b → ⊥)
some_given input Hexadecimal are = digits (without_blanks input)
some_given input Base64 are = elim (some_base64 (without_blanks input)) [
  | inl h ↦ inl (h.0, h.1.0, h.1)
  | inr none ↦ inr none
]
some_given input Raw are = inl (input, are, refl)
