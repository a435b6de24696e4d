-- Integers from the text of one token.
use Rattle.bcs_json_passing.proofs.Prelude.{◌≡◌, ◌∙◌, ◌<◌, ◌^◌, ℕ, ℤ, pos, negsuc, List, Some, decimal, option_map, refl, ap, arith, signed_decimal, w64, IsSigned, Token, number_of-decimal, number_of-negative, Data, number, unsigned, negative, number_of, SpellsWhole, alone}

pub unsigned_alone : (s : List ℕ) (n : ℕ) → s ≡ decimal n → n < 2 ^ 64 → alone (Token.number s) ≡ Some (number (unsigned n))
unsigned_alone s n is fits = ap (λ t. option_map number (number_of t)) is ∙ ap (option_map number) (number_of-decimal n fits)

pub negative_alone : (s : List ℕ) (n : ℕ) → s ≡ signed_decimal (negsuc n) → n < 2 ^ 63 → alone (Token.number s) ≡ Some (number (negative (negsuc n)))
negative_alone s n is fits = ap (λ t. option_map number (number_of t)) is ∙ ap (option_map number) (number_of-negative n fits)

pub signed_alone : (s : List ℕ) (z : ℤ) → s ≡ signed_decimal z → IsSigned w64 z → (d : Data) × (alone (Token.number s) ≡ Some d) × SpellsWhole d z
signed_alone s (pos n) is h = let fits : n < 2 ^ 64 = omega (arith, h.sfits) in (number (unsigned n), unsigned_alone s n is fits, refl)
signed_alone s (negsuc n) is h = let fits : n < 2 ^ 63 = omega (arith, h.sfits) in (number (negative (negsuc n)), negative_alone s n is fits, refl)
