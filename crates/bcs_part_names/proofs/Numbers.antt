-- Numbers in brackets.
use Rattle.bcs_part_names.proofs.Prelude.{◌≡◌, ◌∙◌, ◌&&◌, ◌<◌, ◌^◌, ℕ, List, Bool, true, false, Some, None, ap, refl, sym, subst, decimal, nat_lt, if◌then◌else◌, Decides-ltb, decimal_is_IsNumeral, bytes_eq-Decides, bytes_eq, digits_value, number_of}

module _ (text : List ℕ) where
  abbrev value : ℕ
  value = digits_value 10 text

  -- a text that is no number below 2^64
  pub number_none : ((n : ℕ) → n < 2 ^ 64 → text ≡ decimal n → ⊥) → number_of text ≡ None
  number_none h = at (bytes_eq text (decimal value)) (nat_lt value (2 ^ 64)) refl refl
    where
      at : (a b : Bool) → bytes_eq text (decimal value) ≡ a → nat_lt value (2 ^ 64) ≡ b → (if a && b then Some value else None) ≡ None
      at false b is small = refl
      at true false is small = refl
      at true true is small = absurd (h value ((Decides-ltb value (2 ^ 64)).0 small) ((bytes_eq-Decides text (decimal value)).0 is))

  pub number_is : (n : ℕ) → n < 2 ^ 64 → text ≡ decimal n → number_of text ≡ Some n
  number_is n small is =
      let same : value ≡ n = ap (digits_value 10) is ∙ (decimal_is_IsNumeral n small).1 in
      let equal : bytes_eq text (decimal value) ≡ true = (bytes_eq-Decides text (decimal value)).1 (is ∙ ap decimal (sym same)) in
      let fits : nat_lt value (2 ^ 64) ≡ true = (Decides-ltb value (2 ^ 64)).1 (subst (λ (m : ℕ). m < 2 ^ 64) (sym same) small) in
      rw (equal, fits) (ap (λ (m : ℕ). Some m) same)
