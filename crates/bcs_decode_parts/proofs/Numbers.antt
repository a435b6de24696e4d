-- The ULEB128 number at the start of some bytes.
use Rattle.bcs_decode_parts.proofs.Prelude.{◌≡◌, ℕ, ◌<◌, ◌≤◌, ◌^◌, List, ◌++◌, length, take, drop, Result, Ok, Err, refl, sym, ap, ◌∙◌, arith, length-append, take_at, drop_at, uleb, NumFault}

module _ (b : List ℕ) (r : Result (ℕ × ℕ) NumFault) (only : (n l : ℕ) → n < 2 ^ 32 → l ≤ length b → take l b ≡ uleb n → r ≡ Ok (n, l)) (n : ℕ) (after : List ℕ) (small : n < 2 ^ 32) (is : b ≡ uleb n ++ after) where
  taken : r ≡ Ok (n, length (uleb n))
  taken = only n (length (uleb n)) small (omega (arith, ap length is, length-append (uleb n) after)) (ap (take (length (uleb n))) is ∙ take_at (uleb n) after (length (uleb n)) refl)

  pub number_found : (k l : ℕ) (rest : List ℕ) → r ≡ Ok (k, l) → rest ≡ drop l b → (k ≡ n) × (rest ≡ after)
  number_found k l rest e back =
      let same : (k, l) ≡ (n, length (uleb n)) = (let both = sym e ∙ taken in cc) in
      let long : l ≡ length (uleb n) = ap (λ (x : ℕ × ℕ). x.1) same in
      (ap (λ (x : ℕ × ℕ). x.0) same, back ∙ ap (λ (x : ℕ). drop x b) long ∙ ap (drop (length (uleb n))) is ∙ drop_at (uleb n) after (length (uleb n)) refl)

  pub number_refused : (e : NumFault) → r ≡ Err e → ⊥
  number_refused e h = let both = sym h ∙ taken in absurd cc
