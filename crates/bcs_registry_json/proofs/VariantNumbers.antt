-- Plain decimal strings of numbers that fit into 32 bits.
use Rattle.bcs_registry_json.proofs.Prelude.{◌≡◌, ◌<◌, ◌^◌, ◌∙◌, ℕ, true, bytes_eq, nat_lt, decimal, ap, arith, refl, sym, Decides-ltb, decimal_is_IsNumeral, bytes_eq-Decides, digits_value, is_variant_number}

pub a_number : (n : ℕ) → n < 2 ^ 32 → is_variant_number (decimal n) ≡ true
a_number n small =
    let value : digits_value 10 (decimal n) ≡ n = (decimal_is_IsNumeral n (omega (arith, small))).1 in
    let same : bytes_eq (decimal n) (decimal (digits_value 10 (decimal n))) ≡ true = (bytes_eq-Decides (decimal n) (decimal (digits_value 10 (decimal n)))).1 (ap decimal (sym value)) in
    let fits : nat_lt (digits_value 10 (decimal n)) (2 ^ 32) ≡ true = ap (λ (m : ℕ). nat_lt m (2 ^ 32)) value ∙ (Decides-ltb n (2 ^ 32)).1 small in
    rw (same, fits) refl
