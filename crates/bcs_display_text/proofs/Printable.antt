-- Escaped text is printable ASCII.
use Rattle.std.proofs.Common.{◌≡◌, ◌⊎◌, ℕ, ◌/◌, ◌%◌, ◌≤◌, Bool, true, ◌&&◌, List, [], ◌∷◌, arith, inl, inr, refl, flat_map, nat_le}
use Rattle.std.specs.List.{All}
use Rattle.std.proofs.lemmas.Bool.{and_parts, cases_eq, cases_lt, leb-true}
use Rattle.std.proofs.lemmas.List.Elements.{All-nil, All-append, All-from_recursion, All-get_or}
use Rattle.std.proofs.lemmas.List.Sums.{AllPass-from_list_all}
use Rattle.hex.specs.Hex.{lower_digits}
use Rattle.bcs_display_text.specs.Escaped.{escaped, escaped_unit, last_digit, numbered, utf16_units}
use Rattle.bcs_display_text.specs.Laws.{EscapedIsPrintable}
use Rattle.bcs_display_text.proofs.EscapedUnits.{escaped_high, escaped_low, escaped_marked, escaped_plain}

abbrev IsPrintable : ℕ → Type 0
IsPrintable byte = (32 ≤ byte) × (byte ≤ 126)

-- `IsPrintable` as a computable test
abbrev is_printable : ℕ → Bool
is_printable byte = nat_le 32 byte && nat_le byte 126

from_test : (byte : ℕ) → is_printable byte ≡ true → IsPrintable byte
from_test byte passes =
    let parts = and_parts (nat_le 32 byte) (nat_le byte 126) passes in
    (leb-true 32 byte parts.0, leb-true byte 126 parts.1)

printable_digit : (n : ℕ) → IsPrintable (last_digit n)
printable_digit n =
    from_test (last_digit n)
    (All-get_or (λ byte. is_printable byte ≡ true) lower_digits (n % 16) 0 (omega arith) (AllPass-from_list_all is_printable lower_digits refl))

printable_numbered : (unit : ℕ) → All IsPrintable (numbered unit)
unfolding numbered
printable_numbered unit =
    All-from_recursion IsPrintable
    (92 ∷ 117 ∷ last_digit (unit / 4096) ∷ last_digit (unit / 256) ∷ last_digit (unit / 16) ∷ last_digit unit ∷ [])
    (from_test 92 refl, (from_test 117 refl, (printable_digit (unit / 4096), (printable_digit (unit / 256), (printable_digit (unit / 16), (printable_digit unit, tt))))))

printable_marked : (unit : ℕ) → (unit ≡ 34) ⊎ (unit ≡ 92) → All IsPrintable (escaped_unit unit)
printable_marked unit is =
    rw (escaped_marked unit is) (All-from_recursion IsPrintable (92 ∷ unit ∷ []) (from_test 92 refl, ((omega (arith, is), omega (arith, is)), tt)))

printable_plain : (unit : ℕ) → 32 ≤ unit → unit ≤ 126 → (unit ≡ 34 → ⊥) → (unit ≡ 92 → ⊥) → All IsPrintable (escaped_unit unit)
printable_plain unit from to no_quote no_backslash =
    rw (escaped_plain unit from to no_quote no_backslash) (All-from_recursion IsPrintable (unit ∷ []) ((from, to), tt))

printable_unit : (unit : ℕ) → All IsPrintable (escaped_unit unit)
printable_unit unit = elim (cases_lt unit 32) [
  | inl low ↦ rw (escaped_low unit low) (printable_numbered unit)
  | inr from ↦ elim (cases_lt 126 unit) [
    | inl high ↦ rw (escaped_high unit high) (printable_numbered unit)
    | inr to ↦ elim (cases_eq unit 34) [
      | inl quote ↦ printable_marked unit (inl quote)
      | inr no_quote ↦ elim (cases_eq unit 92) [
        | inl backslash ↦ printable_marked unit (inr backslash)
        | inr no_backslash ↦ printable_plain unit from to no_quote no_backslash
      ]
    ]
  ]
]

printable_units : (units : List ℕ) → All IsPrintable (flat_map escaped_unit units)
printable_units [] = All-nil IsPrintable
printable_units (unit ∷ units) = All-append IsPrintable (escaped_unit unit) _ (printable_unit unit) (printable_units units)

pub escaped_is_printable : EscapedIsPrintable
unfolding escaped
escaped_is_printable text = printable_units (utf16_units text)
