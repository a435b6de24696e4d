-- Escaped text, unit by unit.
use Rattle.std.proofs.Common.{◌≡◌, ◌∙◌, ◌⊎◌, ℕ, ◌/◌, ◌%◌, ◌<◌, ◌≤◌, List, [], ◌∷◌, ◌++◌, IsUtf8, Some, None, ap, refl, sym, subst, length, arith, inl, inr, append_assoc, append-nil, flat_map}
use Rattle.std.specs.Char.Escape.{encode_utf16}
use Rattle.std.specs.Int.{to_be_bytes, w16}
use Rattle.std.specs.Str.Iter.{encode_utf16_pending, encode_utf16_rest, encode_utf16_steps}
use Rattle.std.specs.declared.str.EncodeUtf16.{EncodeUtf16}
use Rattle.std.proofs.lemmas.Str.{IsUtf8-past_char, chars_past_char, chars-nil}
use Rattle.hex.specs.Hex.{encode_lower, encode_with}
use Rattle.bcs_display_text.specs.Escaped.{escaped, escaped_unit, numbered, utf16_units}

-- ---- one unit

pub escaped_marked : (unit : ℕ) → (unit ≡ 34) ⊎ (unit ≡ 92) → escaped_unit unit ≡ 92 ∷ unit ∷ []
unfolding escaped_unit
escaped_marked unit is = grind arith

pub escaped_plain : (unit : ℕ) → 32 ≤ unit → unit ≤ 126 → (unit ≡ 34 → ⊥) → (unit ≡ 92 → ⊥) → escaped_unit unit ≡ unit ∷ []
unfolding escaped_unit
escaped_plain unit from to no_quote no_backslash = grind arith

pub escaped_low : (unit : ℕ) → unit < 32 → escaped_unit unit ≡ numbered unit
unfolding escaped_unit
escaped_low unit low = grind arith

pub escaped_high : (unit : ℕ) → 126 < unit → escaped_unit unit ≡ numbered unit
unfolding escaped_unit
escaped_high unit high = grind arith

-- the hexadecimal digits of the two big-endian bytes of a unit are its four digits
pub numbered_digits : (unit : ℕ) → 92 ∷ 117 ∷ encode_lower (to_be_bytes w16 unit) ≡ numbered unit
unfolding numbered encode_with
numbered_digits unit =
    let first : unit / 256 % 256 / 16 ≡ unit / 4096 % 16 = omega arith in
    let second : unit / 256 % 256 % 16 ≡ unit / 256 % 16 = omega arith in
    let third : unit % 256 / 16 ≡ unit / 16 % 16 = omega arith in
    let fourth : unit % 256 % 16 ≡ unit % 16 = omega arith in
    rw (first, second, third, fourth) refl

-- ---- the remaining units

abbrev pub units_left : EncodeUtf16 → List ℕ
units_left s = encode_utf16_pending s ++ utf16_units (encode_utf16_rest s)

-- an iterator step removes the first remaining unit, and the rest is still UTF-8
pub unit_taken : (s t : EncodeUtf16) (unit : ℕ) → IsUtf8 (encode_utf16_rest s) → encode_utf16_steps s (Some unit) t
    → IsUtf8 (encode_utf16_rest t) × (units_left s ≡ unit ∷ units_left t)
unit_taken s t unit text (inl (was, now, same)) = (
  subst IsUtf8 (sym same) text,
  ap (λ (u : List ℕ). u ++ utf16_units (encode_utf16_rest s)) was
      ∙ ap (λ (rest : List ℕ). unit ∷ utf16_units rest) (sym same)
      ∙ ap (λ (u : List ℕ). unit ∷ (u ++ utf16_units (encode_utf16_rest t))) (sym now),
)
unit_taken s t unit text (inr (was, (c, begins, units))) = (
  IsUtf8-past_char _ _ c text begins,
  ap (λ (u : List ℕ). u ++ utf16_units (encode_utf16_rest s)) was
      ∙ ap (flat_map encode_utf16) (chars_past_char _ _ c text begins)
      ∙ ap (λ (u : List ℕ). u ++ utf16_units (encode_utf16_rest t)) units,
)

no_chars : (text : List ℕ) → length text ≡ 0 → utf16_units text ≡ []
no_chars [] empty = ap (flat_map encode_utf16) chars-nil
no_chars (b ∷ bs) empty = absurd (omega arith)

pub units_ended : (s t : EncodeUtf16) → encode_utf16_steps s None t → units_left s ≡ []
units_ended s t (was, empty, same) = ap (λ (u : List ℕ). u ++ utf16_units (encode_utf16_rest s)) was ∙ no_chars _ empty

-- before the first step, the remaining units are those of the whole text
pub units_begin : (s : EncodeUtf16) (text : List ℕ) → encode_utf16_rest s ≡ text → encode_utf16_pending s ≡ [] → flat_map escaped_unit (units_left s) ≡ escaped text
unfolding escaped
units_begin s text rest pending =
    ap (λ (u : List ℕ). flat_map escaped_unit (u ++ utf16_units (encode_utf16_rest s))) pending
    ∙ ap (λ (u : List ℕ). flat_map escaped_unit (utf16_units u)) rest

-- appending a unit doesn't change the concatenation of the output and the remaining units
pub units_more : (s t : EncodeUtf16) (unit : ℕ) (put : List ℕ) → units_left s ≡ unit ∷ units_left t
    → (put ++ escaped_unit unit) ++ flat_map escaped_unit (units_left t) ≡ put ++ flat_map escaped_unit (units_left s)
units_more s t unit put taken = append_assoc put _ _ ∙ ap (λ (u : List ℕ). put ++ flat_map escaped_unit u) (sym taken)

-- after the last step no unit remains
pub units_done : (s t : EncodeUtf16) (put : List ℕ) → encode_utf16_steps s None t → put ++ flat_map escaped_unit (units_left s) ≡ put
units_done s t put ends = ap (λ (u : List ℕ). put ++ flat_map escaped_unit u) (units_ended s t ends) ∙ append-nil put
