-- Which JSON spells an integer.
use Rattle.std.specs.Prelude.{◌≡◌, ℕ, zero, suc, ℤ, pos, negsuc, List, [], ◌∷◌, ◌==◌, if◌then◌else◌, Option, Some, None, Bool, false}
use Rattle.std.specs.Fmt.{signed_decimal}
use Rattle.std.specs.Int.{Width}
use Rattle.std.specs.Str.{bytes_eq}
use Rattle.std.specs.Str.Parse.{digits_value}
use Rattle.serde_json.specs.Data.{Data, number, string}
use Rattle.serde_json.specs.Find.{as_integer}
use Rattle.bcs_num.specs.Le.{holds_unsigned, holds_signed}
use Rattle.bcs_json_spec.specs.declared.json_fault.JsonFault.{JsonFault}
use Rattle.bcs_json_spec.specs.declared.json_fault.JsonFault.TheVariants.{BadNumber, BadShape}

-- a number that `serde_json` represents as an integer, or a string in plain decimal: an optional `-`, followed by `0`
-- or by digits without a leading `0`; `-0` isn't plain
abbrev pub SpellsWhole : Data → ℤ → Type 0
SpellsWhole (number n) z = as_integer n ≡ Some z
SpellsWhole (string s) z = s ≡ signed_decimal z
SpellsWhole _ z = ⊥

-- `z` is in the range of an unsigned width
abbrev pub is_unsigned_of : Width → ℤ → Bool
is_unsigned_of w (pos n) = holds_unsigned w n
is_unsigned_of w (negsuc n) = false

-- `z` is in the range of a signed width
abbrev pub is_signed_of : Width → ℤ → Bool
is_signed_of w z = holds_signed w z

-- ---- the same as a function

abbrev pub negated : ℕ → ℤ
negated zero = pos 0
negated (suc n) = negsuc n

-- the value of the digits, after an optional `-`
abbrev pub worth : List ℕ → ℤ
worth [] = pos 0
worth (c ∷ s) = if c == 45 then negated (digits_value 10 s) else pos (digits_value 10 (c ∷ s))

-- the integer that the JSON spells
abbrev pub whole_of : Data → Option ℤ
whole_of (number n) = as_integer n
whole_of (string s) = if bytes_eq s (signed_decimal (worth s)) then Some (worth s) else None
whole_of _ = None

-- why JSON that spells no integer in a range is refused: for its number, or for its kind
abbrev pub whole_refusal : Data → JsonFault
whole_refusal (number n) = BadNumber
whole_refusal (string s) = BadNumber
whole_refusal _ = BadShape
