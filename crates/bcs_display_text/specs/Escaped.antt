-- Text escaped for a JSON string, in ASCII (RFC 8259, section 7).
use Rattle.std.specs.Prelude.{ℕ, ◌/◌, ◌%◌, ◌==◌, ◌&&◌, ◌||◌, nat_le, if◌then◌else◌, List, [], ◌∷◌, chars, flat_map, slice_index}
use Rattle.std.specs.Char.Escape.{encode_utf16}
use Rattle.hex.specs.Hex.{lower_digits}

-- the UTF-16 units of the characters of `text`, concatenated
abbrev pub utf16_units : List ℕ → List ℕ
utf16_units text = flat_map encode_utf16 (chars text)

-- the last hexadecimal digit of a number
abbrev pub last_digit : ℕ → ℕ
last_digit n = slice_index lower_digits (n % 16)

-- `\u` and four hexadecimal digits
unfoldable pub numbered : ℕ → List ℕ
numbered unit = 92 ∷ 117 ∷ last_digit (unit / 4096) ∷ last_digit (unit / 256) ∷ last_digit (unit / 16) ∷ last_digit unit ∷ []

-- `"` and `\` follow a `\`; the rest of printable ASCII is unchanged; other units are written as `\u` and four digits
unfoldable pub escaped_unit : ℕ → List ℕ
escaped_unit unit = if unit == 34 || unit == 92 then 92 ∷ unit ∷ []
    else if nat_le 32 unit && nat_le unit 126 then unit ∷ []
    else numbered unit

-- all units of the text escaped, concatenated
unfoldable pub escaped : List ℕ → List ℕ
escaped text = flat_map escaped_unit (utf16_units text)
