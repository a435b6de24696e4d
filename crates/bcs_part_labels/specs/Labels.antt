-- Labels: the text that is printed for the name of a field or a variant.
use Rattle.std.specs.Prelude.{◌==◌, ◌||◌, ◌&&◌, ◌++◌, nat_le, not, ℕ, List, [], ◌∷◌, Bool, true, false, if◌then◌else◌}
use Rattle.bcs_display_text.specs.Escaped.{escaped}

-- a step begins with `.`, `:`, `?` or `[`
abbrev pub is_mark : ℕ → Bool
is_mark c = c == 46 || c == 58 || c == 63 || c == 91

-- `!`, `*`, `=`, `\` and `]`
abbrev pub is_reserved : ℕ → Bool
is_reserved c = c == 33 || c == 42 || c == 61 || c == 92 || c == 93

-- printable ASCII except for the blank, `"`, and what begins a step or is reserved
abbrev pub is_plain_byte : ℕ → Bool
is_plain_byte c = nat_le 33 c && nat_le c 126 && not (is_mark c || c == 34 || is_reserved c)

abbrev pub are_plain : List ℕ → Bool
are_plain [] = true
are_plain (c ∷ cs) = is_plain_byte c && are_plain cs

abbrev pub is_plain : List ℕ → Bool
is_plain [] = false
is_plain (c ∷ cs) = are_plain (c ∷ cs)

-- a plain name is its own label; any other is written as a JSON string in ASCII
abbrev pub label : List ℕ → List ℕ
label name = if is_plain name then name else (34 ∷ []) ++ escaped name ++ 34 ∷ []
