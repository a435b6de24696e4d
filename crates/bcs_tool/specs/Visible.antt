-- Text that may contain user input, in a form that is safe to display on a terminal.
use Rattle.std.specs.Prelude.{ℕ, ◌+◌, ◌-◌, ◌/◌, ◌%◌, ◌==◌, ◌||◌, ◌&&◌, Bool, true, false, codes, not, nat_le, nat_lt, if◌then◌else◌, List, ◌++◌, chars, flat_map, encode_utf8}
use Rattle.std.specs.List.{list_any}
use Rattle.std.specs.Char.{is_control}
use Rattle.bcs_display_text.specs.Escaped.{numbered}

-- whether a character is in this range, which includes both ends
abbrev pub is_between : ℕ → ℕ → ℕ → Bool
is_between first last c = nat_le first c && nat_le c last

-- a character that changes the direction of text, has no width, or separates lines
unfoldable pub misleads : ℕ → Bool
misleads c = c == 0xad || (c == 0x61c || (is_between 0x200b 0x200f c || (is_between 0x2028 0x202e c || (is_between 0x2060 0x206f c
    || (c == 0xfeff || (is_between 0xfff9 0xfffb c || is_between 0xe0000 0xe0fff c))))))

-- a character that is escaped: one of these, or a control character, except for a line feed if lines are kept
unfoldable pub is_hidden : Bool → ℕ → Bool
is_hidden keeps_lines c = if c == 10 then not keeps_lines else (is_control c || misleads c)

-- the escape of a character: the numbers of its UTF-16 units
unfoldable pub escape : ℕ → List ℕ
escape c = if nat_lt c 0x10000 then numbered c else numbered (0xd800 + (c - 0x10000) / 0x400) ++ numbered (0xdc00 + (c - 0x10000) % 0x400)

unfoldable pub visible_char : Bool → ℕ → List ℕ
visible_char keeps_lines c = if is_hidden keeps_lines c then escape c else encode_utf8 c

-- a text with its hidden characters escaped
unfoldable pub visible : Bool → List ℕ → List ℕ
visible keeps_lines text = flat_map (visible_char keeps_lines) (chars text)

-- whether an argument contains a line feed, and so could forge a line
abbrev pub breaks_lines : List (List ℕ) → Bool
breaks_lines words = list_any (λ word. list_any (λ b. b == 10) word) words

-- a usage text as it is written: with its line feeds, or as one line
abbrev pub usage_text : Bool → List ℕ → List ℕ
usage_text keeps_lines text = if keeps_lines then visible true text else visible false text ++ codes "\n"
