-- The lines of a text.
use Rattle.std.specs.Prelude.{◌≡◌, ℕ, suc, ◌-◌, ◌==◌, false, if◌then◌else◌, List, [], ◌∷◌, length, take}
use Rattle.std.specs.List.{list_any}

-- prepends a byte to the first line
abbrev pub onto : ℕ → List (List ℕ) → List (List ℕ)
onto c [] = (c ∷ []) ∷ []
onto c (l ∷ ls) = (c ∷ l) ∷ ls

-- each line feed ends a line; if anything follows the last line feed, it is one more line
abbrev pub lines_of : List ℕ → List (List ℕ)
lines_of [] = []
lines_of (c ∷ cs) = if c == 10 then [] ∷ lines_of cs else onto c (lines_of cs)

-- no byte is a line feed
abbrev pub HasNoLineFeed : List ℕ → Type 0
HasNoLineFeed bytes = list_any (λ c. c == 10) bytes ≡ false

-- the number of line feeds
abbrev pub line_feeds : List ℕ → ℕ
line_feeds [] = 0
line_feeds (c ∷ cs) = if c == 10 then suc (line_feeds cs) else line_feeds cs

-- the number of bytes requested from a source at a time
abbrev pub block_size : ℕ
block_size = 65536

-- all bytes except the last block
abbrev pub before_block : List ℕ → List ℕ
before_block bytes = take (length bytes - block_size) bytes
