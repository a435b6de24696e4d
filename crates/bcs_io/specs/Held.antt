-- The contents of a line buffer, as contracts see them.
use Rattle.std.specs.Prelude.{◌≡◌, ℕ, ◌+◌, ◌<◌, List, ◌∷◌, ◌++◌, length, take, drop, Option, MatchOption}
use Rattle.bcs_io.specs.Lines.{HasNoLineFeed}

pub record HeldLine : Type 0 where
  -- the current line
  pub line : List ℕ
  -- the bytes that were read after it
  pub rest : List ℕ

-- the byte at this index is the first line feed
pub record IsFirstLineFeed (bytes : List ℕ) (place : ℕ) : Type 0 where
  pub inside : place < length bytes
  pub parts : bytes ≡ take place bytes ++ 10 ∷ drop (place + 1) bytes
  pub before : HasNoLineFeed (take place bytes)

-- the index of the first line feed, if there is one
abbrev pub FindsLineFeed : List ℕ → Option ℕ → Type 0
FindsLineFeed bytes found = MatchOption found (HasNoLineFeed bytes) (λ place. IsFirstLineFeed bytes place)
