-- The effect of reading the next line, on the source and on the buffer.
use Rattle.std.specs.Prelude.{◌≡◌, ◌≢◌, ◌⊎◌, ℕ, ◌+◌, ◌<◌, ◌≤◌, Bool, false, List, [], ◌∷◌, ◌++◌, length, take, Option}
use Rattle.std.specs.Io.KnownBytes.{IsAtEnd}
use Rattle.bcs_io.specs.Giving.{Gave, GaveThenFailed}
use Rattle.bcs_io.specs.Held.{HeldLine}
use Rattle.bcs_io.specs.Lines.{HasNoLineFeed, before_block, block_size}

module _ {S : Type 0} (content : S → Option (List ℕ)) (is_failed : S → Bool) (allowance : S → ℕ) where
  -- these bytes are the last line, and the content ends after them
  pub record IsLastLine (new : S) (bytes : List ℕ) (after : HeldLine) : Type 0 where
    pub line : bytes ≡ after.line
    pub some : after.line ≢ []
    pub rest : after.rest ≡ []
    pub ends : IsAtEnd (content new)
    pub works : is_failed new ≡ false

  -- the rest and the bytes read start with the line and a line feed, or they are the last line
  pub record TakesLine (limit : ℕ) (old new : S) (before after : HeldLine) : Type 0 where
    pub given : List ℕ
    pub took : Gave content is_failed allowance old new given
    pub plain : HasNoLineFeed after.line
    pub within : length after.line ≤ limit
    pub parts : (before.rest ++ given ≡ after.line ++ 10 ∷ after.rest) ⊎ IsLastLine new (before.rest ++ given) after
    -- less than a block remains, because no block is requested while a line is left
    pub ahead : HasNoLineFeed (before_block before.rest) → length after.rest < block_size

  -- no bytes remain, in the buffer or in the source
  pub record HasNoLine (old new : S) (before after : HeldLine) : Type 0 where
    pub none_left : before.rest ≡ []
    pub took : Gave content is_failed allowance old new []
    pub ends : IsAtEnd (content new)
    pub works : is_failed new ≡ false
    pub line : after.line ≡ []
    pub rest : after.rest ≡ []

  -- a call failed before the line was complete; the bytes read so far are kept
  pub record FailsInLine (limit : ℕ) (old new : S) (before after : HeldLine) : Type 0 where
    pub given : List ℕ
    pub lost : GaveThenFailed content is_failed allowance old new given
    pub plain : HasNoLineFeed (before.rest ++ given)
    pub within : length (before.rest ++ given) ≤ limit
    pub kept : after.rest ≡ before.rest ++ given

  -- the line has more bytes than the limit; the bytes read so far are kept
  pub record IsTooLong (limit : ℕ) (old new : S) (before after : HeldLine) : Type 0 where
    pub given : List ℕ
    pub took : Gave content is_failed allowance old new given
    pub longer : limit < length (before.rest ++ given)
    pub plain : HasNoLineFeed (take (limit + 1) (before.rest ++ given))
    pub kept : after.rest ≡ before.rest ++ given
    pub ahead : HasNoLineFeed (before_block before.rest) → HasNoLineFeed (before_block (before.rest ++ given))

  -- an allocation failed for the last block; no complete line comes before that block
  pub record RunsOut (old new : S) (before : HeldLine) : Type 0 where
    pub given : List ℕ
    pub took : Gave content is_failed allowance old new given
    pub works : is_failed new ≡ false
    pub ahead : HasNoLineFeed (before_block (before.rest ++ given))
