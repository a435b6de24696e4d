-- The effect of reading one block.
use Rattle.std.specs.Prelude.{◌≡◌, ◌≤◌, ℕ, Bool, false, List, [], ◌++◌, length, Option, Result, Ok, Err}
use Rattle.std.specs.Io.KnownBytes.{IsAtEnd}
use Rattle.bcs_io.specs.Giving.{Gave, GaveThenFailed}
use Rattle.bcs_io.specs.Lines.{block_size}
use Rattle.bcs_io.specs.declared.next_fault.NextFault.{NextFault}
use Rattle.bcs_io.specs.declared.next_fault.NextFault.TheVariants.{Read, TooLong, OutOfMemory}

module _ {S : Type 0} (content : S → Option (List ℕ)) (is_failed : S → Bool) (allowance : S → ℕ) where
  -- these bytes were read, and appended to the rest
  pub record GivesBlock (old new : S) (before after : List ℕ) (count : ℕ) : Type 0 where
    pub given : List ℕ
    pub took : Gave content is_failed allowance old new given
    pub works : is_failed new ≡ false
    pub rest : after ≡ before ++ given
    pub many : length given ≡ count
    pub within : count ≤ block_size
    pub ends : count ≡ 0 → IsAtEnd (content new)

  pub record FailsAtBlock (old new : S) (before after : List ℕ) : Type 0 where
    pub lost : GaveThenFailed content is_failed allowance old new []
    pub rest : after ≡ before

  pub record LosesBlock (old new : S) : Type 0 where
    pub given : List ℕ
    pub took : Gave content is_failed allowance old new given
    pub works : is_failed new ≡ false
    pub within : length given ≤ block_size

  abbrev pub ReadsBlock : S → S → List ℕ → List ℕ → Result ℕ NextFault → Type 0
  ReadsBlock old new before after (Ok count) = GivesBlock old new before after count
  ReadsBlock old new before after (Err Read) = FailsAtBlock old new before after
  ReadsBlock old new before after (Err TooLong) = ⊥
  ReadsBlock old new before after (Err OutOfMemory) = LosesBlock old new
