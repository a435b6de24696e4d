-- The effect of filling a buffer from a source.
use Rattle.std.specs.Prelude.{ℕ, ◌<◌, ◌≤◌, Bool, List, length, take, Option, Result, Ok, Err}
use Rattle.std.specs.Io.KnownBytes.{IsAtEnd}
use Rattle.bcs_io.specs.Giving.{Gave, GaveThenFailed}

module _ {S : Type 0} (content : S → Option (List ℕ)) (is_failed : S → Bool) (allowance : S → ℕ) where
  -- the first n bytes of buf were read, which is all of buf unless the content has ended; or a call failed
  abbrev pub Fills : {E : Type 0} → S → S → Result ℕ E → List ℕ → Type 0
  Fills old new (Ok n) buf = (n ≤ length buf) × Gave content is_failed allowance old new (take n buf) × (n < length buf → IsAtEnd (content new))
  Fills old new (Err e) buf = (bytes : List ℕ) × GaveThenFailed content is_failed allowance old new bytes
