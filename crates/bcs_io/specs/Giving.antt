-- The effect of calls on the remaining bytes of a source.
use Rattle.std.specs.Prelude.{◌≡◌, ℕ, ◌+◌, ◌<◌, ◌≤◌, Bool, true, false, List, [], length, take, Option, Result, Ok, Err}
use Rattle.std.specs.Io.KnownBytes.{Consumes, IsAtEnd}

module _ {S : Type 0} (content : S → Option (List ℕ)) (is_failed : S → Bool) (allowance : S → ℕ) where
  -- exactly these bytes were returned, in any number of calls, none of which failed
  pub record Gave (old new : S) (bytes : List ℕ) : Type 0 where
    pub front : Consumes (content old) (content new) bytes
    pub kept : is_failed new ≡ is_failed old
    pub less : length bytes + allowance new ≤ allowance old

  -- exactly these bytes were returned, and then a call failed
  pub record GaveThenFailed (old new : S) (bytes : List ℕ) : Type 0 where
    pub front : Consumes (content old) (content new) bytes
    pub after : is_failed new ≡ true
    pub less : length bytes + allowance new ≤ allowance old

  -- the effect of a call, which leaves buf in the buffer: its first n bytes were returned, and n is 0 only at the end
  -- of the content or if the buffer is empty; or it fails and returns nothing, as every call does after one has failed
  abbrev pub Gives : {E : Type 0} → S → S → Result ℕ E → List ℕ → Type 0
  Gives old new (Ok n) buf =
      (n ≤ length buf) × (is_failed old ≡ false) × Gave old new (take n buf) × (n ≡ 0 → 0 < length buf → IsAtEnd (content new))
  Gives old new (Err e) buf = GaveThenFailed old new []
