-- The effect of calls on the bytes that a sink has accepted.
use Rattle.std.specs.Prelude.{◌≡◌, ℕ, ◌<◌, ◌≤◌, Bool, true, false, List, [], length, take, Option, Result, Ok, Err}
use Rattle.std.specs.Io.KnownBytes.{Appends}

module _ {K : Type 0} (taken : K → Option (List ℕ)) (is_failed : K → Bool) where
  -- exactly these bytes were accepted, in any number of calls, none of which failed
  pub record Took (old new : K) (bytes : List ℕ) : Type 0 where
    pub appended : Appends (taken old) (taken new) bytes
    pub kept : is_failed new ≡ is_failed old

  -- exactly these bytes were accepted, and then a call failed
  pub record TookThenFailed (old new : K) (bytes : List ℕ) : Type 0 where
    pub appended : Appends (taken old) (taken new) bytes
    pub after : is_failed new ≡ true

  -- the effect of a call with this piece: its first n bytes are accepted, and n is 0 only if the piece is empty; or it
  -- fails and accepts nothing, as every call does after one has failed
  abbrev pub Takes : {E : Type 0} → K → K → List ℕ → Result ℕ E → Type 0
  Takes old new piece (Ok n) =
      (n ≤ length piece) × (0 < length piece → 0 < n) × (is_failed old ≡ false) × Took old new (take n piece)
  Takes old new piece (Err e) = TookThenFailed old new []
