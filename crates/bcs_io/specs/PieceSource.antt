-- A source that returns its bytes in pieces, as contracts see it.
use Rattle.std.specs.Prelude.{◌≡◌, ℕ, ◌+◌, ◌⊎◌, Bool, true, List, Option, Some, length, min, drop}
use Rattle.std.specs.Io.Iter.{u64_saturate}
use Rattle.bcs_io.specs.Calls.{one_fewer}

pub record State : Type 0 where
  -- the remaining bytes
  pub rest : List ℕ
  -- the number of bytes returned so far
  pub given : ℕ
  -- the greatest number of bytes that one call returns
  pub piece : ℕ
  -- the number of calls before the one that was chosen to fail
  pub calls_left : Option ℕ
  -- whether a call has failed
  pub is_failed : Bool

-- the number of bytes that it can still return
abbrev pub allowance_of : State → ℕ
allowance_of s = u64_saturate (length s.rest)

-- the next call fails: after a failure, or as the chosen call
abbrev pub Fails : State → Type 0
Fails s = (s.is_failed ≡ true) ⊎ (s.calls_left ≡ Some 0)

-- the number of bytes that the next call returns, unless it fails: limited by the remaining bytes, the piece size, and
-- the length of the buffer (room)
abbrev pub share : State → ℕ → ℕ
share s room = min (length s.rest) (min s.piece room)

-- the source after a call that returned count bytes
abbrev pub after_giving : State → ℕ → State
after_giving s count = record s {
  rest = drop count s.rest;
  given = s.given + count;
  calls_left = one_fewer s.calls_left;
}

-- the source after a call that failed
abbrev pub after_failing : State → State
after_failing s = record s { is_failed = true }
