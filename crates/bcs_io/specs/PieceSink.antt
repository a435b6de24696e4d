-- A sink that accepts its bytes in pieces, as contracts see it.
use Rattle.std.specs.Prelude.{◌≡◌, ℕ, ◌-◌, ◌<◌, ◌⊎◌, ◌++◌, Bool, true, List, Option, Some, length, min}
use Rattle.bcs_io.specs.Calls.{one_fewer}

pub record State : Type 0 where
  -- the bytes accepted so far
  pub taken : List ℕ
  -- the greatest number of bytes that one call accepts
  pub piece : ℕ
  -- the number of calls before the one that was chosen to fail
  pub calls_left : Option ℕ
  -- whether a call has failed
  pub is_failed : Bool

-- the next call fails, for a sink with this capacity: after a failure, as the chosen call, or with bytes when it is
-- full
abbrev pub Fails : ℕ → State → List ℕ → Type 0
Fails capacity s bytes =
    (s.is_failed ≡ true) ⊎ ((s.calls_left ≡ Some 0) ⊎ ((length s.taken ≡ capacity) × (0 < length bytes)))

-- the number of bytes that the next call accepts, unless it fails: limited by the piece size and by the free space
abbrev pub share : ℕ → State → List ℕ → ℕ
share capacity s bytes = min (length bytes) (min s.piece (capacity - length s.taken))

-- the sink after a call that accepted these bytes
abbrev pub after_taking : State → List ℕ → State
after_taking s bytes = record s { taken = s.taken ++ bytes; calls_left = one_fewer s.calls_left }

-- the sink after a call that failed
abbrev pub after_failing : State → State
after_failing s = record s { is_failed = true }
