-- A source that repeats one byte, as contracts see it.
use Rattle.std.specs.Prelude.{ℕ, ◌-◌, ◌^◌, List, replicate}

pub record State : Type 0 where
  pub byte : ℕ
  -- the number of bytes returned so far
  pub given : ℕ

-- the number of remaining bytes
abbrev pub allowance_of : State → ℕ
allowance_of s = 2 ^ 64 - 1 - s.given

-- the remaining bytes: too many for a proof to write out, so the definition is unfolded only on request
unfoldable pub rest : State → List ℕ
rest s = replicate (2 ^ 64 - 1 - s.given) s.byte
