-- Limits on the size of a value.
use Rattle.std.specs.Prelude.{ℕ}

pub record Bounds : Type 0 where
  -- the greatest number of containers open at once
  pub depth : ℕ
  -- the greatest number of nodes
  pub nodes : ℕ
