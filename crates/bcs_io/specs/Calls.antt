-- Calls, one of which was chosen to fail.
use Rattle.std.specs.Prelude.{ℕ, ◌-◌, Option, option_map}

-- one call fewer, if the calls are counted
abbrev pub one_fewer : Option ℕ → Option ℕ
one_fewer calls = option_map (λ n. n - 1) calls
