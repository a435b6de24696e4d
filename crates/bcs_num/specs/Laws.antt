-- A law about the bytes of numbers.
use Rattle.std.specs.Prelude.{◌≡◌, ℕ, ◌+◌, ◌/◌, ◌%◌, ◌<◌, ◌≤◌, [], ◌∷◌}
use Rattle.bcs_num.specs.Uleb.{uleb}

-- a number below 128 is one byte; for others, the lowest seven bits come first, with the high bit set, followed by the
-- bytes of the number shifted right by seven bits
abbrev pub UlebByBytes : Type 0
UlebByBytes = ((n : ℕ) → n < 128 → uleb n ≡ n ∷ [])
    × ((n : ℕ) → 128 ≤ n → uleb n ≡ (128 + n % 128) ∷ uleb (n / 128))
