-- ULEB128, in which BCS encodes lengths and variant numbers (BCS specification): seven bits of the number in each byte,
-- lowest first, with the high bit set in every byte except the last. Numbers are 0 to 4294967295, in shortest form.
use Rattle.std.specs.Prelude.{◌≡◌, ℕ, zero, suc, ◌+◌, ◌/◌, ◌%◌, ◌<◌, ◌≤◌, List, [], ◌∷◌, ◌++◌, length, nat_lt, if◌then◌else◌}
use Rattle.std.specs.List.{All}

-- the bytes of n, with at most k groups of seven bits after the lowest
abbrev pub groups : ℕ → ℕ → List ℕ
groups zero n = n ∷ []
groups (suc k) n = if nat_lt n 128 then n ∷ [] else (128 + n % 128) ∷ groups k (n / 128)

-- n itself if it is below 128; otherwise the lowest seven bits of n with the high bit set, followed by the bytes of n /
-- 128. The bound n on the number of groups is never reached: the law `UlebByBytes` states the same without a bound.
unfoldable pub uleb : ℕ → List ℕ
uleb n = groups n n

-- the number continues after this byte
abbrev pub HasHighBit : ℕ → Type 0
HasHighBit byte = 128 ≤ byte

-- ---- when bytes don't start with a number

-- the bytes end inside the number: fewer than five, each with the high bit
pub record IsUnended (bytes : List ℕ) : Type 0 where
  pub short : length bytes < 5
  pub high : All HasHighBit bytes

-- the number has a shorter form: one to four bytes with the high bit, followed by 00
pub record IsLongForm (bytes : List ℕ) : Type 0 where
  pub front : List ℕ
  pub rest : List ℕ
  pub high : All HasHighBit front
  pub some : 0 < length front
  pub short : length front < 5
  pub is : bytes ≡ front ++ (0 ∷ rest)

-- the number is above 4294967295: four bytes with the high bit, followed by one above 0F
pub record IsTooLarge (bytes : List ℕ) : Type 0 where
  pub front : List ℕ
  pub last : ℕ
  pub rest : List ℕ
  pub high : All HasHighBit front
  pub four : length front ≡ 4
  pub above : 15 < last
  pub is : bytes ≡ front ++ (last ∷ rest)
