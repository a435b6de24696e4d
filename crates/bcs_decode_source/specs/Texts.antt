-- Validating strings in blocks.
use Rattle.std.specs.Prelude.{ℕ, ◌<◌, ◌≤◌, List, length, take}
use Rattle.std.specs.Str.{IsUtf8}

-- no prefix of these bytes is valid UTF-8, except the empty one
abbrev pub BeginsNoText : List ℕ → Type 0
BeginsNoText s = (n : ℕ) → 0 < n → n ≤ length s → IsUtf8 (take n s) → ⊥
