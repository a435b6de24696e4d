-- The order of entries by the bytes of their keys, as a test.
use Rattle.std.specs.Prelude.{ℕ, Bool, true, false, ◌||◌, ◌&&◌, List, [], ◌∷◌}
use Rattle.std.specs.Str.{bytes_eq}
use Rattle.std.specs.Ordering.{nat_cmp, is_lt}
use Rattle.std.specs.Cmp.Lexicographic.{slice_cmp}
use Rattle.bcs_encode_spec.specs.Entries.{Entry}

abbrev pub is_below : List ℕ → List ℕ → Bool
is_below a b = is_lt (slice_cmp nat_cmp a b)

-- two neighbours have the same key
abbrev pub has_equal_neighbours : List Entry → Bool
has_equal_neighbours [] = false
has_equal_neighbours (e ∷ []) = false
has_equal_neighbours (e ∷ d ∷ es) = bytes_eq e.0 d.0 || has_equal_neighbours (d ∷ es)

-- the keys ascend
abbrev pub keys_rise : List Entry → Bool
keys_rise [] = true
keys_rise (e ∷ []) = true
keys_rise (e ∷ d ∷ es) = is_below e.0 d.0 && keys_rise (d ∷ es)
