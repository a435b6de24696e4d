-- Which texts are JSON Pointers (RFC 6901).
use Rattle.std.specs.Prelude.{◌==◌, ◌||◌, ◌&&◌, ℕ, List, [], ◌∷◌, Bool, true, false, not}

-- a `0` or a `1` follows each tilde; also, if so, one that comes directly before the text
abbrev pub are_marked : Bool → List ℕ → Bool
are_marked after [] = not after
are_marked true (c ∷ cs) = (c == 48 || c == 49) && are_marked false cs
are_marked false (c ∷ cs) = are_marked (c == 126) cs

-- the text is a JSON Pointer: empty, or steps with a `/` before each of them
abbrev pub is_pointer : List ℕ → Bool
is_pointer [] = true
is_pointer (c ∷ cs) = c == 47 && are_marked false cs
