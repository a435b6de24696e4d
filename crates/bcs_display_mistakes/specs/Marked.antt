-- A name in a JSON Pointer (RFC 6901).
use Rattle.std.specs.Prelude.{◌==◌, ℕ, List, [], ◌∷◌, flat_map, if◌then◌else◌}

-- a byte of a name; `~` and `/` are escaped as two bytes
abbrev pub marked_sign : ℕ → List ℕ
marked_sign b = if b == 126 then 126 ∷ 48 ∷ [] else (if b == 47 then 126 ∷ 49 ∷ [] else b ∷ [])

abbrev pub marked : List ℕ → List ℕ
marked = flat_map marked_sign
