-- The steps that a PATH argument spells.
use Rattle.std.specs.Prelude.{◌≡◌, ◌<◌, ◌^◌, ◌++◌, ℕ, List, [], ◌∷◌, Ok, codes}
use Rattle.std.specs.Fmt.{decimal}
use Rattle.std.specs.List.{AllZip, join_with_byte}
use Rattle.hex.specs.Hex.{decode_of}
use Rattle.bcs_decode_parts.specs.Parts.{Step, item, inner, key}

-- a plain decimal number below 2^64, `inner`, or `key:` and two hexadecimal digits, in either case, for each byte
abbrev pub SpellsStep : List ℕ → Step → Type 0
SpellsStep text (item n) = (text ≡ decimal n) × (n < 2 ^ 64)
SpellsStep text inner = text ≡ codes "inner"
SpellsStep text (key bytes) = (digits : List ℕ) × (text ≡ codes "key:" ++ digits) × (decode_of digits ≡ Ok bytes)

-- `.` is the empty path, which leads to the whole value; other paths are steps, joined by `/`
abbrev pub SpellsPath : List ℕ → List Step → Type 0
SpellsPath word [] = word ≡ codes "."
SpellsPath word (s ∷ path) = (texts : List (List ℕ)) × (word ≡ join_with_byte 47 texts) × AllZip SpellsStep texts (s ∷ path)

-- the word isn't a path
abbrev pub SpellsNoPath : List ℕ → Type 0
SpellsNoPath word = (path : List Step) → SpellsPath word path → ⊥
