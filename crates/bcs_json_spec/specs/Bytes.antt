-- Bytes as hexadecimal digits, and as lists of integers.
use Rattle.std.specs.Prelude.{◌≡◌, ℕ, List, [], ◌∷◌, Bool, true, false, Ok}
use Rattle.std.specs.Int.{w8}
use Rattle.hex.specs.Hex.{decode_of}
use Rattle.bcs_registry_model.specs.Shape.{Shape, unsigned as unsigned_shape}
use Rattle.bcs_value_model.specs.Tree.{unsigned, Trees, no_trees, tree}

-- two hexadecimal digits for each byte, in either case
abbrev pub IsHexOf : List ℕ → List ℕ → Type 0
IsHexOf s b = decode_of s ≡ Ok b

-- the format `U8` itself, and not a container whose content it is
abbrev pub is_byte : Shape → Bool
is_byte (unsigned_shape w8) = true
is_byte _ = false

-- each byte as an integer
abbrev pub byte_trees : List ℕ → Trees
byte_trees [] = no_trees
byte_trees (b ∷ bs) = tree (unsigned b) (byte_trees bs)

-- the bytes of a list of integers
abbrev pub trees_bytes : Trees → List ℕ
trees_bytes no_trees = []
trees_bytes (tree (unsigned b) ts) = b ∷ trees_bytes ts
trees_bytes (tree _ ts) = 0 ∷ trees_bytes ts

-- hexadecimal digits spell a list of bytes, if its elements are bytes
abbrev pub ByteTextSpells : Bool → List ℕ → Trees → Type 0
ByteTextSpells true s ts = (b : List ℕ) × IsHexOf s b × (ts ≡ byte_trees b)
ByteTextSpells false s ts = ⊥
