-- The names of formats without parts, as registries write them.
use Rattle.std.specs.Prelude.{ℕ, List, [], ◌∷◌, Option, Some, None, if◌then◌else◌, codes}
use Rattle.std.specs.Int.{w8, w16, w32, w64, w128}
use Rattle.std.specs.Str.{bytes_eq}
use Rattle.bcs_registry_model.specs.Equality.{same_shape}
use Rattle.bcs_registry_model.specs.Shape.{Shape, unit, truth, unsigned, signed, unsupported, float32, float64, character, text, bytes}

-- each name with its format
abbrev pub format_words : List (List ℕ × Shape)
format_words =
    (codes "UNIT", unit) ∷ (codes "BOOL", truth)
    ∷ (codes "I8", signed w8) ∷ (codes "I16", signed w16) ∷ (codes "I32", signed w32)
    ∷ (codes "I64", signed w64) ∷ (codes "I128", signed w128)
    ∷ (codes "U8", unsigned w8) ∷ (codes "U16", unsigned w16) ∷ (codes "U32", unsigned w32)
    ∷ (codes "U64", unsigned w64) ∷ (codes "U128", unsigned w128)
    ∷ (codes "F32", unsupported float32) ∷ (codes "F64", unsupported float64) ∷ (codes "CHAR", unsupported character)
    ∷ (codes "STR", text) ∷ (codes "BYTES", bytes) ∷ []

-- the format with this name, among the entries
abbrev pub word_among : List (List ℕ × Shape) → List ℕ → Option Shape
word_among [] word = None
word_among (entry ∷ entries) word = if bytes_eq word entry.0 then Some entry.1 else word_among entries word

abbrev pub format_named : List ℕ → Option Shape
format_named = word_among format_words

-- the name of the format, among the entries
abbrev word_for : List (List ℕ × Shape) → Shape → List ℕ
word_for [] s = []
word_for (entry ∷ entries) s = if same_shape entry.1 s then entry.0 else word_for entries s

-- the name of a format that has one
unfoldable pub word_of : Shape → List ℕ
word_of = word_for format_words
