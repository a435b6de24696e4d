-- Looking up the name of a format returns that format.
use Rattle.bcs_registry_model.proofs.Prelude.{◌≡◌, Bool, true, false, Some, refl, false≢true, w8, w16, w32, w64, w128, Shape, unit, truth, unsigned, signed, unsupported, float32, float64, character, text, bytes, name, option, seq, tuple, array, format_named, word_of}
use Rattle.bcs_registry_model.specs.Shape.{map}

-- the format has no parts, and so has a name
abbrev pub has_word : Shape → Bool
has_word (name n) = false
has_word (option s) = false
has_word (seq s) = false
has_word (map k v) = false
has_word (tuple ss) = false
has_word (array s n) = false
has_word _ = true

pub word_named : (s : Shape) → has_word s ≡ true → format_named (word_of s) ≡ Some s
unfolding word_of
word_named unit h = refl
word_named truth h = refl
word_named (signed w8) h = refl
word_named (signed w16) h = refl
word_named (signed w32) h = refl
word_named (signed w64) h = refl
word_named (signed w128) h = refl
word_named (unsigned w8) h = refl
word_named (unsigned w16) h = refl
word_named (unsigned w32) h = refl
word_named (unsigned w64) h = refl
word_named (unsigned w128) h = refl
word_named (unsupported float32) h = refl
word_named (unsupported float64) h = refl
word_named (unsupported character) h = refl
word_named text h = refl
word_named bytes h = refl
word_named _ h = absurd (false≢true h)
