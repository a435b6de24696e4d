-- Bytes that begin with a value, and bytes that are a value's encoding.
use Rattle.bcs_decode.proofs.Prelude.{◌≡◌, ℕ, List, length, Option, Some, Ok, Err, refl, subst, Shape, Entries, Bounds, Tree, tree_of, Value, Encodes, DecodeFault, Stop, Read, OutOfMemory, Accepts, IsDecoded, AreBytes, encoded_is_accepted_is, is_decoded, accepts_once_is, no_two_verdicts_are, DecodesSlice, DecodesFrom}
use Rattle.bcs_decode_spec.specs.declared.stop.Stop as stop

pub refused_slice : (registry : Entries) (limits : Bounds) (s : Shape) (b : List ℕ) (rest : Option (List ℕ)) (x : DecodeFault) → AreBytes b → DecodesFrom registry limits s (Some b) rest (Err x)
    → (x ≡ Read → ⊥) → ((n : ℕ) × (c : Tree) × Accepts registry limits s b n c) → DecodesSlice registry limits s b (Err x)
refused_slice registry limits s b rest (Stop stop) bytes told read accepted = (told bytes).0
refused_slice registry limits s b rest Read bytes told read accepted = read refl
refused_slice registry limits s b rest OutOfMemory bytes told read accepted = accepted

module _ (registry : Entries) (limits : Bounds) (s : Shape) (b : List ℕ) (rest : Option (List ℕ)) (bytes : AreBytes b) (encoded : (t : Tree) × Encodes registry limits s t b) where
  -- decoding an encoding gives the value that all of it encodes
  pub encoded_value : (v : Value) → DecodesFrom registry limits s (Some b) rest (Ok v) → IsDecoded registry limits s b (tree_of v)
  encoded_value v told =
      let found = told bytes in
      let form = encoded_is_accepted_is registry limits s encoded.0 b encoded.1 in
      let all : found.0 ≡ length b = (accepts_once_is registry limits s b found.0 (length b) (tree_of v) form.0 found.1 form.2).0 in
      is_decoded registry limits s b (tree_of v) (subst (λ (n : ℕ). Accepts registry limits s b n (tree_of v)) all found.1)

  -- decoding an encoding never stops
  pub encoded_never_stops : (x : stop.Stop) → DecodesFrom registry limits s (Some b) rest (Err (Stop x)) → ⊥
  encoded_never_stops x told =
      let form = encoded_is_accepted_is registry limits s encoded.0 b encoded.1 in
      no_two_verdicts_are registry limits s b (length b) form.0 x.reason x.place form.2 (told bytes).0
