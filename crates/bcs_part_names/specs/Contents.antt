-- The content of a part: the bytes of a BYTES or STR, or of a list or an array of U8, without their length.
use Rattle.std.specs.Prelude.{◌≡◌, ◌+◌, ◌++◌, ℕ, List, [], ◌∷◌, length, take, drop, Bool, true, false, if◌then◌else◌, Option, Some, None, Result, Ok, Err}
use Rattle.std.specs.Borrow.{Bor}
use Rattle.std.specs.Int.{w8}
use Rattle.bcs_num.specs.Uleb.{uleb}
use Rattle.bcs_registry_model.specs.Shape as shape
use Rattle.bcs_registry_model.specs.Shape.{Shape}
use Rattle.bcs_registry_model.specs.Container.{Entries, Content, of}
use Rattle.bcs_value_model.specs.Tree as tree
use Rattle.bcs_value_model.specs.Tree.{Tree, Trees, no_trees, tree, count}
use Rattle.bcs_encode_spec.specs.Plain.{plain}
use Rattle.bcs_decode_parts.specs.Fronts.{Fronts, LeadsTo}
use Rattle.bcs_decode_parts.specs.Parts as parts
use Rattle.bcs_decode_parts.specs.declared.ahead.Ahead.{Ahead}
use Rattle.bcs_decode_parts.specs.declared.here.Reached.{Reached}
use Rattle.bcs_decode_parts.specs.declared.part.Part.{Part}
use Rattle.bcs_part_names.specs.declared.contents.NoContent.{NoContent}

-- the format `U8` itself, and not a container whose content it is
abbrev pub is_u8 : Shape → Bool
is_u8 (shape.unsigned w8) = true
is_u8 _ = false

-- the bytes that these values of `U8` are
abbrev pub element_bytes : Trees → List ℕ
element_bytes no_trees = []
element_bytes (tree (tree.unsigned b) ts) = b ∷ element_bytes ts
element_bytes (tree _ ts) = element_bytes ts

-- the content of a value, if its format has one
abbrev pub content_bytes : Content → Tree → Option (List ℕ)
content_bytes (of shape.bytes) (tree.bytes s) = Some s
content_bytes (of shape.text) (tree.text s) = Some s
content_bytes (of (shape.seq s)) (tree.items ts) = if is_u8 s then Some (element_bytes ts) else None
content_bytes (of (shape.array s n)) (tree.items ts) = if is_u8 s then Some (element_bytes ts) else None
content_bytes _ _ = None

-- the bytes of the length, which comes before the content, except in an array
abbrev pub length_bytes : Content → Tree → List ℕ
length_bytes (of shape.bytes) (tree.bytes s) = uleb (length s)
length_bytes (of shape.text) (tree.text s) = uleb (length s)
length_bytes (of (shape.seq s)) (tree.items ts) = uleb (count ts)
length_bytes _ _ = []

-- `r` is the content of the part: its bytes are the part's without the length, and they are in `whole` at its place
pub record IsContent (registry : Entries) (whole : List ℕ) (x : parts.Part) (content : List ℕ) (r : Part) : Type 0 where
  pub bytes : r.bytes.now ≡ content
  pub behind : plain registry x.value x.content ≡ length_bytes x.content x.value ++ content
  pub place : r.place ≡ x.place + length (length_bytes x.content x.value)
  pub is : r.bytes.now ≡ take (length content) (drop r.place whole)

-- the result is the content of the part; or `NoContent`, if and only if it has none
abbrev pub GivesContentOf : Entries → List ℕ → parts.Part → Option (List ℕ) → Result (Option Part) NoContent → Type 0
GivesContentOf registry whole x (Some content) (Ok (Some r)) = IsContent registry whole x content r
GivesContentOf registry whole x (Some content) (Ok None) = ⊥
GivesContentOf registry whole x (Some content) (Err e) = ⊥
GivesContentOf registry whole x None (Ok r) = ⊥
GivesContentOf registry whole x None (Err e) = Unit {0}

-- the same for a part that may not exist: the result is `None`, if and only if it doesn't
abbrev pub GivesContent : Entries → List ℕ → Option parts.Part → Result (Option Part) NoContent → Type 0
GivesContent registry whole None (Ok None) = Unit {0}
GivesContent registry whole None (Ok (Some r)) = ⊥
GivesContent registry whole None (Err e) = ⊥
GivesContent registry whole (Some x) r = GivesContentOf registry whole x (content_bytes x.content x.value) r

-- ---- values that are ahead

-- the result is the number of bytes of the content, and the bytes from the content on; or `None`, if there is no content
abbrev pub IsSized : Option (List ℕ) → List ℕ → List ℕ → List ℕ → Option (ℕ × Bor (List ℕ)) → Type 0
IsSized None front after bytes None = Unit {0}
IsSized None front after bytes (Some r) = ⊥
IsSized (Some content) front after bytes None = ⊥
IsSized (Some content) front after bytes (Some r) = (r.0 ≡ length content) × (bytes ≡ front ++ r.1.now) × (r.1.now ≡ content ++ after)

-- the same for every value of the content that may be ahead
abbrev pub SizesContent : Ahead → Content → Option (ℕ × Bor (List ℕ)) → Type 0
SizesContent ahead f result = (registry : Entries) (t : Tree) (after : List ℕ) → Fronts registry ahead f t after
    → IsSized (content_bytes f t) (length_bytes f t) after ahead.bytes.now result

-- for every value that may be ahead, the result is where the steps lead in it
abbrev pub LeadsAlong : Entries → Ahead → List parts.Step → Content → Option Reached → Type 0
LeadsAlong registry ahead path f result = (t : Tree) (after : List ℕ) → Fronts registry ahead f t after
    → LeadsTo registry ahead.bytes.now (parts.part_at registry path f t) result
