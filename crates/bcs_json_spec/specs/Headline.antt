-- What the calls on texts and bytes return: bytes, a comparison, a normal form, a text.
use Rattle.std.specs.Prelude.{◌≡◌, ◌↔◌, ℕ, List, length, Bool, IsTrue}
use Rattle.bcs_registry_model.specs.Container.{Entries}
use Rattle.bcs_registry_model.specs.Container as container
use Rattle.bcs_registry_model.specs.Shape.{Shape}
use Rattle.bcs_value_model.specs.Limits.{Bounds}
use Rattle.bcs_value_model.specs.Same.{Same}
use Rattle.bcs_value_model.specs.Tree.{Tree}
use Rattle.bcs_encode_spec.specs.Encodes.{IsForm, Encodes}
use Rattle.bcs_decode_spec.specs.Accepting.{Accepts}
use Rattle.bcs_json_spec.specs.Texts.{Denotes, IsTextOf}

-- the text denotes a value, and these are its bytes
pub record HasBytes (registry : Entries) (limits : Bounds) (s : Shape) (text bytes : List ℕ) : Type 0 where
  pub value : Tree
  pub denoted : Denotes registry limits s text value
  pub encoded : Encodes registry limits s value bytes

-- both texts denote values; the answer is whether these are the same, and whether their bytes are equal
pub record Compares (registry : Entries) (limits : Bounds) (s : Shape) (first second : List ℕ) (answer : Bool) : Type 0 where
  pub one : Tree
  pub one_denoted : Denotes registry limits s first one
  pub other : Tree
  pub other_denoted : Denotes registry limits s second other
  pub same : IsTrue answer ↔ Same one other
  pub one_bytes : List ℕ
  pub one_encoded : Encodes registry limits s one one_bytes
  pub other_bytes : List ℕ
  pub other_encoded : Encodes registry limits s other other_bytes
  pub equal : IsTrue answer ↔ (one_bytes ≡ other_bytes)

-- `out` is the text of the canonical form of the value that `text` denotes, and denotes this form
pub record Normalises (registry : Entries) (limits : Bounds) (s : Shape) (text out : List ℕ) : Type 0 where
  pub value : Tree
  pub denoted : Denotes registry limits s text value
  pub form : Tree
  pub is_form : IsForm registry (container.of s) value form
  pub is : IsTextOf registry s form out
  pub again : Denotes registry limits s out form

-- the text is that of the one value that all the bytes encode, and denotes it
pub record ShowsBytes (registry : Entries) (limits : Bounds) (s : Shape) (bytes text : List ℕ) : Type 0 where
  pub value : Tree
  pub accepted : Accepts registry limits s bytes (length bytes) value
  pub is : IsTextOf registry s value text
  pub denoted : Denotes registry limits s text value
