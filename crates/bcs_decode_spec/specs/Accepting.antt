-- The value that bytes start with, and the value that a whole input represents.
use Rattle.std.specs.Prelude.{◌≡◌, ◌≤◌, ℕ, List, length, take}
use Rattle.bcs_registry_model.specs.Shape.{Shape}
use Rattle.bcs_registry_model.specs.Container.{Entries, Content, of}
use Rattle.bcs_value_model.specs.Tree.{Tree, nodes}
use Rattle.bcs_value_model.specs.Limits.{Bounds}
use Rattle.bcs_encode_spec.specs.Plain.{plain}
use Rattle.bcs_encode_spec.specs.Canonical.{IsCanonical}
use Rattle.bcs_encode_spec.specs.Sound.{IsSoundAt, IsSound}
use Rattle.bcs_encode_spec.specs.Encodes.{Encodes}
use Rattle.bcs_value_model.specs.Same.{Same}

-- a value that can be decoded if this number of containers may still be opened: sound and canonical; the number of
-- nodes isn't limited here, since nodes are counted where the value is read
pub record IsDecodable (registry : Entries) (containers : ℕ) (f : Content) (t : Tree) : Type 0 where
  pub sound : IsSoundAt registry (record { depth = containers; nodes = nodes t }) f t
  pub canonical : IsCanonical registry t f

-- c is sound and canonical, and the first n bytes are its encoding
pub record Accepts (registry : Entries) (limits : Bounds) (s : Shape) (bytes : List ℕ) (n : ℕ) (c : Tree) : Type 0 where
  pub sound : IsSound registry limits s c
  pub canonical : IsCanonical registry c (of s)
  pub within : n ≤ length bytes
  pub is : take n bytes ≡ plain registry c (of s)

-- c is the value of the whole input: it is accepted, encodes to the input, and is the same as every value that does
pub record IsDecoded (registry : Entries) (limits : Bounds) (s : Shape) (bytes : List ℕ) (c : Tree) : Type 0 where
  pub accepted : Accepts registry limits s bytes (length bytes) c
  pub encoded : Encodes registry limits s c bytes
  pub only : (v : Tree) → Encodes registry limits s v bytes → Same v c
