-- The encoding of a value.
use Rattle.std.specs.Prelude.{◌≡◌, ℕ, List, IsTrue, false}
use Rattle.bcs_registry_model.specs.Container.{Entries, Content, of}
use Rattle.bcs_registry_model.specs.Shape.{Shape}
use Rattle.bcs_value_model.specs.Tree.{Tree}
use Rattle.bcs_value_model.specs.Fits.{fits}
use Rattle.bcs_value_model.specs.Same.{Same}
use Rattle.bcs_value_model.specs.Limits.{Bounds}
use Rattle.bcs_encode_spec.specs.Canonical.{IsCanonical}
use Rattle.bcs_encode_spec.specs.Plain.{plain}
use Rattle.bcs_encode_spec.specs.Sound.{IsSound}

-- c is a canonical form of t: the same value, with the keys of each map in ascending order
pub record IsForm (registry : Entries) (f : Content) (t c : Tree) : Type 0 where
  pub fit : IsTrue (fits false registry c f)
  pub canonical : IsCanonical registry c f
  pub is_same : Same t c

-- t is sound, and b are the bytes of a canonical form of t
pub record Encodes (registry : Entries) (limits : Bounds) (s : Shape) (t : Tree) (b : List ℕ) : Type 0 where
  pub sound : IsSound registry limits s t
  pub form : Tree
  pub is_form : IsForm registry (of s) t form
  pub bytes : plain registry form (of s) ≡ b
