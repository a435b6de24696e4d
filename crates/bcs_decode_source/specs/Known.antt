-- What is known of a container that is being read.
use Rattle.std.specs.Prelude.{◌≡◌, ℕ, List}
use Rattle.bcs_registry_model.specs.Container.{Entries, Content, content_at}
use Rattle.bcs_registry_model.specs.WellFormed.{IsWellFormed}

-- a well-formed registry has a container with this content
pub record IsKnown (registry : Entries) (c : Content) : Type 0 where
  pub name : List ℕ
  pub has : content_at name registry ≡ c
  pub well_formed : IsWellFormed registry
