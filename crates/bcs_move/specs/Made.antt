-- Registries as JSON.
use Rattle.std.specs.Prelude.{ℕ, List}
use Rattle.bcs_registry_model.specs.Container.{Entries}
use Rattle.bcs_registry_model.specs.WellFormed.{IsWellFormed}
use Rattle.bcs_registry_json.specs.Text.{WritesRegistry}

-- `text` is the JSON of some well-formed registry, so `Registry::read` accepts it
abbrev pub WritesSome : List ℕ → Type 0
WritesSome text = (registry : Entries) × WritesRegistry text registry × IsWellFormed registry
