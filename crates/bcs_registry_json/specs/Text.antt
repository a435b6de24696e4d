-- Which JSON represents a format, and which a registry.
use Rattle.std.specs.Prelude.{◌≡◌, ℕ, List, IsTrue}
use Rattle.serde_json.specs.Data.{Data}
use Rattle.bcs_registry_model.specs.Container.{Entries}
use Rattle.bcs_registry_model.specs.Ranges.{IsOrderly, sizes_fit}
use Rattle.bcs_registry_model.specs.Shape.{Shape}
use Rattle.bcs_registry_json.specs.Json.{IsJson}
use Rattle.bcs_registry_json.specs.Shown.{shown_registry, shown_format}

-- d represents the format s
pub record IsFormatText (d : Data) (s : Shape) : Type 0 where
  pub is : d ≡ shown_format s
  pub sizes : IsTrue (sizes_fit s)

-- d represents this registry, which is a finite map with its numbers in range
pub record IsRegistryText (d : Data) (registry : Entries) : Type 0 where
  pub is : d ≡ shown_registry registry
  pub orderly : IsOrderly registry

-- ---- for documents

abbrev pub WritesFormat : List ℕ → Shape → Type 0
WritesFormat text s = (d : Data) × IsJson text d × IsFormatText d s

abbrev pub WritesRegistry : List ℕ → Entries → Type 0
WritesRegistry text registry = (d : Data) × IsJson text d × IsRegistryText d registry
