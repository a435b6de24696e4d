-- The format that an open registry caches.
use Rattle.std.specs.Prelude.{ℕ, List}
use Rattle.bcs_registry_model.specs.Container.{Entries}
use Rattle.bcs_registry_model.specs.View.{shape_of}
use Rattle.bcs_calls.specs.Registries.{IsFormat}
use Rattle.bcs_calls.specs.declared.known.Known.{Known}

-- the format is the one that its JSON represents
abbrev pub Knows : Entries → Known → Type 0
Knows registry known = IsFormat registry known.text.items (shape_of known.format)
