-- Laws about the JSON of registries.
use Rattle.std.specs.Prelude.{◌≡◌, ◌⊎◌, ℕ, List, true, false}
use Rattle.serde_json.specs.Data.{Data}
use Rattle.bcs_registry_model.specs.Container.{Entries}
use Rattle.bcs_registry.specs.Faults.{IsLeastFault, IsLeastFormatFault}
use Rattle.bcs_registry_json.specs.Json.{IsJson}
use Rattle.bcs_registry_model.specs.Shape.{Shape}
use Rattle.bcs_registry_json.specs.Shaped.{is_format, is_registry}
use Rattle.bcs_registry_json.specs.Text.{IsFormatText, IsRegistryText, WritesFormat, WritesRegistry}
use Rattle.bcs_registry_model.specs.WellFormed.{Admits, IsWellFormed}
use Rattle.bcs_registry_model.specs.declared.fault.RegistryFault.{RegistryFault}

-- JSON represents at most one format
abbrev pub OneFormat : Type 0
OneFormat = (d : Data) (s t : Shape) → IsFormatText d s → IsFormatText d t → s ≡ t

-- JSON represents at most one registry
abbrev pub OneRegistry : Type 0
OneRegistry = (d : Data) (r q : Entries) → IsRegistryText d r → IsRegistryText d q → r ≡ q

-- a document with the shape of a format and its numbers in range represents a format
abbrev pub SomeFormat : Type 0
SomeFormat = (text : List ℕ) (d : Data) → IsJson text d → is_format false d ≡ true → (s : Shape) × WritesFormat text s

-- a document with the shape of a registry and its numbers in range represents a registry
abbrev pub SomeRegistry : Type 0
SomeRegistry = (text : List ℕ) (d : Data) → IsJson text d → is_registry false d ≡ true → (r : Entries) × WritesRegistry text r

-- a document has at most one least fault, and none if it represents a well-formed registry
abbrev pub OneFault : Type 0
OneFault =
    ((text : List ℕ) (e f : RegistryFault) → IsLeastFault text e → IsLeastFault text f → e ≡ f)
    × ((text : List ℕ) (r : Entries) (e : RegistryFault) → WritesRegistry text r → IsWellFormed r → IsLeastFault text e → ⊥)

-- the same for a format
abbrev pub OneFormatFault : Type 0
OneFormatFault =
    ((registry : Entries) (text : List ℕ) (e f : RegistryFault) → IsLeastFormatFault registry text e → IsLeastFormatFault registry text f → e ≡ f)
    × ((registry : Entries) (text : List ℕ) (s : Shape) (e : RegistryFault) → WritesFormat text s → Admits registry s → IsLeastFormatFault registry text e → ⊥)

-- each document represents a well-formed registry or has a least fault
abbrev pub RegistryOrFault : Type 0
RegistryOrFault = (text : List ℕ) → ((r : Entries) × WritesRegistry text r × IsWellFormed r) ⊎ ((e : RegistryFault) × IsLeastFault text e)

-- each document represents a format that is admitted or has a least fault
abbrev pub FormatOrFault : Type 0
FormatOrFault =
    (registry : Entries) (text : List ℕ)
    → ((s : Shape) × WritesFormat text s × Admits registry s) ⊎ ((e : RegistryFault) × IsLeastFormatFault registry text e)
