-- The least fault that occurs anywhere in a document.
use Rattle.std.specs.Prelude.{◌≡◌, ℕ, List, true, false}
use Rattle.serde_json.specs.Data.{Data}
use Rattle.bcs_registry_model.specs.Breaks.{Breaks, FormatBreaks}
use Rattle.bcs_registry_model.specs.Container.{Entries}
use Rattle.bcs_registry_json.specs.Json.{IsJson, IsNotJson}
use Rattle.bcs_registry_model.specs.Shape.{Shape}
use Rattle.bcs_registry_json.specs.Shaped.{is_format, is_registry}
use Rattle.bcs_registry_json.specs.Text.{WritesFormat, WritesRegistry}
use Rattle.bcs_registry_model.specs.declared.fault.RegistryFault.{RegistryFault}
use Rattle.bcs_registry_model.specs.declared.fault.RegistryFault.TheVariants.{NotJson, BadShape, BadNumber, TooNested, RepeatedName, UnknownName, OutOfMemory}

-- in this order: not JSON; not the shape of a registry; a number out of range; a broken rule
abbrev pub IsLeastFault : List ℕ → RegistryFault → Type 0
IsLeastFault text NotJson = IsNotJson text
IsLeastFault text BadShape = (d : Data) × IsJson text d × (is_registry true d ≡ false)
IsLeastFault text BadNumber = (d : Data) × IsJson text d × (is_registry true d ≡ true) × (is_registry false d ≡ false)
IsLeastFault text TooNested = (r : Entries) × WritesRegistry text r × Breaks r TooNested
IsLeastFault text RepeatedName = (r : Entries) × WritesRegistry text r × Breaks r RepeatedName
IsLeastFault text UnknownName = (r : Entries) × WritesRegistry text r × Breaks r UnknownName
IsLeastFault text OutOfMemory = ⊥

-- the same for a format
abbrev pub IsLeastFormatFault : Entries → List ℕ → RegistryFault → Type 0
IsLeastFormatFault registry text NotJson = IsNotJson text
IsLeastFormatFault registry text BadShape = (d : Data) × IsJson text d × (is_format true d ≡ false)
IsLeastFormatFault registry text BadNumber = (d : Data) × IsJson text d × (is_format true d ≡ true) × (is_format false d ≡ false)
IsLeastFormatFault registry text TooNested = (s : Shape) × WritesFormat text s × FormatBreaks registry s TooNested
IsLeastFormatFault registry text RepeatedName = ⊥
IsLeastFormatFault registry text UnknownName = (s : Shape) × WritesFormat text s × FormatBreaks registry s UnknownName
IsLeastFormatFault registry text OutOfMemory = ⊥
