-- What the parts of a registry's JSON represent, and what is wrong with an invalid part.
use Rattle.std.specs.Prelude.{◌≡◌, ℕ, List, Bool, true, false, IsTrue}
use Rattle.std.specs.List.{list_all}
use Rattle.serde_json.specs.Data.{Data, array, object}
use Rattle.bcs_registry_model.specs.Container.{Choice, Container, Field, Payload, enumeration}
use Rattle.bcs_registry_model.specs.Shape.{Shapes}
use Rattle.bcs_registry_json.specs.Shown.{shown_choices, shown_container, shown_struct, shown_format, shown_formats, shown_payload, single}
use Rattle.bcs_registry_model.specs.Ranges.{IsInRange, all_sizes_fit, payload_sizes_fit, sizes_fit}
use Rattle.bcs_registry_model.specs.declared.fault.RegistryFault.{RegistryFault}
use Rattle.bcs_registry_model.specs.declared.fault.RegistryFault.TheVariants.{BadNumber, BadShape, OutOfMemory}

-- a fault of JSON that fails a test: BadShape if it fails the loose test, BadNumber if it fails the strict one
abbrev pub IsFaultBy : (Bool → Bool) → RegistryFault → Type 0
IsFaultBy test BadShape = test true ≡ false
IsFaultBy test BadNumber = test false ≡ false
IsFaultBy test OutOfMemory = Unit {0}
IsFaultBy test _ = ⊥

-- the same, but BadNumber only applies if the shape is right
abbrev pub IsLeastFaultBy : (Bool → Bool) → RegistryFault → Type 0
IsLeastFaultBy test BadShape = test true ≡ false
IsLeastFaultBy test BadNumber = (test true ≡ true) × (test false ≡ false)
IsLeastFaultBy test OutOfMemory = Unit {0}
IsLeastFaultBy test _ = ⊥

-- the JSON of a list of formats
pub record IsTupleText (d : Data) (ss : Shapes) : Type 0 where
  pub is : d ≡ array (shown_formats ss)
  pub sizes : IsTrue (all_sizes_fit ss)

-- the JSON of a field: its name and its format
pub record IsFieldText (d : Data) (f : Field) : Type 0 where
  pub is : d ≡ single f.0 (shown_format f.1)
  pub sizes : IsTrue (sizes_fit f.1)

-- the JSON of the fields of a struct
pub record IsFieldsText (d : Data) (fs : List Field) : Type 0 where
  pub is : d ≡ array (shown_struct fs)
  pub sizes : IsTrue (list_all (λ f. sizes_fit f.1) fs)

-- the JSON of a payload
pub record IsPayloadText (d : Data) (p : Payload) : Type 0 where
  pub is : d ≡ shown_payload p
  pub sizes : IsTrue (payload_sizes_fit p)

-- the JSON of a variant: its name and its payload
pub record IsVariantText (d : Data) (v : List ℕ × Payload) : Type 0 where
  pub is : d ≡ single v.0 (shown_payload v.1)
  pub sizes : IsTrue (payload_sizes_fit v.1)

-- the JSON of the variants of an enum
pub record IsVariantsText (d : Data) (cs : List Choice) : Type 0 where
  pub is : d ≡ object (shown_choices cs)
  pub range : IsInRange (enumeration cs)

pub record IsContainerText (d : Data) (c : Container) : Type 0 where
  pub is : d ≡ shown_container c
  pub range : IsInRange c
