-- The JSON document of a value, and why a value has none.
use Rattle.std.specs.Prelude.{◌<◌, ℕ, List}
use Rattle.serde_json.specs.Data.{depth}
use Rattle.bcs_registry_model.specs.Container.{Entries}
use Rattle.bcs_registry_model.specs.Container as container
use Rattle.bcs_registry_model.specs.Shape.{Shape}
use Rattle.bcs_value_model.specs.Limits.{Bounds}
use Rattle.bcs_value_model.specs.Tree.{Tree}
use Rattle.bcs_encode_spec.specs.Encodes.{IsForm}
use Rattle.bcs_encode_spec.specs.Refused as encode
use Rattle.bcs_encode_spec.specs.Sound.{IsSound}
use Rattle.bcs_json_spec.specs.JsonContent.{of}
use Rattle.bcs_json_spec.specs.Shown.{shown}
use Rattle.bcs_json_spec.specs.Texts.{nesting_limit, Denotes, IsTextOf}
use Rattle.bcs_json.specs.declared.print_fault.PrintFault.{PrintFault}
use Rattle.bcs_encode_spec.specs.declared.fault.EncodeFault.{EncodeFault}
use Rattle.bcs_encode_spec.specs.declared.fault.EncodeFault.TheVariants as encoding
use Rattle.bcs_json.specs.declared.print_fault.PrintFault.TheVariants.{NotOfFormat, Unsupported, TooDeep, TooManyNodes, TooLong, RepeatedKey, TooNested, OutOfMemory}

-- the document is the JSON of the canonical form of t, and represents this form
pub record Prints (registry : Entries) (limits : Bounds) (s : Shape) (t : Tree) (text : List ℕ) : Type 0 where
  pub form : Tree
  pub is_form : IsForm registry (container.of s) t form
  pub is : IsTextOf registry s form text
  pub denotes : Denotes registry limits s text form

-- the JSON of the canonical form nests deeper than a document may
pub record IsShownTooDeep (registry : Entries) (limits : Bounds) (s : Shape) (t : Tree) : Type 0 where
  pub sound : IsSound registry limits s t
  pub form : Tree
  pub is_form : IsForm registry (container.of s) t form
  pub too_deep : nesting_limit < depth (shown registry form (of s))

-- an encoding fault as a printing fault
abbrev pub fault_of : EncodeFault → PrintFault
fault_of encoding.NotOfFormat = NotOfFormat
fault_of encoding.Unsupported = Unsupported
fault_of encoding.TooDeep = TooDeep
fault_of encoding.TooManyNodes = TooManyNodes
fault_of encoding.TooLong = TooLong
fault_of encoding.RepeatedKey = RepeatedKey
fault_of encoding.OutOfMemory = OutOfMemory

-- the value has no document for this reason: it has no encoding, or its document would nest too deep
abbrev pub PrintRefuses : Entries → Bounds → Shape → Tree → PrintFault → Type 0
PrintRefuses registry limits s t NotOfFormat = encode.RefusesValue registry limits s t encoding.NotOfFormat
PrintRefuses registry limits s t Unsupported = encode.RefusesValue registry limits s t encoding.Unsupported
PrintRefuses registry limits s t TooDeep = encode.RefusesValue registry limits s t encoding.TooDeep
PrintRefuses registry limits s t TooManyNodes = encode.RefusesValue registry limits s t encoding.TooManyNodes
PrintRefuses registry limits s t TooLong = encode.RefusesValue registry limits s t encoding.TooLong
PrintRefuses registry limits s t RepeatedKey = encode.RefusesValue registry limits s t encoding.RepeatedKey
PrintRefuses registry limits s t OutOfMemory = encode.RefusesValue registry limits s t encoding.OutOfMemory
PrintRefuses registry limits s t TooNested = IsShownTooDeep registry limits s t
