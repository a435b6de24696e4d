-- Which values JSON texts denote, why a text is refused, and what is printed.
use Rattle.std.specs.Prelude.{◌≡◌, ◌≤◌, ◌<◌, ℕ, List}
use Rattle.serde_json.specs.Data.{Data}
use Rattle.serde_json.specs.Data as json
use Rattle.serde_json.specs.Written.{compact_text}
use Rattle.bcs_registry_model.specs.Container.{Entries}
use Rattle.bcs_registry_json.specs.Json.{IsJson, IsNotJson}
use Rattle.bcs_registry_model.specs.Shape.{Shape}
use Rattle.bcs_value_model.specs.Tree.{Tree}
use Rattle.bcs_value_model.specs.Limits.{Bounds}
use Rattle.bcs_encode_spec.specs.Refused as encode
use Rattle.bcs_encode_spec.specs.Sound.{IsSound}
use Rattle.bcs_encode_spec.specs.declared.fault.EncodeFault.TheVariants as encode_fault
use Rattle.bcs_json_spec.specs.JsonContent.{of}
use Rattle.bcs_json_spec.specs.Place.{PointerStep, RefusesAt}
use Rattle.bcs_json_spec.specs.Refuses.{Refuses}
use Rattle.bcs_json_spec.specs.Shown.{shown}
use Rattle.bcs_json_spec.specs.Spells.{Spells, SpellsWithin}
use Rattle.bcs_json_spec.specs.declared.json_fault.JsonFault.{JsonFault}
use Rattle.bcs_json_spec.specs.declared.json_fault.JsonFault.TheVariants.{NotJson, TooNested, TooManyNodes, TooLong, RepeatedKey, OutOfMemory}

-- the maximum nesting of arrays and objects in the JSON of a value, both read and printed
abbrev pub nesting_limit : ℕ
nesting_limit = 100

-- the text is JSON (RFC 8259, as `serde_json` reads it) for `d`, within the nesting limit
abbrev pub IsReadAs : List ℕ → Data → Type 0
IsReadAs text d = IsJson text d × (json.depth d ≤ nesting_limit)

-- the text spells `t`, and `t` is sound
pub record Denotes (registry : Entries) (limits : Bounds) (s : Shape) (text : List ℕ) (t : Tree) : Type 0 where
  pub read : Data
  pub is : IsReadAs text read
  pub spells : Spells registry t (of s) read
  pub sound : IsSound registry limits s t

-- the text spells `t`, and no more containers are open at once than the limits allow
pub record SpelledBy (registry : Entries) (limits : Bounds) (s : Shape) (text : List ℕ) (t : Tree) : Type 0 where
  pub read : Data
  pub is : IsReadAs text read
  pub spells : SpellsWithin registry limits.depth (of s) read t

-- the text is JSON that spells no value, with this fault
abbrev pub Misspells : Entries → Bounds → Shape → List ℕ → JsonFault → Type 0
Misspells registry limits s text e = (d : Data) × IsReadAs text d × Refuses registry limits.depth (of s) d e

-- and at this place
abbrev pub MisspellsAt : Entries → Bounds → Shape → List ℕ → List PointerStep → JsonFault → Type 0
MisspellsAt registry limits s text path e = (d : Data) × IsReadAs text d × RefusesAt registry limits.depth (of s) d path e

-- the text is refused for this reason; each reason applies only if no earlier one does
abbrev pub RefusesText : Entries → Bounds → Shape → List ℕ → JsonFault → Type 0
RefusesText registry limits s text NotJson = IsNotJson text
RefusesText registry limits s text TooNested = (d : Data) × IsJson text d × (nesting_limit < json.depth d)
RefusesText registry limits s text TooManyNodes = (t : Tree) × SpelledBy registry limits s text t × encode.RefusesValue registry limits s t encode_fault.TooManyNodes
RefusesText registry limits s text TooLong = (t : Tree) × SpelledBy registry limits s text t × encode.RefusesValue registry limits s t encode_fault.TooLong
RefusesText registry limits s text RepeatedKey = (t : Tree) × SpelledBy registry limits s text t × encode.RefusesValue registry limits s t encode_fault.RepeatedKey
RefusesText registry limits s text OutOfMemory = ⊥
RefusesText registry limits s text e = Misspells registry limits s text e

-- ---- printing

-- the text is that of the canonical tree `c`
abbrev pub IsTextOf : Entries → Shape → Tree → List ℕ → Type 0
IsTextOf registry s c text = text ≡ compact_text (shown registry c (of s))
