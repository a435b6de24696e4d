-- Why a value has no encoding.
use Rattle.std.specs.Prelude.{◌≤◌, ◌<◌, IsTrue}
use Rattle.bcs_registry_model.specs.Container.{Entries, of}
use Rattle.bcs_registry_model.specs.Shape.{Shape}
use Rattle.bcs_value_model.specs.Tree.{Tree, depth, nodes}
use Rattle.bcs_value_model.specs.Fits.{Fits, FitsLoosely}
use Rattle.bcs_value_model.specs.Same.{HasDistinctKeys}
use Rattle.bcs_value_model.specs.Limits.{Bounds}
use Rattle.bcs_encode_spec.specs.Lengths.{length_limit, lengths_hold}
use Rattle.bcs_encode_spec.specs.declared.fault.EncodeFault.{EncodeFault}
use Rattle.bcs_encode_spec.specs.declared.fault.EncodeFault.TheVariants.{NotOfFormat, Unsupported, TooDeep, TooManyNodes, TooLong, RepeatedKey, OutOfMemory}

-- no length is above the limit of the BCS specification
abbrev pub LengthsHold : Entries → Shape → Tree → Type 0
LengthsHold registry s t = IsTrue (lengths_hold length_limit registry t (of s))

-- the conditions of a sound value, except those on the keys of its maps
pub record IsSoundBesidesKeys (registry : Entries) (limits : Bounds) (s : Shape) (t : Tree) : Type 0 where
  pub fit : Fits registry s t
  pub depth_holds : depth t ≤ limits.depth
  pub nodes_hold : nodes t ≤ limits.nodes
  pub lengths : LengthsHold registry s t

-- the value is refused for this reason: each one applies only if no earlier one does
abbrev pub RefusesValue : Entries → Bounds → Shape → Tree → EncodeFault → Type 0
RefusesValue registry limits s t NotOfFormat = ¬ FitsLoosely registry s t
RefusesValue registry limits s t Unsupported = FitsLoosely registry s t × (¬ Fits registry s t)
RefusesValue registry limits s t TooDeep = Fits registry s t × (limits.depth < depth t)
RefusesValue registry limits s t TooManyNodes = Fits registry s t × (depth t ≤ limits.depth) × (limits.nodes < nodes t)
RefusesValue registry limits s t TooLong =
    Fits registry s t × (depth t ≤ limits.depth) × (nodes t ≤ limits.nodes) × (¬ LengthsHold registry s t)
RefusesValue registry limits s t RepeatedKey = IsSoundBesidesKeys registry limits s t × (¬ HasDistinctKeys t)
RefusesValue registry limits s t OutOfMemory = ⊥
