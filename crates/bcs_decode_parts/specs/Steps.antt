-- The specification's view of steps and parts.
use Rattle.std.specs.Prelude.{◌≡◌, ℕ, List, length, take, drop, Option, Some, None}
use Rattle.bcs_registry_model.specs.Container.{Entries}
use Rattle.bcs_encode_spec.specs.Plain.{plain}
use Rattle.bcs_decode_parts.specs.declared.step.Step.{Step}
use Rattle.bcs_decode_parts.specs.declared.step.Step.TheVariants.{Item, Inner, Key}
use Rattle.bcs_decode_parts.specs.declared.part.Part.{Part}
use Rattle.bcs_decode_parts.specs.Parts as parts

abbrev pub step_of : Step → parts.Step
step_of (Item i) = parts.item i
step_of Inner = parts.inner
step_of (Key k) = parts.key k.now

-- the result is the part: the place is its own, and so are the bytes, which are in the input at that place
abbrev pub GivesPart : Entries → List ℕ → Option parts.Part → Option Part → Type 0
GivesPart registry bytes None None = Unit {0}
GivesPart registry bytes (Some x) (Some r) =
    (r.place ≡ x.place) × (r.bytes.now ≡ plain registry x.value x.content) × (r.bytes.now ≡ take (length r.bytes.now) (drop x.place bytes))
GivesPart registry bytes None (Some r) = ⊥
GivesPart registry bytes (Some x) None = ⊥
