-- The answers to the JSON of registries and formats.
use Rattle.std.specs.Prelude.{◌≡◌, ℕ, List}
use Rattle.bcs_registry_model.specs.Container.{Entries}
use Rattle.bcs_registry_model.specs.Grows.{Grows, IsFirstGrowthFault}
use Rattle.bcs_registry_model.specs.Shape.{Shape}
use Rattle.bcs_registry_model.specs.WellFormed.{Admits, IsWellFormed}
use Rattle.bcs_registry_model.specs.declared.fault.RegistryFault.{RegistryFault}
use Rattle.bcs_registry_model.specs.declared.growth_fault.GrowthFault.{GrowthFault}
use Rattle.bcs_registry.specs.Faults.{IsLeastFault, IsLeastFormatFault}
use Rattle.bcs_registry_json.specs.Text.{WritesFormat, WritesRegistry}
use Rattle.bcs_calls.specs.Answers.{plain, refusal}
use Rattle.bcs_calls.specs.declared.answer.Answer.{Answer}
use Rattle.bcs_calls.specs.declared.fault.Fault.TheVariants as fault
use Rattle.bcs_calls.specs.declared.status.Status.{Status}
use Rattle.bcs_calls.specs.declared.status.Status.TheVariants.{Done, Format, Memory, Newer, Refused, Registry}

-- the JSON represents this registry, which is well-formed
abbrev pub IsRegistry : List ℕ → Entries → Type 0
IsRegistry text r = WritesRegistry text r × IsWellFormed r

-- the JSON represents this format, which the registry admits
abbrev pub IsFormat : Entries → List ℕ → Shape → Type 0
IsFormat registry text s = WritesFormat text s × Admits registry s

-- JSON is refused, with this status, for its least fault; or memory ran out
pub data RefusesFor (IsLeast : RegistryFault → Type 0) (status : Status) (a : Answer) : Type 0 where
  has_fault : (e : RegistryFault) → IsLeast e → a ≡ refusal status (fault.Registry e) → RefusesFor IsLeast status a
  no_memory : a ≡ plain Memory → RefusesFor IsLeast status a

-- the JSON of a registry is refused
abbrev pub RefusesRegistry : List ℕ → Status → Answer → Type 0
RefusesRegistry text = RefusesFor (IsLeastFault text)

-- the JSON of a format is refused
abbrev pub RefusesFormat : Entries → List ℕ → Answer → Type 0
RefusesFormat registry text = RefusesFor (IsLeastFormatFault registry text) Format

-- the older registry grows into the newer one; or it doesn't, and the answer reports the first fault
pub data AnswersGrowth (older newer : Entries) (a : Answer) : Type 0 where
  grows : Grows older newer → a ≡ plain Done → AnswersGrowth older newer a
  breaks : (e : GrowthFault) → IsFirstGrowthFault older newer e → a ≡ refusal Refused (fault.Growth e) → AnswersGrowth older newer a

-- both represent registries, and this is the answer for them; or the older one is refused, or else the newer one
pub data AnswersTwo (older newer : List ℕ) (a : Answer) : Type 0 where
  given : (r q : Entries) → IsRegistry older r → IsRegistry newer q → AnswersGrowth r q a → AnswersTwo older newer a
  no_older : RefusesRegistry older Registry a → AnswersTwo older newer a
  no_newer : (r : Entries) → IsRegistry older r → RefusesRegistry newer Newer a → AnswersTwo older newer a
