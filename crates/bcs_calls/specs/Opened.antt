-- The answer of a call that opens a registry.
use Rattle.std.specs.Prelude.{◌≡◌, ℕ, List, Option, Some}
use Rattle.bcs_registry_model.specs.Container.{Entries}
use Rattle.bcs_calls.specs.Answers.{plain}
use Rattle.bcs_calls.specs.Registries.{IsRegistry, RefusesRegistry}
use Rattle.bcs_calls.specs.declared.answer.Answer.{Answer}
use Rattle.bcs_calls.specs.declared.status.Status.TheVariants.{Done, Registry}

-- the registry that the JSON represents is open; or the JSON is refused, and what was open still is
pub data AnswersOpening (text : List ℕ) (old new : Option Entries) (a : Answer) : Type 0 where
  opened : (r : Entries) → IsRegistry text r → new ≡ Some r → a ≡ plain Done → AnswersOpening text old new a
  refused : RefusesRegistry text Registry a → new ≡ old → AnswersOpening text old new a
