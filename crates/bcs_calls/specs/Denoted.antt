-- The answer of a call that converts a JSON document.
use Rattle.std.specs.Prelude.{◌≡◌, ℕ, List}
use Rattle.bcs_registry_model.specs.Container.{Entries}
use Rattle.bcs_registry_model.specs.Shape.{Shape}
use Rattle.bcs_value_model.specs.Limits.{Bounds}
use Rattle.bcs_value_model.specs.Tree.{Tree}
use Rattle.bcs_json_spec.specs.Texts.{Denotes, RefusesText}
use Rattle.bcs_json_spec.specs.declared.json_fault.JsonFault.{JsonFault}
use Rattle.bcs_calls.specs.Answers.{plain, refusal}
use Rattle.bcs_calls.specs.Output.{Puts}
use Rattle.bcs_calls.specs.declared.answer.Answer.{Answer}
use Rattle.bcs_calls.specs.declared.fault.Fault.TheVariants.{Text}
use Rattle.bcs_calls.specs.declared.status.Status.TheVariants.{Memory, Refused}

module _ (registry : Entries) (limits : Bounds) (s : Shape) where
  -- the call returns such bytes; or the document is refused for a fault, and represents no value; or memory ran out
  pub data AnswersText (P : List ℕ → Type 0) (text old new : List ℕ) (a : Answer) : Type 0 where
    put : (b : List ℕ) → P b → Puts b old new a → AnswersText P text old new a
    refused : (e : JsonFault) → RefusesText registry limits s text e → ((t : Tree) → Denotes registry limits s text t → ⊥)
        → a ≡ refusal Refused (Text e) → AnswersText P text old new a
    no_memory : a ≡ plain Memory → AnswersText P text old new a
