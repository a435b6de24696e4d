-- The answer of a call that compares two JSON documents.
use Rattle.std.specs.Prelude.{◌≡◌, ◌⊎◌, ℕ, List, false, true}
use Rattle.bcs_registry_model.specs.Container.{Entries}
use Rattle.bcs_registry_model.specs.Shape.{Shape}
use Rattle.bcs_value_model.specs.Limits.{Bounds}
use Rattle.bcs_value_model.specs.Tree.{Tree}
use Rattle.bcs_json_spec.specs.Headline.{Compares}
use Rattle.bcs_json_spec.specs.Texts.{Denotes, RefusesText}
use Rattle.bcs_json_spec.specs.declared.json_fault.JsonFault.{JsonFault}
use Rattle.bcs_calls.specs.Answers.{plain, refusal}
use Rattle.bcs_calls.specs.declared.answer.Answer.{Answer}
use Rattle.bcs_calls.specs.declared.fault.Fault.TheVariants.{Text}
use Rattle.bcs_calls.specs.declared.status.Status.TheVariants.{Done, Memory, No, Refused}

module _ (registry : Entries) (limits : Bounds) (s : Shape) (first second : List ℕ) where
  -- the first document is refused for this fault; or it represents a value, and the second is refused for this fault
  abbrev pub RefusesOne : JsonFault → Type 0
  RefusesOne e = RefusesText registry limits s first e ⊎ (((t : Tree) × Denotes registry limits s first t) × RefusesText registry limits s second e)

  -- the documents represent equal values, or different ones; or one is refused; or memory ran out
  pub data AnswersComparing (a : Answer) : Type 0 where
    equal : Compares registry limits s first second true → a ≡ plain Done → AnswersComparing a
    different : Compares registry limits s first second false → a ≡ plain No → AnswersComparing a
    refused : (e : JsonFault) → RefusesOne e → a ≡ refusal Refused (Text e) → AnswersComparing a
    no_memory : a ≡ plain Memory → AnswersComparing a
