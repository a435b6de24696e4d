-- The answer of a call that turns bytes into JSON.
use Rattle.std.specs.Prelude.{◌≡◌, ◌<◌, ℕ, List, length}
use Rattle.serde_json.specs.Data.{depth}
use Rattle.bcs_registry_model.specs.Container.{Entries}
use Rattle.bcs_registry_model.specs.Shape.{Shape}
use Rattle.bcs_value_model.specs.Limits.{Bounds}
use Rattle.bcs_value_model.specs.Tree.{Tree}
use Rattle.bcs_decode_spec.specs.Accepting.{Accepts}
use Rattle.bcs_decode_spec.specs.Stopping.{StopsAll}
use Rattle.bcs_decode_spec.specs.declared.reason.Reason.{Reason}
use Rattle.bcs_json_spec.specs.Headline.{ShowsBytes}
use Rattle.bcs_json_spec.specs.JsonContent.{of}
use Rattle.bcs_json_spec.specs.Shown.{shown}
use Rattle.bcs_json_spec.specs.Texts.{nesting_limit}
use Rattle.bcs_calls.specs.Answers.{plain, refusal, stop_at}
use Rattle.bcs_calls.specs.Output.{Puts}
use Rattle.bcs_calls.specs.declared.answer.Answer.{Answer}
use Rattle.bcs_calls.specs.declared.fault.Fault.TheVariants.{ShownTooNested}
use Rattle.bcs_calls.specs.declared.status.Status.TheVariants.{Memory, Refused}

module _ (registry : Entries) (limits : Bounds) (s : Shape) where
  -- the bytes encode a value whose JSON would nest too deep
  abbrev pub NestsTooDeep : List ℕ → Type 0
  NestsTooDeep b = (c : Tree) × Accepts registry limits s b (length b) c × (nesting_limit < depth (shown registry c (of s)))

  -- the call returns the JSON of the bytes; or they stop being a value; or their JSON would nest too deep; or memory ran
  -- out, which only happens if they start with a value
  pub data AnswersBytes (b old new : List ℕ) (a : Answer) : Type 0 where
    put : (text : List ℕ) → ShowsBytes registry limits s b text → Puts text old new a → AnswersBytes b old new a
    stopped : (e : Reason) (o : ℕ) → StopsAll registry limits s b e o → a ≡ stop_at e o → AnswersBytes b old new a
    too_nested : NestsTooDeep b → a ≡ refusal Refused ShownTooNested → AnswersBytes b old new a
    no_memory : (n : ℕ) (c : Tree) → Accepts registry limits s b n c → a ≡ plain Memory → AnswersBytes b old new a
