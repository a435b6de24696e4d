-- The answer of a call that explains bytes.
use Rattle.std.specs.Prelude.{◌≡◌, ◌≢◌, ◌==◌, ℕ, List, [], Option, if◌then◌else◌}
use Rattle.bcs_registry_model.specs.Container.{Entries}
use Rattle.bcs_registry_model.specs.Shape.{Shape}
use Rattle.bcs_value_model.specs.Limits.{Bounds}
use Rattle.bcs_decode_spec.specs.declared.stop.Stop.{Stop}
use Rattle.bcs_display_text.specs.declared.style.Form.{Form}
use Rattle.bcs_display_text.specs.declared.style.Form.TheVariants.{Json, Paths, Tree, Ways}
use Rattle.bcs_display_pieces.specs.EndsAt.{EndsAt}
use Rattle.bcs_calls.specs.Answers.{plain, refusal, with_fault_at, with_stop}
use Rattle.bcs_calls.specs.Output.{Puts}
use Rattle.bcs_calls.specs.Registries.{RefusesFor}
use Rattle.bcs_calls.specs.declared.answer.Answer.{Answer}
use Rattle.bcs_calls.specs.declared.fault.Fault.{Fault}
use Rattle.bcs_calls.specs.declared.fault.Fault.TheVariants.{BadPath}
use Rattle.bcs_calls.specs.declared.status.Status.TheVariants.{Format, Memory, Path}

-- the form with this number
abbrev pub form_numbered : ℕ → Form
form_numbered n = if n == 1 then Paths else (if n == 2 then Tree else (if n == 3 then Json else Ways))

-- the call returns a text, and reports a stop, if there is one. If `P` holds, that is where the bytes stop being a value; otherwise
-- it may be that of a byte string in them, or why a call in them is refused. Or memory ran out
pub data AnswersPieces (P : Type 0) (registry : Entries) (limits : Bounds) (s : Shape) (b old new : List ℕ) (a : Answer) : Type 0 where
  put : (text : List ℕ) (x : Option Stop) (without : Answer) → (P → EndsAt registry limits s b x) → Puts text old new without → a ≡ with_stop x without
      → AnswersPieces P registry limits s b old new a
  refused_call : (text : List ℕ) (fault : Fault) (place : ℕ) (without : Answer) → (P → ⊥) → Puts text old new without
      → a ≡ with_fault_at fault place without → AnswersPieces P registry limits s b old new a
  no_memory : a ≡ plain Memory → AnswersPieces P registry limits s b old new a

-- a line is no view, or names no part; or the registry refuses its format or doesn't have what it names; or memory ran out
pub data RefusesViews (a : Answer) : Type 0 where
  no_view : a ≡ refusal Path BadPath → RefusesViews a
  no_format : RefusesFor (λ e. Unit {0}) Format a → RefusesViews a
  no_memory : a ≡ plain Memory → RefusesViews a

-- there are views, and one is refused; or the call returns the pieces. Without views, it reports where the bytes stop being a value
pub data AnswersExplainedWith (registry : Entries) (limits : Bounds) (s : Shape) (views b old new : List ℕ) (a : Answer) : Type 0 where
  refused : views ≢ [] → RefusesViews a → AnswersExplainedWith registry limits s views b old new a
  pieces : AnswersPieces (views ≡ []) registry limits s b old new a → AnswersExplainedWith registry limits s views b old new a
