-- The arguments of a call on a handle, and when they are refused.
use Rattle.std.specs.Prelude.{◌≡◌, ◌≢◌, ◌<◌, ◌≤◌, ℕ, List, Option, Some, None}
use Rattle.bcs_registry_model.specs.Container.{Entries}
use Rattle.bcs_registry_model.specs.Shape.{Shape}
use Rattle.bcs_registry_model.specs.View.{shape_of}
use Rattle.bcs_value_model.specs.Limits.{Bounds}
use Rattle.bcs_calls.specs.Answers.{plain}
use Rattle.bcs_calls.specs.Registries.{IsFormat, RefusesFormat}
use Rattle.bcs_calls.specs.declared.answer.Answer.{Answer}
use Rattle.bcs_calls.specs.declared.question.Question.{Question}
use Rattle.bcs_calls.specs.declared.asked.Asked.{Asked}
use Rattle.bcs_calls.specs.declared.status.Status.TheVariants.{Closed, Limits, Memory}

-- the arguments of a call besides its input: the registry that is open in the handle, or none, and the rest
pub record Request : Type 0 where
  pub opened : Option Entries
  pub format : List ℕ
  pub depth : ℕ
  pub nodes : ℕ

-- those of a call on a handle, in which this registry is open, or none
abbrev pub on_handle : Option Entries → Question → Request
on_handle registry ask = record { opened = registry; format = ask.format.now; depth = ask.depth; nodes = ask.nodes }

-- the arguments mean this registry, this format and these limits, which are allowed
pub record AsksFor (q : Request) (registry : Entries) (limits : Bounds) (s : Shape) : Type 0 where
  pub has : q.opened ≡ Some registry
  pub is_format : IsFormat registry q.format s
  pub depth : limits.depth ≡ q.depth
  pub nodes : limits.nodes ≡ q.nodes
  pub allowed : q.depth ≤ 500

-- the arguments are refused: no registry is open, or else the format, or else the depth
pub data RefusesAsk (q : Request) (a : Answer) : Type 0 where
  no_registry : q.opened ≡ None → a ≡ plain Closed → RefusesAsk q a
  no_format : (r : Entries) → q.opened ≡ Some r → RefusesFormat r q.format a → RefusesAsk q a
  no_limits : (r : Entries) (s : Shape) → q.opened ≡ Some r → IsFormat r q.format s → 500 < q.depth → a ≡ plain Limits → RefusesAsk q a

-- the arguments are valid, and this holds of what they mean; or they are refused with this answer
pub data AnswersIfAsked (q : Request) (a : Answer) (P : Entries → Bounds → Shape → Type 0) : Type 0 where
  given : (r : Entries) (l : Bounds) (s : Shape) → AsksFor q r l s → P r l s → AnswersIfAsked q a P
  refused : RefusesAsk q a → AnswersIfAsked q a P

-- this holds of whatever the arguments mean
abbrev pub Whatever : Request → (Entries → Bounds → Shape → Type 0) → Type 0
Whatever q P = (r : Entries) (l : Bounds) (s : Shape) → AsksFor q r l s → P r l s

-- this holds of the parsed arguments
abbrev pub On : Asked → (Entries → Bounds → Shape → Type 0) → Type 0
On asked P = P asked.registry.now asked.limits (shape_of asked.format.now)

-- the answer is this one, unless memory ran out
abbrev pub IsUnlessMemory : Answer → Answer → Type 0
IsUnlessMemory a b = a ≢ plain Memory → a ≡ b
