-- The answer of a call that validates bytes.
use Rattle.std.specs.Prelude.{◌≡◌, ℕ, List}
use Rattle.bcs_registry_model.specs.Container.{Entries}
use Rattle.bcs_registry_model.specs.Shape.{Shape}
use Rattle.bcs_value_model.specs.Limits.{Bounds}
use Rattle.bcs_value_model.specs.Tree.{Tree}
use Rattle.bcs_decode_spec.specs.Accepting.{Accepts}
use Rattle.bcs_decode_spec.specs.Stopping.{Stops}
use Rattle.bcs_decode_spec.specs.declared.reason.Reason.{Reason}
use Rattle.bcs_calls.specs.Answers.{sized, stop_at}
use Rattle.bcs_calls.specs.declared.answer.Answer.{Answer}
use Rattle.bcs_calls.specs.declared.status.Status.TheVariants.{Done}

-- the first `n` bytes encode a value; or the bytes stop being one
pub data AnswersScan (registry : Entries) (limits : Bounds) (s : Shape) (b : List ℕ) (a : Answer) : Type 0 where
  found : (n : ℕ) (c : Tree) → Accepts registry limits s b n c → a ≡ sized Done n → AnswersScan registry limits s b a
  stopped : (e : Reason) (o : ℕ) → Stops registry limits s b e o → a ≡ stop_at e o → AnswersScan registry limits s b a
