-- What a call writes to the output.
use Rattle.std.specs.Prelude.{◌≡◌, ◌<◌, ◌≤◌, ◌++◌, ℕ, List, drop, length}
use Rattle.bcs_calls.specs.Answers.{sized}
use Rattle.bcs_calls.specs.declared.answer.Answer.{Answer}
use Rattle.bcs_calls.specs.declared.status.Status.TheVariants.{Done, Short}

-- the bytes are at the start of the output, and the rest is unchanged; or it is too short for them, and unchanged
pub data Puts (bytes old new : List ℕ) (a : Answer) : Type 0 where
  whole : length bytes ≤ length old → new ≡ bytes ++ drop (length bytes) old → a ≡ sized Done (length bytes) → Puts bytes old new a
  short : length old < length bytes → new ≡ old → a ≡ sized Short (length bytes) → Puts bytes old new a
