-- What the answers of `diff` promise.
use Rattle.std.specs.Prelude.{◌≡◌, ◌<◌, ℕ, List}
use Rattle.bcs_tool_command_line.specs.declared.work.Work.{Work}
use Rattle.bcs_tool_answers.specs.Places.{MayReport}
use Rattle.bcs_tool_answers.specs.declared.answer.Answer.{Answer}
use Rattle.bcs_tool_answers.specs.declared.given_values.Given.{Given}
use Rattle.bcs_tool_answers.specs.declared.given_values.Given.TheVariants.{Bytes, Refused}

-- the status is that of an answer, and the place may be printed for the job
abbrev pub IsPrintedBy : Work → Answer → Type 0
IsPrintedBy work a = (a.status < 3) × MayReport work a.place.items

-- the same for the answer, if there are no bytes
abbrev pub MayBeRefused : Work → Given → Type 0
MayBeRefused work (Bytes bytes) = Unit {0}
MayBeRefused work (Refused a) = IsPrintedBy work a

-- status 0 exactly if both are the same bytes
abbrev pub TellsEquality : List ℕ → List ℕ → ℕ → Type 0
TellsEquality first second status = (first ≡ second → status ≡ 0) × (status ≡ 0 → first ≡ second)
