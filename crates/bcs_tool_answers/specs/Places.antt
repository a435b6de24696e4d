-- What may be printed to standard error with the answer to a job and its input: where a refusal occurred.
use Rattle.std.specs.Prelude.{◌≡◌, ◌⊎◌, ◌≤◌, [], ℕ, List, false, length}
use Rattle.std.specs.List.{All}
use Rattle.bcs_tool_command_line.specs.Files.{size_limit}
use Rattle.bcs_tool_command_line.specs.Jobs.{coding_of}
use Rattle.bcs_tool_command_line.specs.declared.work.Work.{Work}
use Rattle.bcs_tool_answers.specs.Answers.{Answers}
use Rattle.bcs_tool_answers.specs.Input.{GivesBytes}
use Rattle.bcs_tool_answers.specs.declared.answer.Answer.{Answer}

-- the byte is printable ASCII, spaces included, so it isn't a line feed
abbrev pub IsPrintable : ℕ → Type 0
IsPrintable byte = (32 ≤ byte) × (byte ≤ 126)

-- the text may be printed for the job: nothing, or, if the job isn't quiet, one line without its end
abbrev pub MayReport : Work → List ℕ → Type 0
MayReport work place = (place ≡ []) ⊎ ((work.options.quiet ≡ false) × All IsPrintable place)

-- it may be printed with any answer to the job. Which refusal has which line is for display, and isn't specified
pub data Places (work : Work) (input place : List ℕ) : Type 0 where
  nothing : place ≡ [] → Places work input place
  told : work.options.quiet ≡ false → All IsPrintable place → Places work input place

-- the answer has this status and this output, and no place
pub record PrintsWithoutPlace (a : Answer) (status : ℕ) (output : List ℕ) : Type 0 where
  pub same_status : a.status ≡ status
  pub same_output : a.output.items ≡ output
  pub no_place : a.place.items ≡ []

-- it answers the job and its input, with a place that may be printed with it
abbrev pub IsAnswer : Work → List ℕ → Answer → Type 0
IsAnswer work input a = Answers work input a.status a.output.items × Places work input a.place.items

-- it answers every input within the size limit that gives these bytes
abbrev pub AnswersBytes : Work → List ℕ → Answer → Type 0
AnswersBytes work bytes a = (input : List ℕ) → length input ≤ size_limit → GivesBytes (coding_of work) input bytes → IsAnswer work input a
