-- Laws about the program's answers, for every job and every input.
use Rattle.std.specs.Prelude.{◌≡◌, ◌≤◌, ℕ, List, Bool, false, length}
use Rattle.std.specs.List.{All}
use Rattle.bcs_decode_spec.specs.Exact.{AreBytes}
use Rattle.bcs_io.specs.Lines.{lines_of}
use Rattle.bcs_tool_answers.specs.Answers.{Answers, IsWithin}
use Rattle.bcs_tool_answers.specs.LineAnswers.{AnswersLines}
use Rattle.bcs_tool_command_line.specs.Files.{size_limit}
use Rattle.bcs_tool_command_line.specs.declared.work.Work.{Work}
use Rattle.bcs_tool_command_line.specs.declared.command.Command.{Command}
use Rattle.bcs_tool_command_line.specs.declared.command.Command.TheVariants as command
use Rattle.bcs_tool_command_line.specs.declared.notation.Notation.{Notation}
use Rattle.bcs_tool_command_line.specs.declared.notation.Notation.TheVariants.{Path}

-- the command's output is specified byte by byte: it isn't for display, no list is requested before it, and a part is given
-- by PATH rather than by names or a pointer
abbrev pub IsExact : Command → Notation → Bool → Type 0
IsExact command.Check notation listed = Unit {0}
IsExact command.Grows notation listed = listed ≡ false
IsExact command.Encode notation listed = Unit {0}
IsExact command.Decode notation listed = Unit {0}
IsExact command.Normalise notation listed = Unit {0}
IsExact command.Same notation listed = Unit {0}
IsExact command.Part notation listed = notation ≡ Path
IsExact command.Scan notation listed = Unit {0}
IsExact other notation listed = ⊥

-- there is at most one answer if the output is exact
abbrev pub OneAnswer : Type 0
OneAnswer = (work : Work) (input : List ℕ) (status other : ℕ) (output again : List ℕ) → IsExact work.command work.options.notation work.options.list
    → Answers work input status output → Answers work input other again → (status ≡ other) × (output ≡ again)

-- and there is one for each input of bytes within the size limit
abbrev pub SomeAnswer : Type 0
SomeAnswer = (work : Work) (input : List ℕ) → AreBytes input → IsWithin work input
    → (status : ℕ) × (output : List ℕ) × Answers work input status output

-- ---- each line as an input of its own

-- there is at most one answer to the lines of an input if the output is exact and refusals aren't JSON
abbrev pub OneAnswerALine : Type 0
OneAnswerALine = (work : Work) (content : List ℕ) (status other : ℕ) (output again : List ℕ) → IsExact work.command work.options.notation work.options.list
    → work.options.json_refusals ≡ false
    → AnswersLines work content status output → AnswersLines work content other again → (status ≡ other) × (output ≡ again)

-- and there is one for bytes if each line is within the size limit
abbrev pub SomeAnswerALine : Type 0
SomeAnswerALine = (work : Work) (content : List ℕ) → AreBytes content → All (λ line. length line ≤ size_limit) (lines_of content)
    → (status : ℕ) × (output : List ℕ) × AnswersLines work content status output
