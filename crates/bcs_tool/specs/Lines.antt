-- What is known about a run over lines, between two of them.
use Rattle.std.specs.Prelude.{◌≡◌, ◌==◌, ◌+◌, ◌<◌, ◌≤◌, ◌++◌, ◌∷◌, if◌then◌else◌, ℕ, List, Bool, true, false, All, Option, Some, None, Result, Ok, Err, length}
use Rattle.bcs_io.specs.Giving as source
use Rattle.bcs_io.specs.Taking as sink
use Rattle.bcs_io.specs.Advancing.{FailsInLine, HasNoLine, IsTooLong, RunsOut, TakesLine}
use Rattle.bcs_io.specs.Held.{HeldLine}
use Rattle.bcs_io.specs.Lines.{HasNoLineFeed, block_size, line_feeds, lines_of}
use Rattle.bcs_io.specs.declared.next_fault.NextFault.{NextFault}
use Rattle.bcs_io.specs.declared.next_fault.NextFault.TheVariants as next_fault
use Rattle.bcs_tool_answers.specs.LineAnswers.{AnswersAll, count_of, greatest}
use Rattle.bcs_tool_command_line.specs.Files.{IsContent, size_limit}
use Rattle.bcs_tool_command_line.specs.declared.work.Work.{Work}
use Rattle.bcs_tool.specs.Running.{FailsAt, of_next}
use Rattle.bcs_tool.specs.declared.jobs.interruption.Interruption.{Interruption}
use Rattle.bcs_tool.specs.declared.lines.tally.Tally.{Tally}

-- ---- the next line

-- where a run is interrupted because the next line couldn't be read
abbrev pub broken_at : NextFault → ℕ → Interruption
broken_at fault count = record { fault = of_next fault; answered = count }

module _ {S : Type 0} (content : S → Option (List ℕ)) (has_stopped : S → Bool) (allowance : S → ℕ) where
  -- why the next line couldn't be read
  abbrev pub FailsNext : NextFault → S → S → HeldLine → HeldLine → Type 0
  FailsNext next_fault.Read old new before after = FailsInLine content has_stopped allowance size_limit old new before after
  FailsNext next_fault.TooLong old new before after = IsTooLong content has_stopped allowance size_limit old new before after
  FailsNext next_fault.OutOfMemory old new before after = RunsOut content has_stopped allowance old new before

  -- whether there is a next line
  abbrev pub ReadsOn : Bool → S → S → HeldLine → HeldLine → Type 0
  ReadsOn true old new before after = TakesLine content has_stopped allowance size_limit old new before after
  ReadsOn false old new before after = HasNoLine content has_stopped allowance old new before after

  abbrev pub ReadsLine : ℕ → S → S → HeldLine → HeldLine → Result Bool Interruption → Type 0
  ReadsLine count old new before after (Ok has_line) = ReadsOn has_line old new before after
  ReadsLine count old new before after (Err e) = (fault : NextFault) × (e ≡ broken_at fault count) × FailsNext fault old new before after

-- whether all of the next line was already read; it is then the current line
abbrev pub TakesHeld : HeldLine → HeldLine → Bool → Type 0
TakesHeld before after true = (before.rest ≡ after.line ++ 10 ∷ after.rest) × HasNoLineFeed after.line
TakesHeld before after false = after.rest ≡ before.rest

-- ---- between two lines

-- the number of lines by status, and the greatest status
pub record IsTally (tally : Tally) (statuses : List ℕ) : Type 0 where
  pub answered : tally.answered ≡ length statuses
  pub done : tally.done ≡ count_of 0 statuses
  pub negative : tally.negative ≡ count_of 1 statuses
  pub refused : tally.refused ≡ count_of 2 statuses
  pub status : tally.status ≡ greatest statuses

-- the status of a run with these counts. With refusals as JSON, refused lines don't count
abbrev pub tally_status : Bool → Tally → ℕ
tally_status json tally = if json then (if tally.negative == 0 then 0 else 1) else tally.status

-- after these lines, the content consists of what was already read and what is left, if that is known
abbrev pub StandBefore : Option (List ℕ) → Option (List ℕ) → List (List ℕ) → List ℕ → Type 0
StandBefore None left lines rest = Unit {0}
StandBefore (Some all) None lines rest = ⊥
StandBefore (Some all) (Some left) lines rest = lines_of all ≡ lines ++ lines_of (rest ++ left)

module _ {S : Type 0} (content : S → Option (List ℕ)) (has_stopped : S → Bool) (allowance : S → ℕ) where
  -- these lines of the input were read, and these bytes after them
  pub record AreRead (input now : S) (lines : List (List ℕ)) (rest : List ℕ) : Type 0 where
    pub given : List ℕ
    pub took : source.Gave content has_stopped allowance input now given
    -- the rest follows the lines, and is shorter than a block
    pub front : List ℕ
    pub parts : given ≡ front ++ rest
    pub few : line_feeds front ≤ length lines
    pub ahead : length rest < block_size
    pub stand : StandBefore (content input) (content now) lines rest
    pub plain : All HasNoLineFeed lines
    -- each line took at least one byte, so the lines can be counted
    pub room : length lines + length rest + allowance now ≤ allowance input

module _ {S K : Type 0} (content : S → Option (List ℕ)) (has_stopped : S → Bool) (allowance : S → ℕ)
    (taken : K → Option (List ℕ)) (is_failed : K → Bool) where
  -- some lines were answered, and these bytes after them were read
  pub record IsSoFar (work : Work) (input now : S) (out out' : K) (rest : List ℕ) (tally : Tally) : Type 0 where
    pub lines : List (List ℕ)
    pub statuses : List ℕ
    pub output : List ℕ
    pub read : AreRead content has_stopped allowance input now lines rest
    pub answers : AnswersAll work lines statuses output
    pub put : sink.Took taken is_failed out out' output
    pub counted : IsTally tally statuses

  -- each line of the input was answered
  pub record AllAnswered (work : Work) (input : S) (out out' : K) (tally : Tally) : Type 0 where
    pub bytes : List ℕ
    pub statuses : List ℕ
    pub output : List ℕ
    pub known : IsContent (content input) bytes
    pub answers : AnswersAll work (lines_of bytes) statuses output
    pub put : sink.Took taken is_failed out out' output
    pub counted : IsTally tally statuses

  abbrev pub EndsLines : Work → S → S → K → K → Result Tally Interruption → Type 0
  EndsLines work input input' out out' (Ok tally) = AllAnswered work input out out' tally
  EndsLines work input input' out out' (Err e) = FailsAt content has_stopped allowance taken is_failed work input input' out out' e.fault e.answered
