-- The outcome of a job and its input: which answers are written, and why not all of them.
use Rattle.std.specs.Prelude.{◌≡◌, ◌⊎◌, ◌≤◌, ◌<◌, ◌+◌, ◌++◌, ℕ, List, [], ◌∷◌, Bool, true, false, IfSome, Option, Result, Ok, Err, codes, length, take}
use Rattle.std.specs.Fmt.{decimal}
use Rattle.bcs_decode.specs.Whole.{FrontGone}
use Rattle.bcs_decode_spec.specs.Exact.{AreBytes}
use Rattle.bcs_io.specs.Giving as source
use Rattle.bcs_io.specs.Taking as sink
use Rattle.bcs_io.specs.Lines.{before_block, line_feeds, lines_of}
use Rattle.bcs_io.specs.Notes.{take_note}
use Rattle.bcs_io.specs.declared.next_fault.NextFault.{NextFault}
use Rattle.bcs_io.specs.declared.next_fault.NextFault.TheVariants as next
use Rattle.bcs_tool_answers.specs.Answers.{Answers}
use Rattle.bcs_tool_answers.specs.Validating.{ReadsInput, is_unlimited}
use Rattle.bcs_tool_answers.specs.LineAnswers.{AnswersAll, AnswersLine, run_status, summary}
use Rattle.bcs_tool_answers.specs.Places.{Places}
use Rattle.bcs_tool_answers.specs.declared.answer.Answer.{Answer}
use Rattle.bcs_tool_command_line.specs.FaultPlaces.{ReportsPlace, output_text, take_place}
use Rattle.bcs_tool_command_line.specs.Files.{IsContent, size_limit}
use Rattle.bcs_io.specs.declared.taking.TakeFault.TheVariants.{Read, TooLarge, OutOfMemory}
use Rattle.bcs_tool_command_line.specs.declared.work.Outcome.{Outcome}
use Rattle.bcs_tool_command_line.specs.declared.work.Work.{Work}
use Rattle.bcs_tool.specs.declared.jobs.interruption.Interruption.{Interruption}
use Rattle.bcs_tool.specs.declared.jobs.run_fault.RunFault.{RunFault}
use Rattle.bcs_tool.specs.declared.jobs.run_fault.RunFault.TheVariants.{Take, Write}

-- ---- the answers

-- each line of the job's input is an input of its own
abbrev pub HasLines : Work → Type 0
HasLines work = (work.options.lines ≡ true) × ReadsInput work

-- the job scans raw bytes, which are validated as they arrive and not held
abbrev pub Streams : Work → Type 0
Streams work = (is_unlimited work ≡ true) × (work.options.lines ≡ false) × ReadsInput work

-- what is written for these bytes, the status, and what else may be written to standard error: one answer, or one to each line
pub data Responds (work : Work) (bytes : List ℕ) : ℕ → List ℕ → List ℕ → Type 0 where
  once : (status : ℕ) (output place : List ℕ) → ¬ HasLines work → Answers work bytes status output → Places work bytes place → Responds work bytes status output place
  -- the status is that of the run; the place reports the number of lines by status
  by_line : (statuses output place : List ℕ) → HasLines work → AnswersAll work (lines_of bytes) statuses output → ReportsPlace work.options.quiet (summary statuses) place
      → Responds work bytes (run_status work.options.json_refusals statuses) output place

-- ---- faults

-- the line for standard error
abbrev pub fault_note : RunFault → List ℕ
fault_note (Take fault) = take_note fault
fault_note Write = codes "fault: write"

-- which stream is at fault, if the input has this text; empty if memory ran out
abbrev pub stream_text : RunFault → List ℕ → List ℕ
stream_text (Take fault) name = take_place fault name
stream_text Write name = output_text

-- followed by a comma and a space, unless it is empty
abbrev pub before_more : List ℕ → List ℕ
before_more [] = []
before_more (c ∷ cs) = c ∷ cs ++ codes ", "

-- where a run is interrupted: the stream, and, if lines are answered, the number of the line after the first `count`
abbrev pub run_place : Bool → RunFault → List ℕ → ℕ → List ℕ
run_place false fault name count = stream_text fault name
run_place true fault name count = before_more (stream_text fault name) ++ codes "line " ++ decimal (count + 1)

-- the outcome reports where a run over an input with this text was interrupted
pub record IsBrokenOff (work : Work) (name : List ℕ) (e : Interruption) (outcome : Outcome) : Type 0 where
  pub status : outcome.status ≡ 4
  pub note : outcome.note.now ≡ fault_note e.fault
  pub reports : ReportsPlace work.options.quiet (run_place work.options.lines e.fault name e.answered) outcome.place.items

-- it is the outcome of a completed run, or it reports where the run was interrupted
abbrev pub IsOutcomeOf : Work → List ℕ → Result Outcome Interruption → Outcome → Type 0
IsOutcomeOf work name (Ok done) outcome = outcome ≡ done
IsOutcomeOf work name (Err e) outcome = IsBrokenOff work name e outcome

-- the fault of a run whose next line couldn't be read
abbrev pub of_next : NextFault → RunFault
of_next next.Read = Take Read
of_next next.TooLong = Take TooLarge
of_next next.OutOfMemory = Take OutOfMemory

-- ---- lines of a content

-- these are the first lines of the content, if it is known
abbrev pub AreFirst : Option (List ℕ) → List (List ℕ) → Type 0
AreFirst content lines = IfSome content (λ all. (more : List (List ℕ)) × (lines_of all ≡ lines ++ more))

-- the line after the first `count` lines of the content is too long
pub record IsLongBehind (count : ℕ) (all : List ℕ) : Type 0 where
  pub lines : List (List ℕ)
  pub long : List ℕ
  pub more : List (List ℕ)
  pub parts : lines_of all ≡ lines ++ long ∷ more
  pub many : length lines ≡ count
  pub longer : size_limit < length long

-- what holds for the bytes of a content, if they are known
abbrev pub IfTold : Option (List ℕ) → (List ℕ → Type 0) → Type 0
IfTold content P = IfSome content (λ all. AreBytes all → P all)

-- the answer to the input after these lines: to the next line, or to the whole content
abbrev pub AnswersNext : Work → Option (List ℕ) → List (List ℕ) → ℕ → List ℕ → Type 0
AnswersNext work content lines status output =
    (HasLines work × ((line : List ℕ) × AreFirst content (lines ++ line ∷ []) × AnswersLine work line status output))
    ⊎ ((¬ HasLines work) × ((bytes : List ℕ) × IsContent content bytes × Answers work bytes status output))
    ⊎ (Streams work × IfTold content (λ all. Answers work all status output))

-- ---- one answer

module _ {K : Type 0} (taken : K → Option (List ℕ)) (is_failed : K → Bool) where
  -- the answer was written, and its status and its place are returned
  pub record IsPut (answer : Answer) (out out' : K) (outcome : Outcome) : Type 0 where
    pub status : outcome.status ≡ answer.status
    pub note : outcome.note.now ≡ []
    pub place : outcome.place.items ≡ answer.place.items
    pub put : sink.Took taken is_failed out out' answer.output.items

  -- a proper prefix of the text was written, and then the output failed
  abbrev pub PutFront : K → K → List ℕ → Type 0
  PutFront out out' text = (n : ℕ) × (n < length text) × sink.TookThenFailed taken is_failed out out' (take n text)

  abbrev pub PutsAnswer : Answer → K → K → Result Outcome Interruption → Type 0
  PutsAnswer answer out out' (Ok outcome) = IsPut answer out out' outcome
  PutsAnswer answer out out' (Err e) = (e ≡ record { fault = Write; answered = 0 }) × PutFront out out' answer.output.items

-- ---- the run

module _ {S : Type 0} (content : S → Option (List ℕ)) (has_stopped : S → Bool) (allowance : S → ℕ) where
  -- the source gave no complete line after the first `count`, and then a call failed
  abbrev pub BrokeInLine : S → S → ℕ → Type 0
  BrokeInLine old new count = (given : List ℕ) × source.GaveThenFailed content has_stopped allowance old new given × (line_feeds given ≤ count)

  -- no call of it failed, and it gave no complete line after the first `count` before its last block: no block is requested
  -- before the lines of the previous one are answered
  abbrev pub GaveFew : S → S → ℕ → Type 0
  GaveFew old new count = (given : List ℕ) × source.Gave content has_stopped allowance old new given × (line_feeds (before_block given) ≤ count)

module _ {S K : Type 0} (content : S → Option (List ℕ)) (has_stopped : S → Bool) (allowance : S → ℕ)
    (taken : K → Option (List ℕ)) (is_failed : K → Bool) where
  -- exactly the answers to the first `count` lines were written, or nothing if the input isn't read by lines
  pub record PutBefore (work : Work) (input : S) (out out' : K) (count : ℕ) : Type 0 where
    pub lines : List (List ℕ)
    pub statuses : List ℕ
    pub output : List ℕ
    pub many : length lines ≡ count
    pub first : AreFirst (content input) lines
    pub answers : AnswersAll work lines statuses output
    pub put : sink.Took taken is_failed out out' output
    pub once : ¬ HasLines work → (lines ≡ []) × (out' ≡ out)

  -- after the answers to the first `count` lines, a proper prefix of the next answer was written
  pub record PutPart (work : Work) (input : S) (out out' : K) (count : ℕ) : Type 0 where
    pub lines : List (List ℕ)
    pub statuses : List ℕ
    pub before : List ℕ
    pub many : length lines ≡ count
    pub answers : AnswersAll work lines statuses before
    pub status : ℕ
    pub output : List ℕ
    pub next : AnswersNext work (content input) lines status output
    pub shown : ℕ
    pub short : shown < length output
    pub put : sink.TookThenFailed taken is_failed out out' (before ++ take shown output)
    pub once : ¬ HasLines work → lines ≡ []

  -- the input gave one byte more than an input may have; or the line after the first `count` is too long
  abbrev pub IsTooLarge : Work → S → S → ℕ → Type 0
  IsTooLarge work input input' count =
      ((¬ HasLines work) × ((bytes : List ℕ) × (length bytes ≡ size_limit + 1) × source.Gave content has_stopped allowance input input' bytes))
      ⊎ (HasLines work × ((bytes : List ℕ) × source.Gave content has_stopped allowance input input' bytes) × IfSome (content input) (IsLongBehind count))

  -- the state of the input if memory ran out: it is unchanged; or no call of it failed, and if it isn't read by lines, it gave
  -- at most the allowed number of bytes; or, if its bytes are validated as they arrive, a prefix is gone
  abbrev pub IsUnhurt : Work → S → S → Type 0
  IsUnhurt work input input' = (input' ≡ input)
      ⊎ ((bytes : List ℕ) × source.Gave content has_stopped allowance input input' bytes
      × (¬ HasLines work → (length bytes ≤ size_limit) × (has_stopped input' ≡ false)))
      ⊎ (Streams work × IfTold (content input) (λ all. FrontGone all (content input')))

  -- a call of an input that is read by lines failed before it gave a complete line after the first `count`
  abbrev pub StopsInLine : Work → S → S → ℕ → Type 0
  StopsInLine work input input' count = HasLines work → BrokeInLine content has_stopped allowance input input' count

  -- an input that is read by lines was read no further than to the line after the first `count`, except for the rest of a block
  abbrev pub ReadsNoFurther : Work → S → S → ℕ → Type 0
  ReadsNoFurther work input input' count = HasLines work → GaveFew content has_stopped allowance input input' count

  -- the run stopped with this fault, after `count` lines
  abbrev pub FailsAt : Work → S → S → K → K → RunFault → ℕ → Type 0
  FailsAt work input input' out out' (Take Read) count = ReadsInput work × (has_stopped input' ≡ true) × StopsInLine work input input' count × PutBefore work input out out' count
  FailsAt work input input' out out' (Take TooLarge) count = ReadsInput work × IsTooLarge work input input' count × ReadsNoFurther work input input' count × PutBefore work input out out' count
  FailsAt work input input' out out' (Take OutOfMemory) count = IsUnhurt work input input' × ReadsNoFurther work input input' count × PutBefore work input out out' count
  FailsAt work input input' out out' Write count = ReadsNoFurther work input input' count × PutPart work input out out' count

  -- the answers to the whole input were written; for bytes that are validated as they arrive, this holds if they are known
  pub record IsAnswered (work : Work) (input : S) (out out' : K) (outcome : Outcome) : Type 0 where
    pub note : outcome.note.now ≡ []
    pub below : outcome.status < 3
    pub output : List ℕ
    pub put : sink.Took taken is_failed out out' output
    pub responds : ((bytes : List ℕ) × IsContent (content input) bytes × Responds work bytes outcome.status output outcome.place.items)
        ⊎ (Streams work × IfTold (content input) (λ all. Responds work all outcome.status output outcome.place.items))

  -- all answers were written, or the run was interrupted
  abbrev pub Ends : Work → S → S → K → K → Result Outcome Interruption → Type 0
  Ends work input input' out out' (Ok outcome) = IsAnswered work input out out' outcome
  Ends work input input' out out' (Err e) = FailsAt work input input' out out' e.fault e.answered

  -- the outcome of a run over an input with this text; a job without an input or with refused arguments leaves it unchanged
  pub record Runs (work : Work) (name : List ℕ) (input input' : S) (out out' : K) (outcome : Outcome) : Type 0 where
    pub result : Result Outcome Interruption
    pub ends : Ends work input input' out out' result
    pub is : IsOutcomeOf work name result outcome
    pub untouched : ¬ ReadsInput work → input' ≡ input
