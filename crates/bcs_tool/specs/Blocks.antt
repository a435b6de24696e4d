-- The answers to the lines of a block.
use Rattle.std.specs.Prelude.{◌≡◌, ◌+◌, ◌<◌, ◌++◌, ◌∷◌, [], ℕ, List, Bool, All, Option, Result, Ok, Err, length, take}
use Rattle.std.specs.declared.alloc.AllocError.{AllocError}
use Rattle.bcs_io.specs.Held.{HeldLine}
use Rattle.bcs_io.specs.Laws.{ended}
use Rattle.bcs_io.specs.Lines.{HasNoLineFeed}
use Rattle.bcs_io.specs.Taking.{Took, TookThenFailed}
use Rattle.bcs_io.specs.declared.taking.TakeFault.TheVariants.{Read, TooLarge, OutOfMemory}
use Rattle.bcs_tool_answers.specs.LineAnswers.{AnswersAll, AnswersLine}
use Rattle.bcs_tool_command_line.specs.declared.work.Work.{Work}
use Rattle.bcs_tool.specs.Lines.{IsTally}
use Rattle.bcs_tool.specs.declared.jobs.interruption.Interruption.{Interruption}
use Rattle.bcs_tool.specs.declared.jobs.run_fault.RunFault.{RunFault}
use Rattle.bcs_tool.specs.declared.jobs.run_fault.RunFault.TheVariants.{Take, Write}
use Rattle.bcs_tool.specs.declared.lines.held_answers.HeldAnswers.{HeldAnswers}
use Rattle.bcs_tool.specs.declared.lines.tally.Tally.{Tally}

-- the answer to a line was added; or memory ran out, and nothing has changed
abbrev pub HoldsAnswer : Work → List ℕ → HeldAnswers → HeldAnswers → Result ℕ AllocError → Type 0
HoldsAnswer work line old new (Ok status) = (output : List ℕ) × AnswersLine work line status output
    × (new.bytes.items ≡ old.bytes.items ++ output) × (new.lengths.items ≡ old.lengths.items ++ length output ∷ [])
HoldsAnswer work line old new (Err e) = (new.bytes.items ≡ old.bytes.items) × (new.lengths.items ≡ old.lengths.items)

-- after the current line, these lines follow at the start of what was already read
pub record AreNext (before : HeldLine) (more : List (List ℕ)) (rest : List ℕ) : Type 0 where
  pub parts : before.rest ≡ ended more ++ rest
  pub plain : All HasNoLineFeed more

module _ {K : Type 0} (taken : K → Option (List ℕ)) (is_failed : K → Bool) where
  -- the current line and those after it were answered, up to these bytes
  pub record BlockAnswered (work : Work) (earlier tally : Tally) (before : HeldLine) (rest : List ℕ) (out out' : K) : Type 0 where
    pub more : List (List ℕ)
    pub next : AreNext before more rest
    pub statuses : List ℕ
    pub output : List ℕ
    pub answers : AnswersAll work (before.line ∷ more) statuses output
    pub put : Took taken is_failed out out' output
    pub counted : (given : List ℕ) → IsTally earlier given → IsTally tally (given ++ statuses)

  -- a proper prefix of the answer to the first of these lines was written, after this output
  pub record PutsPartOfNext (work : Work) (lines : List (List ℕ)) (before : List ℕ) (out out' : K) : Type 0 where
    pub line : List ℕ
    pub later : List (List ℕ)
    pub parts : lines ≡ line ∷ later
    pub status : ℕ
    pub output : List ℕ
    pub answer : AnswersLine work line status output
    pub shown : ℕ
    pub short : shown < length output
    pub put : TookThenFailed taken is_failed out out' (before ++ take shown output)

  -- after this output, memory ran out, or the output failed in the answer to the next one of these lines
  abbrev pub StopsBefore : Work → List (List ℕ) → List ℕ → K → K → RunFault → Type 0
  StopsBefore work lines before out out' (Take Read) = ⊥
  StopsBefore work lines before out out' (Take TooLarge) = ⊥
  StopsBefore work lines before out out' (Take OutOfMemory) = Took taken is_failed out out' before
  StopsBefore work lines before out out' Write = PutsPartOfNext work lines before out out'

  -- only some of the lines were answered
  pub record BlockStopped (work : Work) (earlier : Tally) (before : HeldLine) (out out' : K) (e : Interruption) : Type 0 where
    pub more : List (List ℕ)
    pub rest : List ℕ
    pub next : AreNext before more rest
    pub done : List (List ℕ)
    pub left : List (List ℕ)
    pub parts : before.line ∷ more ≡ done ++ left
    pub statuses : List ℕ
    pub output : List ℕ
    pub answers : AnswersAll work done statuses output
    pub many : e.answered ≡ earlier.answered + length done
    pub stops : StopsBefore work left output out out' e.fault

  abbrev pub EndsBlock : Work → Tally → HeldLine → HeldLine → K → K → Result Tally Interruption → Type 0
  EndsBlock work earlier before after out out' (Ok tally) = BlockAnswered work earlier tally before after.rest out out'
  EndsBlock work earlier before after out out' (Err e) = BlockStopped work earlier before out out' e
