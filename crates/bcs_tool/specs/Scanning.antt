-- The answer to bytes that are validated as they arrive.
use Rattle.std.specs.Prelude.{◌≡◌, ◌<◌, ℕ, List, [], Bool, true, false, Option, Result, Ok, Err}
use Rattle.bcs_registry_model.specs.Container.{Entries}
use Rattle.bcs_registry_model.specs.Shape.{Shape}
use Rattle.bcs_value_model.specs.Limits.{Bounds}
use Rattle.bcs_decode.specs.Whole.{FrontGone}
use Rattle.bcs_decode.specs.Scanned.{ScansAll, ScansFrom}
use Rattle.bcs_decode_spec.specs.declared.decode_fault.DecodeFault.{DecodeFault}
use Rattle.bcs_decode_spec.specs.declared.decode_fault.DecodeFault.TheVariants as decode_fault
use Rattle.bcs_tool_answers.specs.Answers.{Answers, stop_line}
use Rattle.bcs_tool_answers.specs.Places.{PrintsWithoutPlace}
use Rattle.bcs_tool_answers.specs.declared.answer.Answer.{Answer}
use Rattle.bcs_io.specs.declared.taking.TakeFault.TheVariants.{OutOfMemory, Read, TooLarge}
use Rattle.bcs_tool_command_line.specs.declared.work.Work.{Work}
use Rattle.bcs_tool.specs.Running.{IfTold}
use Rattle.bcs_tool.specs.declared.jobs.interruption.Interruption.{Interruption}
use Rattle.bcs_tool.specs.declared.jobs.run_fault.RunFault.{RunFault}
use Rattle.bcs_tool.specs.declared.jobs.run_fault.RunFault.TheVariants.{Take, Write}

-- the verdict on a content: on a prefix of it, or on all of it
abbrev pub Scans : Bool → Entries → Bounds → Shape → Option (List ℕ) → Option (List ℕ) → Result ℕ DecodeFault → Type 0
Scans true = ScansFrom
Scans false = ScansAll

-- the answer with the line of a stop, or why there is none
abbrev pub RefusesScan : DecodeFault → Result Answer Interruption → Type 0
RefusesScan (decode_fault.Stop stop) (Ok a) = PrintsWithoutPlace a 2 (stop_line stop.reason stop.place)
RefusesScan (decode_fault.Stop stop) (Err e) = e ≡ record { fault = Take OutOfMemory; answered = 0 }
RefusesScan decode_fault.Read (Ok a) = ⊥
RefusesScan decode_fault.Read (Err e) = e ≡ record { fault = Take Read; answered = 0 }
RefusesScan decode_fault.OutOfMemory (Ok a) = ⊥
RefusesScan decode_fault.OutOfMemory (Err e) = e ≡ record { fault = Take OutOfMemory; answered = 0 }

-- the answer to the content, if it is known
pub record IsScanned (work : Work) (content : Option (List ℕ)) (answer : Answer) : Type 0 where
  pub below : answer.status < 3
  pub place : answer.place.items ≡ []
  pub told : IfTold content (λ all. Answers work all answer.status answer.output.items)

module _ {S : Type 0} (content : S → Option (List ℕ)) (has_stopped : S → Bool) where
  -- a call of the input failed; or memory ran out, and a prefix of the input is gone
  abbrev pub FaultOfScan : S → S → RunFault → Type 0
  FaultOfScan input input' (Take Read) = has_stopped input' ≡ true
  FaultOfScan input input' (Take TooLarge) = ⊥
  FaultOfScan input input' (Take OutOfMemory) = IfTold (content input) (λ all. FrontGone all (content input'))
  FaultOfScan input input' Write = ⊥

  abbrev pub AnswersScan : Work → S → S → Result Answer Interruption → Type 0
  AnswersScan work input input' (Ok answer) = IsScanned work (content input) answer
  AnswersScan work input input' (Err e) = FaultOfScan input input' e.fault × (e.answered ≡ 0)
