-- The answer to the number of a fault.
use Rattle.std.specs.Prelude.{◌≡◌, ◌≢◌, ℕ, List}
use Rattle.bcs_calls.specs.Answers.{plain}
use Rattle.bcs_calls.specs.Faults.{fault_name, fault_number}
use Rattle.bcs_calls.specs.Output.{Puts}
use Rattle.bcs_calls.specs.declared.answer.Answer.{Answer}
use Rattle.bcs_calls.specs.declared.fault.Fault.{Fault}
use Rattle.bcs_calls.specs.declared.status.Status.TheVariants.{No}

-- the fault has this number, which isn't 0
pub record IsNumbered (fault : Fault) (number : ℕ) : Type 0 where
  pub is : fault_number fault ≡ number
  pub some : number ≢ 0

-- the call returns the name of the fault with this number; or no fault has it
pub data AnswersName (number : ℕ) (old new : List ℕ) (a : Answer) : Type 0 where
  named : (fault : Fault) → IsNumbered fault number → Puts (fault_name fault) old new a → AnswersName number old new a
  none : ((fault : Fault) → IsNumbered fault number → ⊥) → a ≡ plain No → AnswersName number old new a
