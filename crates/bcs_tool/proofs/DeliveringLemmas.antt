-- The status of a job whose answer goes to a file.
use Rattle.bcs_tool.proofs.Prelude.{◌≡◌, ◌<◌, arith, inl, inr, ℕ, Bool, List, Option, Some, Job, Outcome, Performs}
use Rattle.bcs_tool.specs.Delivering.{Delivers, FailsToStore, failed, held_in_part, refused, stored, unopened, unstored}
use Rattle.bcs_tool.specs.HeldOutput.{held_bytes, ran_out}
use Rattle.bcs_tool.specs.OutputFile.{Stage}
use Rattle.bcs_tool.specs.declared.files.held_output.HeldOutput.{HeldOutput}
use Rattle.bcs_tool.specs.declared.files.output_file.OpenFailed.TheVariants.{Refused, OutOfMemory}
use Rattle.bcs_tool.proofs.EndingLemmas.{report_status}

module _ {F S O T E : Type 0} (remaining : F → Option (List ℕ)) (content : S → Option (List ℕ)) (has_stopped : S → Bool) (allowance : S → ℕ)
    (taken : O → Option (List ℕ)) (is_failed : O → Bool) (stage : T → Stage) (received : T → Option (List ℕ)) (told : E → Option (List ℕ)) (has_failed : E → Bool) where
  fails_status : (quiet : Bool) (name bytes : List ℕ) (file file' : T) (outcome : Outcome) → FailsToStore stage received quiet name bytes file file' outcome → outcome.status ≡ 4
  fails_status quiet name bytes file file' outcome (unopened keeps (Refused cause) is) = is.fault.status
  fails_status quiet name bytes file file' outcome (unopened keeps OutOfMemory is) = is.fault.status
  fails_status quiet name bytes file file' outcome (unstored part cause is) = is.fault.status

  pub delivered_status : (job : Job) (quiet : Bool) (name : List ℕ) (input input' : S) (empty held : HeldOutput) (run : Outcome) (file file' : T) (errors errors' : E) (status : ℕ)
      → Performs content has_stopped allowance (λ sink. Some (held_bytes sink)) ran_out remaining job input input' empty held run
      → Delivers stage received told has_failed quiet name held run file file' errors errors' status → status < 5
  delivered_status job quiet name input input' empty held run file file' errors errors' status performs (held_in_part lost stays outcome is prints) = omega (arith, prints.0, is.fault.status)
  delivered_status job quiet name input input' empty held run file file' errors errors' status performs (refused whole bad stays (inl h)) =
      report_status content has_stopped allowance (λ sink. Some (held_bytes sink)) ran_out remaining job input input' empty held run status performs h.2.0
  delivered_status job quiet name input input' empty held run file file' errors errors' status performs (refused whole bad stays (inr h)) =
      report_status content has_stopped allowance (λ sink. Some (held_bytes sink)) ran_out remaining job input input' empty held run status performs h.1
  delivered_status job quiet name input input' empty held run file file' errors errors' status performs (stored whole done is prints) =
      report_status content has_stopped allowance (λ sink. Some (held_bytes sink)) ran_out remaining job input input' empty held run status performs prints.0
  delivered_status job quiet name input input' empty held run file file' errors errors' status performs (failed whole done outcome fails prints) =
      omega (arith, prints.0, fails_status quiet name (held_bytes held) file file' outcome fails)
