-- What was written to a stream: a text in one piece or in two, or a prefix of it.
use Rattle.bcs_tool.proofs.Prelude.{◌≡◌, ◌<◌, ◌+◌, ◌++◌, Ok, Err, Result, arith, inl, inr, ℕ, List, Bool, Option, length, length-append, sym, subst, take, IfErr, OnOk, String, Global, take-append-add, take-append-le, Took, TookThenFailed, TookThenFailed-then, Took-then, Job, LineFault, Usage, Help, Outcome, Work, Ends, IsOutcomeOf, PutFront, Runs, Interruption, Performs, PerformsWork, ReportsFault, Put, has_files, lacks_file, no_room, over_file, over_input, unopened}
use Rattle.bcs_tool_command_line.specs.declared.line_fault.LineFault.TheVariants.{OutOfMemory}

module _ {K : Type 0} (taken : K → Option (List ℕ)) (is_failed : K → Bool) where
  -- a text is written, or a part of it
  pub is_told : {A : Type 0} (r : Result A ℕ) (old new : K) (text : List ℕ)
      → OnOk r (Took taken is_failed old new text) → IfErr r (λ n. (n < length text) × TookThenFailed taken is_failed old new (take n text)) → Put taken is_failed old new text
  is_told (Ok a) old new text whole part = inl whole
  is_told (Err n) old new text whole part = inr (n, part.0, part.1)

  -- a prefix of a text is also a prefix of the text with more after it
  pub front_of_more : (old new : K) (xs ys : List ℕ) → PutFront taken is_failed old new xs → PutFront taken is_failed old new (xs ++ ys)
  front_of_more old new xs ys (n, short, lost) =
      (n, omega (arith, length-append xs ys), subst (λ (bs : List ℕ). TookThenFailed taken is_failed old new bs) (sym (take-append-le n xs ys (omega arith))) lost)

  -- a text was written completely, and then another one, or a prefix of it
  pub told_then : (a b c : K) (xs ys : List ℕ) → Took taken is_failed a b xs → Put taken is_failed b c ys → Put taken is_failed a c (xs ++ ys)
  told_then a b c xs ys first (inl whole) = inl (Took-then taken is_failed a b c xs ys first whole)
  told_then a b c xs ys first (inr (n, short, lost)) =
      inr (length xs + n, omega (arith, length-append xs ys), subst (λ (bs : List ℕ). TookThenFailed taken is_failed a c bs) (sym (take-append-add xs ys n)) (TookThenFailed-then taken is_failed a b c xs (take n ys) first lost))

-- ---- arguments that aren't a job

module _ {O E : Type 0} (taken : O → Option (List ℕ)) (is_failed : O → Bool) (told : E → Option (List ℕ)) (has_failed : E → Bool) where
  pub fault_status : (keeps_lines : Bool) (fault : LineFault) (out out' : O) (errors errors' : E) (status : ℕ)
      → ReportsFault taken is_failed told has_failed keeps_lines fault out out' errors errors' status → status < 5
  fault_status keeps_lines (Usage text) out out' errors errors' status h = omega (arith, h.0)
  fault_status keeps_lines (Help text) out out' errors errors' status (inl h) = omega (arith, h.0)
  fault_status keeps_lines (Help text) out out' errors errors' status (inr h) = omega (arith, h.0)
  fault_status keeps_lines OutOfMemory out out' errors errors' status h = omega (arith, h.0)

-- ---- statuses

module _ {S K : Type 0} (content : S → Option (List ℕ)) (has_stopped : S → Bool) (allowance : S → ℕ)
    (taken : K → Option (List ℕ)) (is_failed : K → Bool) (work : Work) (name : List ℕ) (input input' : S) (out out' : K) (outcome : Outcome) where
  run_status : Runs content has_stopped allowance taken is_failed work name input input' out out' outcome → outcome.status < 5
  run_status runs = go runs.result runs.ends runs.is
    where
      go : (result : Result Outcome Interruption) → Ends content has_stopped allowance taken is_failed work input input' out out' result
          → IsOutcomeOf work name result outcome → outcome.status < 5
      go (Ok done) answered is = subst (λ (r : Outcome). r.status < 5) (sym is) (omega (arith, answered.below))
      go (Err e) fails is = omega (arith, is.status)

module _ {S O F : Type 0} (content : S → Option (List ℕ)) (has_stopped : S → Bool) (allowance : S → ℕ)
    (taken : O → Option (List ℕ)) (is_failed : O → Bool) (remaining : F → Option (List ℕ)) where
  work_status : (work : Work) (file : Option (String Global)) (input input' : S) (out out' : O) (outcome : Outcome)
      → PerformsWork content has_stopped allowance taken is_failed remaining work file input input' out out' outcome → outcome.status < 5
  work_status work file input input' out out' outcome (unopened name some is a b) = omega (arith, is.1.status)
  work_status work file input input' out out' outcome (no_room name some is a b) = omega (arith, is.status)
  work_status work file input input' out out' outcome (over_input none runs) = run_status _ _ _ taken is_failed work _ input input' out out' outcome runs
  work_status work file input input' out out' outcome (over_file name source source' some runs a) = run_status _ _ _ taken is_failed work _ source source' out out' outcome runs

  pub report_status : (job : Job) (input input' : S) (out out' : O) (outcome : Outcome) (status : ℕ)
      → Performs content has_stopped allowance taken is_failed remaining job input input' out out' outcome → status ≡ outcome.status → status < 5
  report_status job input input' out out' outcome status (lacks_file lacks a b) is = omega (arith, lacks.status, is)
  report_status job input input' out out' outcome status (has_files work a performs) is = omega (arith, work_status work job.file input input' out out' outcome performs, is)
