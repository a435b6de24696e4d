use Rattle.bcs_tool.specs.Delivering.{Delivers, to_file, to_output}
use Rattle.bcs_tool.specs.HeldOutput.{held_bytes, ran_out}
use Rattle.bcs_tool.proofs.Prelude.{◌∙◌, List, ℕ, Option, Some, inl, inr, not, refl, subst, sym, texts_of, true, String, Global, LineFault, Performs, ReportsFault, breaks_lines}
use Rattle.bcs_tool.proofs.DeliveringLemmas.{delivered_status}
use Rattle.bcs_tool.proofs.EndingLemmas.{fault_status, report_status}
use Rattle.bcs_tool.proofs.console.responding.respond.Goals as goal

-- standard output
pub returns-in-None-clause-status : goal.returns-in-None-clause-status
returns-in-None-clause-status g c =
    report_status g.S.ByteSource.content g.S.ByteSource.is_failed g.S.ByteSource.allowance g.O.ByteSink.taken g.O.ByteSink.is_failed g.R.File.Read.remaining
    _ _ _ _ _ _ _ c.open_and_run.ensures c.print_report.ensures.0

pub returns-in-None-clause-no_job : goal.returns-in-None-clause-no_job
returns-in-None-clause-no_job g c = rw c.in-Ok.is (rw (sym c.as_slice-words.ensures.value) (λ wrong. absurd (wrong c.in-Ok-line.ensures.taken)))

pub returns-in-None-clause-job : goal.returns-in-None-clause-job
returns-in-None-clause-job g c =
    let job = c.in-Ok-line.job in
    let P : Option (String Global) → Type 0 = λ output. Performs g.S.ByteSource.content g.S.ByteSource.is_failed g.S.ByteSource.allowance
    g.O.ByteSink.taken g.O.ByteSink.is_failed g.R.File.Read.remaining (record job { options = record job.options { output = output } })
    c.args.input.now c.open_and_run.new.input c.args.out.now c.open_and_run.new.out c.open_and_run.result in
    rw c.in-Ok.is (rw (sym c.as_slice-words.ensures.value) (λ good. inr (
      job,
      c.in-Ok-line.ensures.job,
      to_output (sym c.in-None.ensures.value) refl c.open_and_run.result (subst P (c.take.ensures.after ∙ c.in-None.ensures.value) c.open_and_run.ensures) c.print_report.ensures,
    )))

-- a file
pub returns-clause-status : goal.returns-clause-status
returns-clause-status g c =
    delivered_status g.R.File.Read.remaining g.S.ByteSource.content g.S.ByteSource.is_failed g.S.ByteSource.allowance g.O.ByteSink.taken g.O.ByteSink.is_failed
    g.T.OutputFile.stage g.T.OutputFile.received g.E.ByteSink.taken g.E.ByteSink.is_failed _ _ _ _ _ _ _ _ _ _ _ _ _ c.open_and_run-run.ensures c.deliver_to_file.ensures

pub returns-clause-no_job : goal.returns-clause-no_job
returns-clause-no_job g c = rw c.in-Ok.is (rw (sym c.as_slice-words.ensures.value) (λ wrong. absurd (wrong c.in-Ok-line.ensures.taken)))

pub returns-clause-job : goal.returns-clause-job
returns-clause-job g c =
    let job = c.in-Ok-line.job in
    let held = c.open_and_run-run.new.out in
    let P : Option (String Global) → Type 0 = λ output. Performs g.S.ByteSource.content g.S.ByteSource.is_failed g.S.ByteSource.allowance
    (λ sink. Some (held_bytes sink)) ran_out g.R.File.Read.remaining (record job { options = record job.options { output = output } })
    c.args.input.now c.open_and_run-run.new.input c.new-held.result held c.open_and_run-run.result in
    let Q : List ℕ → Type 0 = λ name. Delivers g.T.OutputFile.stage g.T.OutputFile.received g.E.ByteSink.taken g.E.ByteSink.is_failed job.options.quiet name held c.open_and_run-run.result
    c.args.file.now c.deliver_to_file.new.file c.args.errors.now c.deliver_to_file.new.errors c.deliver_to_file.result in
    rw c.in-Ok.is (rw (sym c.as_slice-words.ensures.value) (λ good. inr (
      job,
      c.in-Ok-line.ensures.job,
      to_file c.in-Some.name (sym c.take.ensures.value ∙ c.in-Some.is) c.new-held.result held c.open_and_run-run.result c.new-held.ensures.empty c.new-held.ensures.fresh
          (subst P c.take.ensures.after c.open_and_run-run.ensures) refl (subst Q c.as_str.ensures.value c.deliver_to_file.ensures),
    )))

-- the arguments aren't a job
pub returns-in-Err-line-clause-status : goal.returns-in-Err-line-clause-status
returns-in-Err-line-clause-status g c =
    fault_status g.O.ByteSink.taken g.O.ByteSink.is_failed g.E.ByteSink.taken g.E.ByteSink.is_failed _ c.in-Err-line.fault _ _ _ _ _ c.report_fault_of_words.ensures

pub returns-in-Err-line-clause-no_job : goal.returns-in-Err-line-clause-no_job
returns-in-Err-line-clause-no_job g c = rw c.in-Ok.is (rw (sym c.as_slice-words.ensures.value) (λ wrong. (c.in-Err-line.fault, c.in-Err-line.ensures.fault, refl, refl, c.report_fault_of_words.ensures)))

pub returns-in-Err-line-clause-job : goal.returns-in-Err-line-clause-job
returns-in-Err-line-clause-job g c =
    let P : LineFault → Type 0 = λ f. ReportsFault g.O.ByteSink.taken g.O.ByteSink.is_failed g.E.ByteSink.taken g.E.ByteSink.is_failed
    (not (breaks_lines (texts_of c.as_slice-words.result.now))) f c.args.out.now c.report_fault_of_words.new.out c.args.errors.now c.report_fault_of_words.new.errors c.report_fault_of_words.result in
    rw c.in-Ok.is (rw (sym c.as_slice-words.ensures.value) (λ good. inl (refl, refl, subst P (c.in-Err-line.ensures.good good) c.report_fault_of_words.ensures)))

-- the system didn't return the arguments
pub returns-in-Err-clause-status : goal.returns-in-Err-clause-status
returns-in-Err-clause-status g c =
    fault_status g.O.ByteSink.taken g.O.ByteSink.is_failed g.E.ByteSink.taken g.E.ByteSink.is_failed true c.in-Err.fault
    c.args.out.now c.report_fault.new.out c.args.errors.now c.report_fault.new.errors c.report_fault.result c.report_fault.ensures
