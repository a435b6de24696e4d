use Rattle.bcs_tool.specs.Delivering.{FailsToStore, failed, held_in_part, stored}
use Rattle.bcs_tool.specs.OutputFile.{IsStored}
use Rattle.bcs_tool.proofs.Prelude.{◌∙◌, List, ℕ, arith, refl, subst, sym}
use Rattle.bcs_tool.proofs.files.delivering.deliver_to_file.Goals as goal

pub returns-then-failed : goal.returns-then-failed
returns-then-failed g c = held_in_part (sym c.failed.ensures ∙ c.if-failed.true) refl c.out_of_memory.result c.out_of_memory.ensures c.print_report.ensures

pub returns-in-Ok : goal.returns-in-Ok
returns-in-Ok g c =
    stored (sym c.failed.ensures ∙ c.if-failed.false) (omega (arith, c.if-run-ne0.false))
    (subst (λ (bytes : List ℕ). IsStored g.T.OutputFile.stage g.T.OutputFile.received c.args.name.now bytes c.args.file.now c.write_file.new.file) c.bytes-2.ensures c.in-Ok.ensures.whole)
    c.print_report-in-Ok.ensures

pub returns : goal.returns
returns g c =
    failed (sym c.failed.ensures ∙ c.if-failed.false) (omega (arith, c.if-run-ne0.false)) c.in-Err.outcome
    (subst (λ (bytes : List ℕ). FailsToStore g.T.OutputFile.stage g.T.OutputFile.received c.args.ended.quiet c.args.name.now bytes c.args.file.now c.write_file.new.file c.in-Err.outcome) c.bytes-2.ensures c.in-Err.ensures.fault)
    c.print_report-in-Err.ensures
