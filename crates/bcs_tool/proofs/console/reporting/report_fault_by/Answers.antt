use Rattle.bcs_tool.proofs.Prelude.{List, inr, refl, rules, subst, sym, ℕ, LineFault, ReportsFault, PutFront}
use Rattle.bcs_tool.proofs.console.reporting.report_fault_by.Goals as goal

pub returns-in-Usage : goal.returns-in-Usage
returns-in-Usage g c = search rules

pub returns-in-Ok : goal.returns-in-Ok
returns-in-Ok g c = search rules

pub returns-in-Err : goal.returns-in-Err
returns-in-Err g c =
    let P : List ℕ → Type 0 = λ text. PutFront g.O.ByteSink.taken g.O.ByteSink.is_failed c.args.out.now c.put_all.new.sink text in
    let Q : LineFault → Type 0 = λ f. ReportsFault g.O.ByteSink.taken g.O.ByteSink.is_failed g.E.ByteSink.taken g.E.ByteSink.is_failed
    c.args.keeps_lines f c.args.out.now c.put_all.new.sink c.args.errors.now c.report_note.new.errors c.report_note.result in
    let front = subst P c.as_bytes.ensures.value (_, c.in-Err.ensures.part.0, c.in-Err.ensures.part.1) in
    subst Q (sym c.in-Help.is) (inr (c.report_note.ensures.0, front, c.report_note.ensures.1))

pub returns-in-OutOfMemory : goal.returns-in-OutOfMemory
returns-in-OutOfMemory g c =
    let Q : LineFault → Type 0 = λ f. ReportsFault g.O.ByteSink.taken g.O.ByteSink.is_failed g.E.ByteSink.taken g.E.ByteSink.is_failed
    c.args.keeps_lines f c.args.out.now c.args.out.now c.args.errors.now c.report_note-in-OutOfMemory.new.errors c.report_note-in-OutOfMemory.result in
    subst Q (sym c.in-OutOfMemory.is) (c.report_note-in-OutOfMemory.ensures.0, refl, c.report_note-in-OutOfMemory.ensures.1)
