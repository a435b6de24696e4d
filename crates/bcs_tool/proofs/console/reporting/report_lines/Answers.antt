use Rattle.bcs_tool.proofs.Prelude.{◌∷◌, ◌++◌, List, [], append_assoc, inr, subst, sym, ℕ, line_of, Put}
use Rattle.bcs_tool.proofs.EndingLemmas.{front_of_more, told_then}
use Rattle.bcs_tool.proofs.console.reporting.report_lines.Goals as goal

pub returns-in-Ok : goal.returns-in-Ok
returns-in-Ok g c =
    let text = c.args.text.now in
    let rest = 10 ∷ [] ++ line_of c.args.next.now in
    let P : List ℕ → Type 0 = λ told. Put g.E.ByteSink.taken g.E.ByteSink.is_failed c.args.errors.now c.report_next.new.errors told in
    subst P (sym (append_assoc text (10 ∷ []) (line_of c.args.next.now)))
    (told_then g.E.ByteSink.taken g.E.ByteSink.is_failed _ _ _ text rest c.in-Ok.ensures.whole c.report_next.ensures)

pub returns-in-Err : goal.returns-in-Err
returns-in-Err g c =
    let text = c.args.text.now in
    let rest = 10 ∷ [] ++ line_of c.args.next.now in
    let P : List ℕ → Type 0 = λ told. Put g.E.ByteSink.taken g.E.ByteSink.is_failed c.args.errors.now c.put_all.new.sink told in
    subst P (sym (append_assoc text (10 ∷ []) (line_of c.args.next.now)))
    (inr (front_of_more g.E.ByteSink.taken g.E.ByteSink.is_failed _ _ text rest (_, c.in-Err.ensures.part.0, c.in-Err.ensures.part.1)))
