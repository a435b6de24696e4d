use Rattle.bcs_tool.proofs.Prelude.{◌∷◌, [], List, subst, ℕ, Put}
use Rattle.bcs_tool.proofs.EndingLemmas.{told_then}
use Rattle.bcs_tool.proofs.Showing.{usage_line}
use Rattle.bcs_tool.proofs.console.reporting.report_usage.Goals as goal

pub returns-then-not-keeps_lines : goal.returns-then-not-keeps_lines
returns-then-not-keeps_lines g c =
    let P : List ℕ → Type 0 = λ text. Put g.E.ByteSink.taken g.E.ByteSink.is_failed c.args.errors.now c.report_text.new.errors text in
    subst P (usage_line c.args.keeps_lines c.args.text.now c.if-not-keeps_lines.true)
    (told_then g.E.ByteSink.taken g.E.ByteSink.is_failed _ _ _ _ (10 ∷ []) c.in-Ok.ensures.whole c.report_text.ensures)
