use Rattle.bcs_tool.proofs.Prelude.{List, subst, ℕ, Put}
use Rattle.bcs_tool.proofs.EndingLemmas.{is_told}
use Rattle.bcs_tool.proofs.console.reporting.report_text.Goals as goal

pub returns : goal.returns
returns g c =
    let P : List ℕ → Type 0 = λ text. Put g.E.ByteSink.taken g.E.ByteSink.is_failed c.args.errors.now c.put_all.new.sink text in
    subst P c.as_bytes.ensures.value
    (is_told g.E.ByteSink.taken g.E.ByteSink.is_failed c.put_all.result _ _ _ c.put_all.ensures.whole c.put_all.ensures.part)
