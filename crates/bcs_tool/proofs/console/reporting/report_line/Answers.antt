use Rattle.bcs_tool.proofs.Prelude.{◌∷◌, [], inr}
use Rattle.bcs_tool.proofs.EndingLemmas.{front_of_more, told_then}
use Rattle.bcs_tool.proofs.console.reporting.report_line.Goals as goal

pub returns-in-Ok : goal.returns-in-Ok
returns-in-Ok g c =
    told_then g.E.ByteSink.taken g.E.ByteSink.is_failed _ _ _ c.args.text.now (10 ∷ []) c.in-Ok.ensures.whole c.report_text.ensures

pub returns-in-Err : goal.returns-in-Err
returns-in-Err g c =
    inr (front_of_more g.E.ByteSink.taken g.E.ByteSink.is_failed _ _ c.args.text.now (10 ∷ []) (_, c.in-Err.ensures.part.0, c.in-Err.ensures.part.1))
