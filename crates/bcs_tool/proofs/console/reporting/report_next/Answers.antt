use Rattle.bcs_tool.proofs.Prelude.{◌∷◌, [], inr, line_of}
use Rattle.bcs_tool.proofs.EndingLemmas.{front_of_more, told_then}
use Rattle.bcs_tool.proofs.console.reporting.report_next.Goals as goal

pub returns-in-Ok : goal.returns-in-Ok
returns-in-Ok g c =
    told_then g.E.ByteSink.taken g.E.ByteSink.is_failed _ _ _ (10 ∷ []) (line_of c.args.next.now) c.in-Ok.ensures.whole c.report_line.ensures

pub returns-in-Err : goal.returns-in-Err
returns-in-Err g c =
    inr (front_of_more g.E.ByteSink.taken g.E.ByteSink.is_failed _ _ (10 ∷ []) (line_of c.args.next.now) (_, c.in-Err.ensures.part.0, c.in-Err.ensures.part.1))
