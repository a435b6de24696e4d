use Rattle.bcs_explain.proofs.Prelude.{rules}
use Rattle.bcs_explain.proofs.Covering.{one_more}
use Rattle.bcs_explain.proofs.reporting.report_piece.Goals as goal

pub returns-then-not-is_empty : goal.returns-then-not-is_empty
returns-then-not-is_empty g c = λ input h.
    one_more g.T.Listener.heard c.args.start c.args.cursor.now.place c.args.from.now c.args.cursor.now.rest.now c.args.out.now c.hear.new.self input
    c.requires.behind c.requires.within c.requires.rest (search rules) h
