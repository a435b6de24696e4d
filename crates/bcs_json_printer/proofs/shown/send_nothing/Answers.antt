use Rattle.bcs_json_printer.proofs.Prelude.{sym, subst, on_ok_weaker, SendsValue}
use Rattle.bcs_json_printer.proofs.shown.send_nothing.Goals as goal

pub returns : goal.returns
returns g c = on_ok_weaker c.send_null.result (subst (λ d. SendsValue d (g.S.Serializer.written c.args.out.now) (g.S.Serializer.written c.send_null.new.out)) (sym c.requires.nothing)) c.send_null.ensures
