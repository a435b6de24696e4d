use Rattle.std.proofs.Common.{IfSome, Option, arith, subst, sym}
use Rattle.bcs_display_pieces.specs.Viewing.{RefusesView}
use Rattle.bcs_display_pieces.specs.declared.refused_view.RefusedView.{RefusedView}
use Rattle.bcs_display_pieces.proofs.views.Views.add_kind.Goals as goal

-- the text that is refused is among the texts
pub returns-in-Some-clause-refused : goal.returns-in-Some-clause-refused
returns-in-Some-clause-refused c =
    let view = c.view-item.result in
    let P : RefusedView → Type 0 = λ refused. RefusesView c.args.registry.now view refused.fault in (
      c.loop-view.view-index,
      view,
      omega (arith, c.loop-view-test.true),
      sym c.view-item.is,
      subst (λ (o : Option RefusedView). IfSome o P) c.in-Some.is c.in_ok-refused.ensures.refused,
    )
