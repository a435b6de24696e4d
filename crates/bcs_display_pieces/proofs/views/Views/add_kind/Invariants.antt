use Rattle.bcs_display_pieces.specs.IsPlain.{IsPlain}
use Rattle.bcs_display_pieces.specs.Viewing.{NamesNoString}
use Rattle.bcs_display_pieces.proofs.views.Views.add_kind.Given as goal

abbrev pub invariant-loop-view : goal.invariant-loop-view
invariant-loop-view l = NamesNoString l.texts → IsPlain l.initial.self → IsPlain l.self
