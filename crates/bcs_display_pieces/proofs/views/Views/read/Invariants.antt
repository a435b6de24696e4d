use Rattle.bcs_display_pieces.specs.IsPlain.{IsPlain}
use Rattle.bcs_display_pieces.specs.Viewing.{NamesNoString}
use Rattle.bcs_display_pieces.proofs.views.Views.read.Given as goal

abbrev pub invariant-loop-kind : goal.invariant-loop-kind
invariant-loop-kind l = NamesNoString l.texts → IsPlain l.views
