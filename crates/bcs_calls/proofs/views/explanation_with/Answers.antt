use Rattle.bcs_calls.proofs.Prelude.{◌≡◌, shape_of}
use Rattle.std.specs.Prelude.{[]}
use Rattle.bcs_display_pieces.specs.IsPlain.{IsPlain}
use Rattle.bcs_calls.specs.Explained.{pieces, refused}
use Rattle.bcs_calls.proofs.Explanations.{pieces_if}
use Rattle.bcs_calls.proofs.views.explanation_with.Goals as goal

pub returns-in-Ok-clause-answers : goal.returns-in-Ok-clause-answers
returns-in-Ok-clause-answers c =
    let asked = c.args.asked.now in
    pieces (pieces_if asked.registry.now asked.limits (shape_of asked.format.now) c.args.bytes.now c.args.out.now c.explained.new.out c.explained.result (IsPlain c.in-Ok.views) (c.args.views.now ≡ []) c.in-Ok.ensures.none c.explained.ensures.answers)

pub returns-in-Err-clause-answers : goal.returns-in-Err-clause-answers
returns-in-Err-clause-answers c = refused c.in-Err.ensures.some c.in-Err.ensures.err
