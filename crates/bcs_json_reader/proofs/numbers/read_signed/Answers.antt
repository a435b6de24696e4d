use Rattle.bcs_json_reader.proofs.Prelude.{ℤ, Ok, ap, sym, ◌∙◌, w128, to_z-of_z, view, width_of, tree_of, Signed}
use Rattle.bcs_json_reader.proofs.Whole.{signed_told, tree_signed, widen}
use Rattle.bcs_json_reader.proofs.numbers.read_signed.Goals as goal

pub returns-clause-reads : goal.returns-clause-reads
returns-clause-reads c =
    let z = c.in_ok-signed_of.field-0 in
    let told = c.in_ok-signed_of.ensures.ok in
    signed_told (width_of c.args.width) (view c.args.json) z told.0 told.1 ∙ ap Ok (sym (tree_signed z))
    ∙ ap (λ (y : ℤ). Ok (tree_of (Signed y))) (sym (to_z-of_z w128 z (widen (width_of c.args.width) z told.1)))
