use Rattle.bcs_json_reader.proofs.Prelude.{Ok, ap, sym, ◌∙◌, view, width_of}
use Rattle.bcs_json_reader.proofs.Whole.{unsigned_told, tree_unsigned}
use Rattle.bcs_json_reader.proofs.numbers.read_unsigned.Goals as goal

pub returns-clause-reads : goal.returns-clause-reads
returns-clause-reads c =
    let n = c.in_ok-unsigned_of.field-0 in
    let told = c.in_ok-unsigned_of.ensures.ok in
    unsigned_told (width_of c.args.width) (view c.args.json) n told.0 told.1 ∙ ap Ok (sym (tree_unsigned n))
