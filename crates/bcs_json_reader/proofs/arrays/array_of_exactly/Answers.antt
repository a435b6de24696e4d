use Rattle.bcs_json_reader.proofs.Prelude.{Err, ap, sym, ◌∙◌, arith, err_from_is_err_and, view}
use Rattle.bcs_json_reader.proofs.Counts.{other_items}
use Rattle.bcs_json_reader.proofs.arrays.array_of_exactly.Goals as goal

pub returns-in_err-exactly-clause-fault : goal.returns-in_err-exactly-clause-fault
returns-in_err-exactly-clause-fault c =
    let p = err_from_is_err_and c.from_residual-in_err-exactly.result c.from_residual-in_err-exactly.ensures.1 in
    rw (p.1, p.2) (λ r. other_items c.args.count r (view c.args.json) c.in_ok-items.items.items c.in_ok-items.ensures.ok
    (λ is. c.in_err-exactly.ensures.other (omega (arith, c.len.ensures, c.in_ok-items.items.ok, is))) ∙ ap Err (sym c.in_err-exactly.ensures.fault))
