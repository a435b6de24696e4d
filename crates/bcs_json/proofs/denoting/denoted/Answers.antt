use Rattle.bcs_json.proofs.Prelude.{err_from_is_err_and, shape_of, tree_of}
use Rattle.bcs_json.proofs.Outcomes.{value_fault}
use Rattle.bcs_json.proofs.denoting.denoted.Goals as goal

pub returns-in_err-bytes-clause-refused : goal.returns-in_err-bytes-clause-refused
returns-in_err-bytes-clause-refused c =
    let p = err_from_is_err_and c.from_residual-in_err-bytes.result c.from_residual-in_err-bytes.ensures.1 in
    rw (p.1, p.2.0, p.2.1) (
      value_fault c.args.registry.now c.args.limits.now (shape_of c.args.format.now) c.args.text.now c.recall.ensures.orderly (tree_of c.in_ok-value.value) c.in_ok-value.ensures.spelled
          c.in_err-bytes.field-0.0 c.in_err-bytes.ensures.fault,
      tt,
    )
