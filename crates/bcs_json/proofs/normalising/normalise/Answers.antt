use Rattle.bcs_json.proofs.Prelude.{err_from_is_err_and, memory_alone, shape_of}
use Rattle.bcs_json.proofs.normalising.normalise.Goals as goal

pub returns-in_err-normal-clause-memory : goal.returns-in_err-normal-clause-memory
returns-in_err-normal-clause-memory c =
    let p = err_from_is_err_and c.from_residual.result c.from_residual.ensures.1 in
    rw (p.1, p.2) (memory_alone c.args.registry.now c.args.limits.now (shape_of c.args.format.now) c.args.text.now c.in_err-normal.field-0.0.fault c.in_err-normal.ensures.refused.0)
