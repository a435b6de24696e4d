use Rattle.bcs_json.proofs.Prelude.{err_from_is_err_and, memory_alone, shape_of}
use Rattle.bcs_json.proofs.reading.read_value.Goals as goal

pub returns-in_err-value-clause-memory : goal.returns-in_err-value-clause-memory
returns-in_err-value-clause-memory c =
    let p = err_from_is_err_and c.from_residual.result c.from_residual.ensures.1 in
    rw (p.1, p.2) (memory_alone c.args.registry.now c.args.limits.now (shape_of c.args.format.now) c.args.text.now c.in_err-value.field-0.0.fault c.in_err-value.ensures.refused.0)
