use Rattle.bcs_json.proofs.Prelude.{err_from_is_err_and}
use Rattle.bcs_json.proofs.Outcomes.{text_fault}
use Rattle.bcs_json.proofs.spelling.json_of.Goals as goal

pub returns-in_err-json-clause-fault : goal.returns-in_err-json-clause-fault
returns-in_err-json-clause-fault c =
    let p = err_from_is_err_and c.from_residual.result c.from_residual.ensures.1 in
    rw (p.1, p.2) (λ other registry limits s. text_fault registry limits s c.args.text.now c.in_err-json.field-0.0 c.read_json.result c.in_err-json.was c.read_json.ensures.not_json other)
