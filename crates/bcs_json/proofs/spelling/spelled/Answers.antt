use Rattle.bcs_json.proofs.Prelude.{err_from_is_err_and, of, Ok, read_data, Reports, shape_of, subst, tree_of, view}
use Rattle.bcs_json.proofs.Outcomes.{told_refusal, told_value}
use Rattle.bcs_json.proofs.spelling.spelled.Goals as goal

pub returns-in_err-json-clause-refused : goal.returns-in_err-json-clause-refused
returns-in_err-json-clause-refused c =
    let p = err_from_is_err_and c.from_residual.result c.from_residual.ensures.1 in
    rw (p.1, p.2.0, p.2.1) ((λ other. c.in_err-json.ensures.fault other c.args.registry.now c.args.limits.now (shape_of c.args.format.now)), tt)

pub returns-in-Ok-read-clause-spelled : goal.returns-in-Ok-read-clause-spelled
returns-in-Ok-read-clause-spelled c =
    told_value c.args.registry.now c.args.limits.now (shape_of c.args.format.now) c.args.text.now (view c.in_ok-json.json) c.in_ok-json.ensures.read (Ok c.in-Ok-read.value)
    (subst (λ n. Reports tree_of (Ok c.in-Ok-read.value) (read_data c.args.registry.now n (of (shape_of c.args.format.now)) (view c.in_ok-json.json))) c.depth.ensures.is c.in-Ok-read.ensures.reports)

pub returns-in-Err-clause-refused : goal.returns-in-Err-clause-refused
returns-in-Err-clause-refused c =
    told_refusal c.args.registry.now c.args.limits.now (shape_of c.args.format.now) c.args.text.now (view c.in_ok-json.json) c.in_ok-json.ensures.read c.depth.result c.depth.ensures.is c.in-Err.refusal
    c.in-Err.ensures.reports c.in-Err.ensures.placed c.text_refusal-in-Err.result c.text_refusal-in-Err.ensures.fault c.text_refusal-in-Err.ensures.steps
