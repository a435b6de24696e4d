use Rattle.bcs_json.proofs.Prelude.{err_from_is_err_and, bytes_eq-Decides, rules, shape_of}
use Rattle.std.specs.Str.{bytes_eq}
use Rattle.bcs_json.proofs.Outcomes.{compares}
use Rattle.bcs_json.proofs.comparing.compare.Goals as goal

pub returns-clause-compares : goal.returns-clause-compares
returns-clause-compares c =
    let one = c.in_ok-one.one.items in
    let other = c.in_ok-other.other.items in
    let known = compares c.args.registry.now c.args.limits.now (shape_of c.args.format.now) c.args.first.now c.args.second.now one other (bytes_eq one other)
    c.in_ok-one.ensures.bytes c.in_ok-other.ensures.bytes (bytes_eq-Decides one other) in
    search (rules, known)

pub returns-in_err-one-clause-memory : goal.returns-in_err-one-clause-memory
returns-in_err-one-clause-memory c =
    let p = err_from_is_err_and c.from_residual.result c.from_residual.ensures.1 in
    rw (p.1, p.2) (λ t u denotes other. c.in_err-one.ensures.memory t denotes)

pub returns-in_err-other-clause-memory : goal.returns-in_err-other-clause-memory
returns-in_err-other-clause-memory c =
    let p = err_from_is_err_and c.from_residual-in_err-other.result c.from_residual-in_err-other.ensures.1 in
    rw (p.1, p.2) (λ t u denotes other. c.in_err-other.ensures.memory u other)
