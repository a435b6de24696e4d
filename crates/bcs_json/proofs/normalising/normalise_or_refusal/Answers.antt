use Rattle.std.proofs.Common.{arith}
use Rattle.bcs_json.proofs.Prelude.{err_from_is_err_and, IfSome, IsReadAs, IsTextOf, of, rules, shown, subst, string_bytes, shape_of, tree_of}
use Rattle.bcs_json.proofs.Outcomes.{normal_nests, normalises, value_fault}
use Rattle.bcs_json.proofs.normalising.normalise_or_refusal.Goals as goal

pub returns-in_err-form-clause-refused : goal.returns-in_err-form-clause-refused
returns-in_err-form-clause-refused c =
    let p = err_from_is_err_and c.from_residual-in_err-form.result c.from_residual-in_err-form.ensures.1 in
    rw (p.1, p.2.0, p.2.1) (
      value_fault c.args.registry.now c.args.limits.now (shape_of c.args.format.now) c.args.text.now c.recall.ensures.orderly (tree_of c.in_ok-value.value) c.in_ok-value.ensures.spelled
          c.in_err-form.field-0.0 c.in_err-form.ensures.fault,
      tt,
    )

pub unreachable-requires : goal.unreachable-requires
unreachable-requires c =
    let shallow = normal_nests c.args.registry.now c.args.limits.now (shape_of c.args.format.now) c.args.text.now c.recall.ensures.well_formed c.recall.ensures.orderly (tree_of c.in_ok-value.value) (tree_of c.in_ok-form.form)
    c.in_ok-value.ensures.spelled c.in_ok-form.ensures.form in
    let deep = c.in_ok-shown.ensures.too_nested c.in-None.is in
    absurd (omega (arith, shallow, deep))

pub returns-clause-normal : goal.returns-clause-normal
returns-clause-normal c =
    let r = c.args.registry.now in
    let s = shape_of c.args.format.now in
    let t = tree_of c.in_ok-form.form in
    let known = normalises r c.args.limits.now s c.args.text.now c.recall.ensures.well_formed c.recall.ensures.orderly (tree_of c.in_ok-value.value) t
    (string_bytes c.in-Some.out) c.in_ok-value.ensures.spelled c.in_ok-form.ensures.sound c.in_ok-form.ensures.form
    (subst (λ o. IfSome o (λ x. IsTextOf r s t (string_bytes x))) c.in-Some.is c.in_ok-shown.ensures.text)
    (subst (λ o. IfSome o (λ x. IsReadAs (string_bytes x) (shown r t (of s)))) c.in-Some.is c.in_ok-shown.ensures.reads_back) in
    search (rules, known)
