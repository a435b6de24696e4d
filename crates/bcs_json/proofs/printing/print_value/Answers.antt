use Rattle.bcs_json.proofs.Prelude.{IfSome, IsReadAs, IsTextOf, of, shown, subst, string_bytes, shape_of, tree_of}
use Rattle.bcs_json.proofs.Outcomes.{prints}
use Rattle.bcs_json.proofs.printing.print_value.Goals as goal

pub returns-in-Some-clause-prints : goal.returns-in-Some-clause-prints
returns-in-Some-clause-prints c =
    let r = c.args.registry.now in
    let s = shape_of c.args.format.now in
    let t = tree_of c.in_ok-form.form in
    prints c.args.registry.now c.args.limits.now (shape_of c.args.format.now) c.recall.ensures.well_formed c.recall.ensures.orderly
    (tree_of c.args.value.now) (tree_of c.in_ok-form.form) (string_bytes c.in-Some.text) c.in_ok-form.ensures.sound c.in_ok-form.ensures.form
    (subst (λ o. IfSome o (λ x. IsTextOf r s t (string_bytes x))) c.in-Some.is c.in_ok-shown.ensures.text)
    (subst (λ o. IfSome o (λ x. IsReadAs (string_bytes x) (shown r t (of s)))) c.in-Some.is c.in_ok-shown.ensures.reads_back)
