use Rattle.bcs_json.proofs.Prelude.{IfSome, IsReadAs, IsTextOf, Ok, of, rules, shown, subst, string_bytes, shape_of, tree_of, shown_denotes}
use Rattle.bcs_json.specs.Showing.{Shows}
use Rattle.bcs_json.proofs.decoding.from_bcs.Goals as goal

pub returns-in-Some : goal.returns-in-Some
returns-in-Some c =
    let r = c.args.registry.now in
    let s = shape_of c.args.format.now in
    let t = tree_of c.in_ok-value.value in
    let back = subst (λ o. IfSome o (λ x. IsReadAs (string_bytes x) (shown r t (of s)))) c.in-Some.is c.in_ok-shown.ensures.reads_back in
    let known : Shows c.args.registry.now c.args.limits.now (shape_of c.args.format.now) c.args.bytes.now (Ok c.in-Some.text) = record {
      value = tree_of c.in_ok-value.value;
      accepted = c.in_ok-value.ensures;
      is = subst (λ o. IfSome o (λ x. IsTextOf r s t (string_bytes x))) c.in-Some.is c.in_ok-shown.ensures.text;
      denoted =
          shown_denotes c.args.registry.now c.args.limits.now (shape_of c.args.format.now) c.recall.ensures.well_formed c.recall.ensures.orderly (tree_of c.in_ok-value.value)
          c.in_ok-value.ensures.sound (string_bytes c.in-Some.text) back.0 back.1;
    } in
    search (rules, known)
