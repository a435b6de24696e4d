use Rattle.bcs_json_tokens.proofs.Prelude.{◌≡◌, ◌+◌, ◌∷◌, List, ap, sym, ◌∙◌, drop, arith, get_or, drop_more, drop_all, Value, byte_trees, joined, joined-none, byte_more, tree_unsigned}
use Rattle.bcs_value_model.specs.Tree.{unsigned}
use Rattle.bcs_value_model.specs.declared.value.Value.{Unsigned}
use Rattle.bcs_json_tokens.proofs.leaves.byte_values.Goals as goal

pub loop-byte-preserved : goal.loop-byte-preserved
loop-byte-preserved c =
    let l = c.loop-byte in
    let xs = c.args.bytes.now in
    let x = get_or xs l.byte-index 0 in
    let left = drop (l.byte-index + 1) xs in
    let here : drop l.byte-index xs ≡ x ∷ left = drop_more xs l.byte-index 0 (omega (arith, c.loop-byte-test.true)) in
    l.invariant
    ∙ byte_more l.found.items (Unsigned c.from.result) x (drop l.byte-index xs) left here (tree_unsigned c.from.result ∙ ap unsigned c.from.ensures)
    ∙ ap (λ (vs : List Value). joined vs (byte_trees left)) (sym c.in_ok-push.ensures.items)

pub returns-clause-made : goal.returns-clause-made
returns-clause-made c =
    let l = c.loop-byte in
    let none = drop_all l.byte-index c.args.bytes.now c.loop-byte-test.false in
    sym (l.invariant ∙ ap (λ ys. joined l.found.items (byte_trees ys)) none ∙ joined-none l.found.items)
