use Rattle.bcs_value.proofs.Prelude.{◌≡◌, suc, refl, ap, ◌∙◌, arith, nodes, pairs_nodes, tree_of, entries_pairs, tree_of_pairs}
use Rattle.bcs_value.proofs.counting.+nodes.Goals as goal

pub nodes-returns-in-Pairs : goal.nodes-returns-in-Pairs
nodes-returns-in-Pairs t c =
    let e : nodes (tree_of c.args.value.now) ≡ suc (pairs_nodes (entries_pairs c.deref-in-Pairs.result.now)) =
    ap nodes (ap tree_of c.in-Pairs.is ∙ tree_of_pairs c.in-Pairs.pairs) ∙ rw c.deref-in-Pairs.ensures.value refl in
    rw e (grind (arith, c.pairs_nodes.ensures, c.saturating_add-in-Pairs.ensures))
