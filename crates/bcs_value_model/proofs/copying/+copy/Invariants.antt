use Rattle.bcs_value_model.proofs.Prelude.{◌≡◌, take, map, Tree, tree_of}
use Rattle.bcs_value_model.proofs.copying.+copy.Given as goal

abbrev pub invariant-copy_items-loop-item : goal.invariant-copy_items-loop-item
invariant-copy_items-loop-item l = map tree_of l.copies.items ≡ map tree_of (take l.item-index l.items)

abbrev pub invariant-copy_pairs-loop-key : goal.invariant-copy_pairs-loop-key
invariant-copy_pairs-loop-key l =
    map {B = Tree × Tree} (λ p. (tree_of p.0, tree_of p.1)) l.copies.items
    ≡ map {B = Tree × Tree} (λ p. (tree_of p.0, tree_of p.1)) (take l.key-index l.pairs)
