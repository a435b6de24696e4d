use Rattle.bcs_encode_impl.proofs.Prelude.{[], drop, whole_shape, items_trees, items_written, Continues}
use Rattle.bcs_encode_impl.proofs.output.Output.push_each.Given as goal

abbrev pub invariant-loop-item : goal.invariant-loop-item
invariant-loop-item l =
    Continues l.initial.self l.self (items_written [] (items_trees l.items) (whole_shape l.format)) (items_written [] (items_trees (drop l.item-index l.items)) (whole_shape l.format))
