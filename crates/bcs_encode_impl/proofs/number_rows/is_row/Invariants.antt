use Rattle.bcs_encode_impl.proofs.Prelude.{◌≡◌, [], drop, false, whole_shape, all_fit, items_trees}
use Rattle.bcs_encode_impl.proofs.number_rows.is_row.Given as goal

abbrev pub invariant-loop-item : goal.invariant-loop-item
invariant-loop-item l =
    all_fit false [] (items_trees l.items) (whole_shape l.format)
    ≡ all_fit false [] (items_trees (drop l.item-index l.items)) (whole_shape l.format)
