use Rattle.bcs_encode_impl.proofs.Prelude.{◌≡◌, ◌+◌, ◌-◌, ◌*◌, ◌≤◌, [], drop, length, vec_capacity, vec_len, items_trees, whole_len, whole_shape, items_written}
use Rattle.bcs_encode_impl.proofs.number_rows.push_row.Given as goal

abbrev pub invariant-loop-item : goal.invariant-loop-item
invariant-loop-item l = record {
  reports : items_written [] (items_trees l.items) (whole_shape l.format) l.initial.out.items
      ≡ items_written [] (items_trees (drop l.item-index l.items)) (whole_shape l.format) l.out.items;
  room : vec_len l.initial.out + length l.items * whole_len l.format ≤ vec_capacity l.initial.out
      → vec_len l.out + (length l.items - l.item-index) * whole_len l.format ≤ vec_capacity l.out;
}
