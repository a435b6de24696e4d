use Rattle.bcs_json_printer.proofs.Prelude.{◌≡◌, ◌<◌, ◌≤◌, ℕ, length, map, drop, All, values_of, Data, name_of, placed, put_from}
use Rattle.bcs_json_printer.proofs.field_order.places_of.Given as goal

-- the fields from `left` on have an index
abbrev pub invariant-loop-left : goal.invariant-loop-left
invariant-loop-left l = record {
  order : (at : ℕ → Data) → placed at l.places.entries ≡ put_from at l.left (map name_of (drop l.left l.fields));
  within : All (λ i. i < length l.fields) (values_of l.places.entries);
  bound : l.left ≤ length l.fields;
}

abbrev pub decreases-loop-left : goal.decreases-loop-left
decreases-loop-left l = l.left
