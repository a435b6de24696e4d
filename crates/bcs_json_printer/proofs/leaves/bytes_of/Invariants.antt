use Rattle.bcs_json_printer.proofs.Prelude.{◌≡◌, ◌++◌, true, drop, items_trees, are_bytes, trees_bytes}
use Rattle.bcs_json_printer.proofs.leaves.bytes_of.Given as goal

-- the whole is what was read so far, followed by the rest
abbrev pub invariant-loop-item : goal.invariant-loop-item
invariant-loop-item l = record {
  whole : trees_bytes (items_trees l.items) ≡ l.bytes.items ++ trees_bytes (items_trees (drop l.item-index l.items));
  bytes : are_bytes (trees_bytes (items_trees (drop l.item-index l.items))) ≡ true;
}
