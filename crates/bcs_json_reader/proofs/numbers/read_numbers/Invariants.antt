use Rattle.bcs_json_reader.proofs.Prelude.{◌≡◌, ℕ, List, length, Ok, into_iter_items, items_view, Entries, whole_shape, of, PointerStep, item_parts, IsPlaceAmong, follow, read_all, read_data}
use Rattle.bcs_json_reader.proofs.Rows.{joined}
use Rattle.bcs_json_reader.proofs.numbers.read_numbers.Given as goal

-- what was read so far and what is left are the whole, and a place in what is left is one in the whole
abbrev pub invariant-loop-item : goal.invariant-loop-item
invariant-loop-item l =
    ((registry : Entries) (left : ℕ) → read_all (read_data registry left (of (whole_shape l.format))) (items_view l.fn.items.items)
    ≡ follow (read_all (read_data registry left (of (whole_shape l.format))) (items_view (into_iter_items l.item-iterator))) (λ ts. Ok (joined l.found.items ts)))
    × ((registry : Entries) (left : ℕ) (path : List PointerStep) → IsPlaceAmong registry path (item_parts left (whole_shape l.format) (length l.found.items) (items_view (into_iter_items l.item-iterator)))
    → IsPlaceAmong registry path (item_parts left (whole_shape l.format) 0 (items_view l.fn.items.items)))
