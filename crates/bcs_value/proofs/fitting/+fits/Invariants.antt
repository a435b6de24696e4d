use Rattle.bcs_value.proofs.Prelude.{◌≡◌, map, drop, field_shapes, field_of, formats_shapes, shape_of, entries_pairs, items_trees}
use Rattle.bcs_value_model.specs.Fits as spec
use Rattle.bcs_value.proofs.fitting.+fits.Given as goal

abbrev pub invariant-all_fit-loop-item : goal.invariant-all_fit-loop-item
invariant-all_fit-loop-item l =
    spec.all_fit l.loose l.registry (items_trees l.items) (shape_of l.format)
    ≡ spec.all_fit l.loose l.registry (items_trees (drop l.item-index l.items)) (shape_of l.format)

abbrev pub invariant-each_fits-loop-i : goal.invariant-each_fits-loop-i
invariant-each_fits-loop-i l =
    spec.each_fits l.loose l.registry (items_trees l.items) (formats_shapes l.formats)
    ≡ spec.each_fits l.loose l.registry (items_trees (drop l.i l.items)) (formats_shapes (drop l.i l.formats))

abbrev pub invariant-fields_fit-loop-i : goal.invariant-fields_fit-loop-i
invariant-fields_fit-loop-i l =
    spec.each_fits l.loose l.registry (items_trees l.items) (field_shapes (map field_of l.fields))
    ≡ spec.each_fits l.loose l.registry (items_trees (drop l.i l.items)) (field_shapes (map field_of (drop l.i l.fields)))

abbrev pub invariant-pairs_fit-loop-k : goal.invariant-pairs_fit-loop-k
invariant-pairs_fit-loop-k l =
    spec.pairs_fit l.loose l.registry (entries_pairs l.pairs) (shape_of l.key) (shape_of l.value)
    ≡ spec.pairs_fit l.loose l.registry (entries_pairs (drop l.k-index l.pairs)) (shape_of l.key) (shape_of l.value)
