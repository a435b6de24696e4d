use Rattle.bcs_registry_model.proofs.Prelude.{◌≡◌, drop, list_all, keeps, formats_shapes, entries_of, shape_list}
use Rattle.bcs_registry_model.proofs.rule.formats_keep.Given as goal

abbrev pub invariant-loop-format : goal.invariant-loop-format
invariant-loop-format l =
    list_all (keeps l.rule (entries_of l.containers.entries.items)) (shape_list (formats_shapes l.formats))
    ≡ list_all (keeps l.rule (entries_of l.containers.entries.items)) (shape_list (formats_shapes (drop l.format-index l.formats)))
