use Rattle.bcs_registry_model.proofs.Prelude.{◌≡◌, drop, formats_shapes, entries_of}
use Rattle.bcs_registry_model.specs.WellFormed as spec
use Rattle.bcs_registry_model.proofs.known.+known.Given as goal

abbrev pub invariant-first_unknown_among-loop-format : goal.invariant-first_unknown_among-loop-format
invariant-first_unknown_among-loop-format l =
    spec.are_known (entries_of l.containers.entries.items) (formats_shapes l.formats)
    ≡ spec.are_known (entries_of l.containers.entries.items) (formats_shapes (drop l.format-index l.formats))
