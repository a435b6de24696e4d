use Rattle.bcs_registry_model.proofs.Prelude.{◌≡◌, map, drop, list_any, bytes_eq, field_of}
use Rattle.bcs_registry_model.proofs.distinct.is_among.Given as goal

abbrev pub invariant-loop-field : goal.invariant-loop-field
invariant-loop-field l =
    list_any (bytes_eq l.name) (map (λ f. f.0) (map field_of l.fields)) ≡ list_any (bytes_eq l.name) (map (λ f. f.0) (map field_of (drop l.field-index l.fields)))
