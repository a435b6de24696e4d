use Rattle.bcs_registry_model.proofs.Prelude.{◌≡◌, map, drop, string_bytes, field_of, are_distinct}
use Rattle.bcs_registry_model.proofs.DistinctNames.{all_new, has_name}
use Rattle.bcs_registry_model.proofs.distinct.differ_by_set.Given as goal

abbrev pub invariant-loop-field : goal.invariant-loop-field
invariant-loop-field l =
    are_distinct (map (λ f. f.0) (map field_of l.fields)) ≡ all_new (has_name l.seen) (map (λ f. string_bytes f.name) (drop l.field-index l.fields))
