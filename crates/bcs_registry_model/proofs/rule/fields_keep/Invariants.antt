use Rattle.bcs_registry_model.proofs.Prelude.{◌≡◌, map, drop, list_all, keeps, field_of, entries_of}
use Rattle.bcs_registry_model.proofs.rule.fields_keep.Given as goal

abbrev pub invariant-loop-field : goal.invariant-loop-field
invariant-loop-field l =
    list_all (keeps l.rule (entries_of l.containers.entries.items)) (map (λ f. f.1) (map field_of l.fields))
    ≡ list_all (keeps l.rule (entries_of l.containers.entries.items)) (map (λ f. f.1) (map field_of (drop l.field-index l.fields)))
