use Rattle.bcs_registry_model.proofs.Prelude.{◌≡◌, map, list_all, flat_map, keeps, choice_of, entries_of, payload_formats}
use Rattle.bcs_registry_model.proofs.Inside.{variants_formats}
use Rattle.bcs_registry_model.proofs.rule.variants_keep.Given as goal

abbrev pub invariant-loop-variant : goal.invariant-loop-variant
invariant-loop-variant l =
    list_all (keeps l.rule (entries_of l.containers.entries.items)) (flat_map (λ c. payload_formats c.1.1) (map choice_of l.variants.entries))
    ≡ list_all (keeps l.rule (entries_of l.containers.entries.items)) (variants_formats l.variant-iterator)
