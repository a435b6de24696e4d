use Rattle.bcs_registry_model.proofs.Prelude.{◌≡◌, map, list_all, flat_map, choice_of, are_distinct, payload_names}
use Rattle.bcs_registry_model.proofs.Inside.{variants_names}
use Rattle.bcs_registry_model.proofs.distinct.have_distinct_fields.Given as goal

abbrev pub invariant-loop-variant : goal.invariant-loop-variant
invariant-loop-variant l =
    list_all are_distinct (flat_map (λ c. payload_names c.1.1) (map choice_of l.variants.entries)) ≡ list_all are_distinct (variants_names l.variant-iterator)
