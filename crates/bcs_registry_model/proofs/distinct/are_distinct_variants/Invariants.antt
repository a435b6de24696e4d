use Rattle.bcs_registry_model.proofs.Prelude.{◌≡◌, map, string_bytes, choice_of, are_distinct}
use Rattle.bcs_registry_model.proofs.DistinctNames.{all_new, has_name}
use Rattle.bcs_registry_model.proofs.distinct.are_distinct_variants.Given as goal

abbrev pub invariant-loop-variant : goal.invariant-loop-variant
invariant-loop-variant l =
    are_distinct (map (λ c. c.1.0) (map choice_of l.variants.entries)) ≡ all_new (has_name l.seen) (map (λ v. string_bytes v.name) l.variant-iterator)
