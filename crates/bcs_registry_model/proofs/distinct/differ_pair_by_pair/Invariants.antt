use Rattle.bcs_registry_model.proofs.Prelude.{◌≡◌, map, drop, field_of, are_distinct}
use Rattle.bcs_registry_model.proofs.distinct.differ_pair_by_pair.Given as goal

abbrev pub invariant-loop-i : goal.invariant-loop-i
invariant-loop-i l =
    are_distinct (map (λ f. f.0) (map field_of l.fields)) ≡ are_distinct (map (λ f. f.0) (map field_of (drop l.i l.fields)))
