use Rattle.bcs_registry_model.proofs.Prelude.{◌≡◌, map, first_fault, choice_fault, choice_of}
use Rattle.bcs_registry_model.proofs.growth.variants_grow.Given as goal

abbrev pub invariant-loop-number : goal.invariant-loop-number
invariant-loop-number l =
    first_fault (choice_fault (map choice_of l.newer.entries)) (map choice_of l.older.entries)
    ≡ first_fault (choice_fault (map choice_of l.newer.entries)) (map choice_of l.number-iterator)
