use Rattle.bcs_registry_model.proofs.Prelude.{◌≡◌, map, drop, same_fields, field_of}
use Rattle.bcs_registry_model.proofs.equality.are_same_fields.Given as goal

abbrev pub invariant-loop-i : goal.invariant-loop-i
invariant-loop-i l =
    same_fields (map field_of l.ones) (map field_of l.others) ≡ same_fields (map field_of (drop l.i l.ones)) (map field_of (drop l.i l.others))
