use Rattle.bcs_registry_model.proofs.Prelude.{drop}
use Rattle.bcs_registry_model.proofs.Gathering.{AreGathered}
use Rattle.bcs_registry_model.proofs.variant_numbers.numbers_by_name.Given as goal

abbrev pub invariant-loop-name : goal.invariant-loop-name
invariant-loop-name l = AreGathered l.containers.entries.items (drop l.name-index l.entries) l.by_enum
