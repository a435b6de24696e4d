use Rattle.bcs_registry_model.proofs.Prelude.{◌≡◌, ◌++◌}
use Rattle.bcs_registry_model.proofs.containers.Containers.of.Given as goal

abbrev pub invariant-loop-entry : goal.invariant-loop-entry
invariant-loop-entry l = l.entries.items ++ l.entry-iterator ≡ l.fn.containers.entries
