use Rattle.bcs_registry_model.proofs.Prelude.{◌≡◌, length, container_at, entries_of}
use Rattle.bcs_registry_model.proofs.Places.{Rise}
use Rattle.bcs_registry_model.proofs.containers.searched.Given as goal

-- names ascend in what is left, which answers for the whole
abbrev pub invariant-loop-entry : goal.invariant-loop-entry
invariant-loop-entry l = Rise l.left × (container_at l.name (entries_of l.entries) ≡ container_at l.name (entries_of l.left))

abbrev pub decreases-loop-entry : goal.decreases-loop-entry
decreases-loop-entry l = length l.left
