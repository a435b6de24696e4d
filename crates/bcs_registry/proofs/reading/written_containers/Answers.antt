use Rattle.bcs_registry.proofs.Prelude.{rules}
use Rattle.bcs_registry.proofs.reading.written_containers.Goals as goal

pub returns-then-is_registry_shaped-clause-ok : goal.returns-then-is_registry_shaped-clause-ok
returns-then-is_registry_shaped-clause-ok c = search rules

pub returns-then-is_registry_shaped-clause-fault : goal.returns-then-is_registry_shaped-clause-fault
returns-then-is_registry_shaped-clause-fault c = search rules

pub returns-else-is_registry_shaped-clause-ok : goal.returns-else-is_registry_shaped-clause-ok
returns-else-is_registry_shaped-clause-ok c = search rules

pub returns-else-is_registry_shaped-clause-fault : goal.returns-else-is_registry_shaped-clause-fault
returns-else-is_registry_shaped-clause-fault c = search rules

pub returns-in_default : goal.returns-in_default
returns-in_default c = search rules

pub returns-in_default-2-clause-ok : goal.returns-in_default-2-clause-ok
returns-in_default-2-clause-ok c = search rules

pub returns-in_default-2-clause-fault : goal.returns-in_default-2-clause-fault
returns-in_default-2-clause-fault c = search rules
