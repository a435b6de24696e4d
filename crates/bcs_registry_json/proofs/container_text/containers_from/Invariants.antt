use Rattle.bcs_registry_json.proofs.Prelude.{view}
use Rattle.bcs_registry_json.proofs.Containers.{ContainersRead}
use Rattle.bcs_registry_json.proofs.container_text.containers_from.Given as goal

abbrev pub invariant-loop-name : goal.invariant-loop-name
invariant-loop-name l = ContainersRead (view l.value) l.name-iterator l.containers.entries
