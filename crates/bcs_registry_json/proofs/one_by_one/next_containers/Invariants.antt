use Rattle.bcs_registry_json.proofs.Prelude.{length}
use Rattle.bcs_registry_json.proofs.OneByOne.{AreSpelled}
use Rattle.bcs_registry_json.proofs.one_by_one.next_containers.Given as goal

abbrev pub invariant-members : goal.invariant-members
invariant-members l = AreSpelled l.initial.reader l.reader l.containers.entries

abbrev pub decreases-members : goal.decreases-members
decreases-members l = length l.reader
