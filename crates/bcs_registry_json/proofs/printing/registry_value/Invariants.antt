use Rattle.bcs_registry_json.proofs.Prelude.{◌≡◌, drop, List, ◌++◌, members_view, shown_containers, entries_of, Stored}
use Rattle.bcs_registry_json.proofs.printing.registry_value.Given as goal

abbrev pub invariant-loop-name : goal.invariant-loop-name
invariant-loop-name l =
    (done : List Stored) × (l.entries ≡ done ++ drop l.name-index l.entries) × (members_view l.members.entries ≡ shown_containers (entries_of done))
