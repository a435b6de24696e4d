use Rattle.bcs_registry_json.proofs.Prelude.{◌≡◌, true, members_view, view, all_containers, is_registry}
use Rattle.bcs_registry_json.proofs.shaped.is_registry_shaped.Given as goal

-- the result depends on the remaining members only
abbrev pub invariant-loop-name : goal.invariant-loop-name
invariant-loop-name l = is_registry true (view l.value) ≡ all_containers true (members_view l._name-iterator)
