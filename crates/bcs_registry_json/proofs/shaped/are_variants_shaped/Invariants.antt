use Rattle.bcs_registry_json.proofs.Prelude.{◌≡◌, true, members_view, view, all_variants, are_variants}
use Rattle.bcs_registry_json.proofs.shaped.are_variants_shaped.Given as goal

-- the result depends on the remaining members only
abbrev pub invariant-loop-number : goal.invariant-loop-number
invariant-loop-number l = are_variants true (view l.value) ≡ all_variants true (members_view l._number-iterator)
