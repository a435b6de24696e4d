use Rattle.bcs_registry_json.proofs.Prelude.{◌≡◌, ◌<◌, ◌^◌, List, ◌++◌, map, AllByRecursion, keys_of, members_view, shown_choices, choice_of, Variant}
use Rattle.bcs_registry_json.proofs.printing.variants.variant_members.Given as goal

abbrev pub invariant-loop-number : goal.invariant-loop-number
invariant-loop-number l =
    (done : List Variant) × (l.variants.entries ≡ done ++ l.number-iterator) × AllByRecursion (λ n. n < 2 ^ 32) (keys_of done)
    × (members_view l.members.entries ≡ shown_choices (map choice_of done))
