-- The first growth fault, as a function that mirrors the program.
use Rattle.std.specs.Prelude.{ℕ, List, [], ◌∷◌, Bool, cond, Option, Some, None}
use Rattle.std.specs.Option.{option_or, option_map_or}
use Rattle.bcs_registry_model.specs.Container.{Choice, Container, enumeration, Entries, container_at, choice_numbered}
use Rattle.bcs_registry_model.specs.Equality.{same_variant, same_struct}
use Rattle.bcs_registry_model.specs.declared.growth_fault.GrowthFault.{GrowthFault}
use Rattle.bcs_registry_model.specs.declared.growth_fault.GrowthFault.TheVariants.{Missing, Changed, VariantMissing, VariantChanged}

-- the fault of the first element that has one
abbrev pub first_fault : {X : Type 0} → (X → Option GrowthFault) → List X → Option GrowthFault
first_fault fault [] = None
first_fault fault (x ∷ xs) = option_or (fault x) (first_fault fault xs)

-- fault e, unless both are the same
abbrev pub fault_unless : GrowthFault → Bool → Option GrowthFault
fault_unless e same = cond same None (Some e)

abbrev pub choice_fault : List Choice → Choice → Option GrowthFault
choice_fault newer c = option_map_or (λ v. fault_unless VariantChanged (same_variant c.1 v)) (choice_numbered c.0 newer) (Some VariantMissing)

abbrev pub container_fault : Container → Container → Option GrowthFault
container_fault (enumeration cs) (enumeration ds) = first_fault (choice_fault ds) cs
container_fault c d = fault_unless Changed (same_struct c d)

abbrev pub entry_fault : Entries → List ℕ × Container → Option GrowthFault
entry_fault newer c = option_map_or (λ d. container_fault c.1 d) (container_at c.0 newer) (Some Missing)

abbrev pub growth_fault : Entries → Entries → Option GrowthFault
growth_fault older newer = first_fault (entry_fault newer) older
