-- Which well-formedness rule is broken first.
use Rattle.std.specs.Prelude.{◌≡◌, true, false}
use Rattle.bcs_registry_model.specs.Container.{Entries}
use Rattle.bcs_registry_model.specs.Shape.{Shape}
use Rattle.bcs_registry_model.specs.WellFormed.{has_few_levels, is_known, levels_hold, names_differ, names_known}
use Rattle.bcs_registry_model.specs.declared.fault.RegistryFault.{RegistryFault}
use Rattle.bcs_registry_model.specs.declared.fault.RegistryFault.TheVariants.{TooNested, RepeatedName, UnknownName}

-- the first rule that the registry breaks, in this order: levels, distinct names, known names
abbrev pub Breaks : Entries → RegistryFault → Type 0
Breaks registry TooNested = levels_hold registry ≡ false
Breaks registry RepeatedName = (levels_hold registry ≡ true) × (names_differ registry ≡ false)
Breaks registry UnknownName = (levels_hold registry ≡ true) × (names_differ registry ≡ true) × (names_known registry ≡ false)
Breaks _ _ = ⊥

-- the first rule that the format breaks
abbrev pub FormatBreaks : Entries → Shape → RegistryFault → Type 0
FormatBreaks registry s TooNested = has_few_levels s ≡ false
FormatBreaks registry s UnknownName = (has_few_levels s ≡ true) × (is_known registry s ≡ false)
FormatBreaks _ _ _ = ⊥
