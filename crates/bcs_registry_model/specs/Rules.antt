-- The rules that all formats of a registry must meet.
use Rattle.std.specs.Prelude.{Bool}
use Rattle.bcs_registry_model.specs.Shape.{Shape}
use Rattle.bcs_registry_model.specs.Container.{Entries}
use Rattle.bcs_registry_model.specs.WellFormed.{has_few_levels, is_known}
use Rattle.bcs_registry_model.specs.declared.rule.Rule.{Rule}
use Rattle.bcs_registry_model.specs.declared.rule.Rule.TheVariants.{FewLevels, KnownNames}

abbrev pub keeps : Rule → Entries → Shape → Bool
keeps FewLevels registry s = has_few_levels s
keeps KnownNames registry s = is_known registry s
