-- The names of faults, as they are printed.
use Rattle.std.specs.Prelude.{ℕ, List, codes}
use Rattle.bcs_registry_model.specs.declared.fault.RegistryFault.{RegistryFault}
use Rattle.bcs_registry_model.specs.declared.fault.RegistryFault.TheVariants.{NotJson, BadShape, BadNumber, TooNested, RepeatedName, UnknownName, OutOfMemory}
use Rattle.bcs_registry_model.specs.declared.growth_fault.GrowthFault.{GrowthFault}
use Rattle.bcs_registry_model.specs.declared.growth_fault.GrowthFault.TheVariants.{Missing, Changed, VariantMissing, VariantChanged}

abbrev pub registry_fault_name : RegistryFault → List ℕ
registry_fault_name NotJson = codes "NotJson"
registry_fault_name BadShape = codes "BadShape"
registry_fault_name BadNumber = codes "BadNumber"
registry_fault_name TooNested = codes "TooNested"
registry_fault_name RepeatedName = codes "RepeatedName"
registry_fault_name UnknownName = codes "UnknownName"
registry_fault_name OutOfMemory = codes "OutOfMemory"

abbrev pub growth_fault_name : GrowthFault → List ℕ
growth_fault_name Missing = codes "Missing"
growth_fault_name Changed = codes "Changed"
growth_fault_name VariantMissing = codes "VariantMissing"
growth_fault_name VariantChanged = codes "VariantChanged"
