-- The printed names of faults.
use Rattle.std.specs.Prelude.{ℕ, List, codes}
use Rattle.bcs_json_spec.specs.declared.json_fault.JsonFault.{JsonFault}
use Rattle.bcs_json_spec.specs.declared.json_fault.JsonFault.TheVariants.{NotJson, TooNested, Unsupported, BadShape, BadNumber, BadHex, UnknownField, MissingField, UnknownVariant, TooDeep, TooManyNodes, TooLong, RepeatedKey, OutOfMemory}

abbrev pub json_fault_name : JsonFault → List ℕ
json_fault_name NotJson = codes "NotJson"
json_fault_name TooNested = codes "TooNested"
json_fault_name Unsupported = codes "Unsupported"
json_fault_name BadShape = codes "BadShape"
json_fault_name BadNumber = codes "BadNumber"
json_fault_name BadHex = codes "BadHex"
json_fault_name UnknownField = codes "UnknownField"
json_fault_name MissingField = codes "MissingField"
json_fault_name UnknownVariant = codes "UnknownVariant"
json_fault_name TooDeep = codes "TooDeep"
json_fault_name TooManyNodes = codes "TooManyNodes"
json_fault_name TooLong = codes "TooLong"
json_fault_name RepeatedKey = codes "RepeatedKey"
json_fault_name OutOfMemory = codes "OutOfMemory"
