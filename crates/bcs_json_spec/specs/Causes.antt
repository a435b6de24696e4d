-- Faults of reading a text, or of encoding the value that it spells, as faults of JSON.
use Rattle.bcs_registry_json.specs.declared.json_reading.TextFault.{TextFault}
use Rattle.bcs_registry_json.specs.declared.json_reading.TextFault.TheVariants as text
use Rattle.bcs_encode_spec.specs.declared.fault.EncodeFault.{EncodeFault}
use Rattle.bcs_encode_spec.specs.declared.fault.EncodeFault.TheVariants as encode
use Rattle.bcs_json_spec.specs.declared.json_fault.JsonFault.{JsonFault}
use Rattle.bcs_json_spec.specs.declared.json_fault.JsonFault.TheVariants.{NotJson, BadShape, Unsupported, TooDeep, TooManyNodes, TooLong, RepeatedKey, OutOfMemory}

abbrev pub fault_of_text : TextFault → JsonFault
fault_of_text text.NotJson = NotJson
fault_of_text text.OutOfMemory = OutOfMemory

-- what JSON spells fits the format, so the first case never occurs
abbrev pub fault_of_value : EncodeFault → JsonFault
fault_of_value encode.NotOfFormat = BadShape
fault_of_value encode.Unsupported = Unsupported
fault_of_value encode.TooDeep = TooDeep
fault_of_value encode.TooManyNodes = TooManyNodes
fault_of_value encode.TooLong = TooLong
fault_of_value encode.RepeatedKey = RepeatedKey
fault_of_value encode.OutOfMemory = OutOfMemory
