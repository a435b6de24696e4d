-- The numbers of faults, as C sees them, and their names. Running out of memory has no number: it is a status.
use Rattle.std.specs.Prelude.{ℕ, List, codes}
use Rattle.bcs_registry_model.specs.FaultNames.{growth_fault_name, registry_fault_name}
use Rattle.bcs_registry_model.specs.declared.fault.RegistryFault.{RegistryFault}
use Rattle.bcs_registry_model.specs.declared.fault.RegistryFault.TheVariants as registry
use Rattle.bcs_registry_model.specs.declared.growth_fault.GrowthFault.{GrowthFault}
use Rattle.bcs_registry_model.specs.declared.growth_fault.GrowthFault.TheVariants as growth
use Rattle.bcs_decode_spec.specs.Stop.{reason_name}
use Rattle.bcs_decode_spec.specs.declared.reason.Reason.{Reason}
use Rattle.bcs_decode_spec.specs.declared.reason.Reason.TheVariants as reason
use Rattle.bcs_json_spec.specs.FaultNames.{json_fault_name}
use Rattle.bcs_json_spec.specs.declared.json_fault.JsonFault.{JsonFault}
use Rattle.bcs_json_spec.specs.declared.json_fault.JsonFault.TheVariants as json
use Rattle.bcs_move_types.specs.FaultNames.{move_refusal_name}
use Rattle.bcs_move_types.specs.declared.refusal.MoveRefusalName.{MoveRefusalName}
use Rattle.bcs_move_types.specs.declared.refusal.MoveRefusalName.TheVariants as move
use Rattle.bcs_calls.specs.declared.fault.Fault.{Fault}
use Rattle.bcs_calls.specs.declared.fault.Fault.TheVariants.{Registry, Growth, Text, Stop, ShownTooNested, BadPath, NoContent, OtherFunction, ExampleUnknownVariant, ExampleNoValue, ExampleTooManyNodes, ExampleTooNested, Move}

abbrev pub registry_number : RegistryFault → ℕ
registry_number registry.NotJson = 101
registry_number registry.BadShape = 102
registry_number registry.BadNumber = 103
registry_number registry.TooNested = 104
registry_number registry.RepeatedName = 105
registry_number registry.UnknownName = 106
registry_number registry.OutOfMemory = 0

abbrev pub growth_number : GrowthFault → ℕ
growth_number growth.Missing = 201
growth_number growth.Changed = 202
growth_number growth.VariantMissing = 203
growth_number growth.VariantChanged = 204

abbrev pub text_number : JsonFault → ℕ
text_number json.NotJson = 301
text_number json.TooNested = 302
text_number json.Unsupported = 303
text_number json.BadShape = 304
text_number json.BadNumber = 305
text_number json.BadHex = 306
text_number json.UnknownField = 307
text_number json.MissingField = 308
text_number json.UnknownVariant = 309
text_number json.TooDeep = 310
text_number json.TooManyNodes = 311
text_number json.TooLong = 312
text_number json.RepeatedKey = 313
text_number json.OutOfMemory = 0

abbrev pub reason_number : Reason → ℕ
reason_number reason.EndOfInput = 401
reason_number reason.BadBool = 402
reason_number reason.BadOption = 403
reason_number reason.LongForm = 404
reason_number reason.NumberTooLarge = 405
reason_number reason.LengthTooLarge = 406
reason_number reason.UnknownVariant = 407
reason_number reason.BadUtf8 = 408
reason_number reason.KeyOrder = 409
reason_number reason.KeyRepeated = 410
reason_number reason.TooDeep = 411
reason_number reason.TrailingBytes = 412
reason_number reason.TooManyNodes = 413
reason_number reason.Unsupported = 414

abbrev pub move_number : MoveRefusalName → ℕ
move_number move.NotJson = 801
move_number move.RepeatedMember = 802
move_number move.NotModules = 803
move_number move.ChainError = 804
move_number move.MixedChains = 805
move_number move.RepeatedName = 806
move_number move.BadType = 807
move_number move.MissingModule = 808
move_number move.UnknownName = 809
move_number move.WrongCount = 810
move_number move.NoBytes = 811
move_number move.UnknownVariants = 812
move_number move.NotStandard = 813
move_number move.TooLarge = 814

abbrev pub fault_number : Fault → ℕ
fault_number (Registry e) = registry_number e
fault_number (Growth e) = growth_number e
fault_number (Text e) = text_number e
fault_number (Stop e) = reason_number e
fault_number ShownTooNested = 501
fault_number BadPath = 601
fault_number NoContent = 602
fault_number OtherFunction = 603
fault_number ExampleUnknownVariant = 701
fault_number ExampleNoValue = 702
fault_number ExampleTooManyNodes = 703
fault_number ExampleTooNested = 704
fault_number (Move e) = move_number e

-- as the program `bcs` prints them
abbrev pub fault_name : Fault → List ℕ
fault_name (Registry e) = registry_fault_name e
fault_name (Growth e) = growth_fault_name e
fault_name (Text e) = json_fault_name e
fault_name (Stop e) = reason_name e
fault_name ShownTooNested = codes "TooNested"
fault_name BadPath = codes "BadPath"
fault_name NoContent = codes "NoContent"
fault_name OtherFunction = codes "OtherFunction"
fault_name ExampleUnknownVariant = codes "UnknownVariant"
fault_name ExampleNoValue = codes "NoValue"
fault_name ExampleTooManyNodes = codes "TooManyNodes"
fault_name ExampleTooNested = codes "TooNested"
fault_name (Move e) = move_refusal_name e
