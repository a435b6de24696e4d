-- The names of reasons, as they are printed.
use Rattle.std.specs.Prelude.{ℕ, List, codes}
use Rattle.bcs_decode_spec.specs.declared.reason.Reason.{Reason}
use Rattle.bcs_decode_spec.specs.declared.reason.Reason.TheVariants.{EndOfInput, BadBool, BadOption, LongForm, NumberTooLarge, LengthTooLarge, UnknownVariant, BadUtf8, KeyOrder, KeyRepeated, TooDeep, TrailingBytes, TooManyNodes, Unsupported}

abbrev pub reason_name : Reason → List ℕ
reason_name EndOfInput = codes "EndOfInput"
reason_name BadBool = codes "BadBool"
reason_name BadOption = codes "BadOption"
reason_name LongForm = codes "LongForm"
reason_name NumberTooLarge = codes "NumberTooLarge"
reason_name LengthTooLarge = codes "LengthTooLarge"
reason_name UnknownVariant = codes "UnknownVariant"
reason_name BadUtf8 = codes "BadUtf8"
reason_name KeyOrder = codes "KeyOrder"
reason_name KeyRepeated = codes "KeyRepeated"
reason_name TooDeep = codes "TooDeep"
reason_name TrailingBytes = codes "TrailingBytes"
reason_name TooManyNodes = codes "TooManyNodes"
reason_name Unsupported = codes "Unsupported"
