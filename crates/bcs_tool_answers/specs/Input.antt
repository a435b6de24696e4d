-- What the bytes of an input represent.
use Rattle.std.specs.Prelude.{◌≡◌, ◌-◌, ◌==◌, ◌||◌, ℕ, List, [], Bool, codes, drop, length, take}
use Rattle.std.specs.List.{prefix_len, suffix_len}
use Rattle.base64.specs.Engines.{standard}
use Rattle.base64.specs.GeneralPurpose.{encode_of}
use Rattle.bcs_decode_spec.specs.Exact.{AreBytes}
use Rattle.bcs_json_spec.specs.Bytes.{IsHexOf}
use Rattle.bcs_tool_command_line.specs.declared.coding.Coding.{Coding}
use Rattle.bcs_tool_command_line.specs.declared.coding.Coding.TheVariants.{Hexadecimal, Base64, Raw}

-- a space, a tab, a line feed or a carriage return
abbrev pub is_blank : ℕ → Bool
is_blank c = c == 32 || c == 9 || c == 10 || c == 13

-- the text without the blanks at its start, at its end, and at both
abbrev pub without_front : List ℕ → List ℕ
without_front text = drop (prefix_len is_blank text) text

abbrev pub without_end : List ℕ → List ℕ
without_end text = take (length text - suffix_len is_blank text) text

abbrev pub without_blanks : List ℕ → List ℕ
without_blanks text = without_end (without_front text)

-- bytes as base64: the standard alphabet of RFC 4648, with padding
unfoldable pub base64_text : List ℕ → List ℕ
base64_text bytes = encode_of standard bytes

-- the text is the base64 of these bytes. No other text is, so it has no leftover bits and no missing padding
abbrev pub IsBase64Of : List ℕ → List ℕ → Type 0
IsBase64Of text bytes = AreBytes bytes × (text ≡ base64_text bytes)

-- the bytes that the input gives: as hexadecimal digits of either case or as base64, both possibly surrounded by blanks, or
-- raw
abbrev pub GivesBytes : Coding → List ℕ → List ℕ → Type 0
GivesBytes Hexadecimal input bytes = IsHexOf (without_blanks input) bytes
GivesBytes Base64 input bytes = IsBase64Of (without_blanks input) bytes
GivesBytes Raw input bytes = bytes ≡ input

-- the name of the refusal of an input that gives no bytes; raw input always gives bytes
abbrev pub input_fault_name : Coding → List ℕ
input_fault_name Hexadecimal = codes "BadHex"
input_fault_name Base64 = codes "BadBase64"
input_fault_name Raw = []
