use Rattle.std.proofs.Common.{◌≡◌, ◌++◌, IsUtf8, flat_map}
use Rattle.std.specs.Str.Iter.{encode_utf16_rest}
use Rattle.bcs_display_text.specs.Escaped.{escaped, escaped_unit}
use Rattle.bcs_display_text.proofs.EscapedUnits.{units_left}
use Rattle.bcs_display_text.proofs.escaping.put_escaped.Given as goal

-- the output so far, followed by the escaped remaining units
abbrev pub invariant-loop-unit : goal.invariant-loop-unit
invariant-loop-unit l = record {
  text : IsUtf8 (encode_utf16_rest l.unit-iterator);
  whole : l.out.items ++ flat_map escaped_unit (units_left l.unit-iterator) ≡ l.initial.out.items ++ escaped l.text;
}
