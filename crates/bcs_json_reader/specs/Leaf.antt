-- Reading values without parts.
use Rattle.std.specs.Prelude.{Err}
use Rattle.serde_json.specs.Data.{Data}
use Rattle.bcs_registry_model.specs.Shape as shape
use Rattle.bcs_registry_model.specs.Shape.{Shape}
use Rattle.bcs_value_model.specs.Tree.{Tree}
use Rattle.bcs_json_spec.specs.Reading.{Read, read_unit, read_truth, read_unsigned, read_signed, read_text, read_bytes}
use Rattle.bcs_json_spec.specs.declared.json_fault.JsonFault.TheVariants.{Unsupported}

-- formats with parts are read elsewhere
abbrev pub read_leaf : Shape → Data → Read Tree
read_leaf shape.unit = read_unit
read_leaf shape.truth = read_truth
read_leaf (shape.unsigned w) = read_unsigned w
read_leaf (shape.signed w) = read_signed w
read_leaf shape.text = read_text
read_leaf shape.bytes = read_bytes
read_leaf _ = λ j. Err Unsupported
