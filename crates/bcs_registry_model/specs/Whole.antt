-- The integer formats, by width.
use Rattle.std.specs.Prelude.{ℕ}
use Rattle.std.specs.Int.{byte_len}
use Rattle.bcs_num.specs.Le.{width_of}
use Rattle.bcs_registry_model.specs.Shape as shape
use Rattle.bcs_registry_model.specs.Shape.{Shape}
use Rattle.bcs_registry_model.specs.declared.integer_kind.IntegerKind.{IntegerKind}
use Rattle.bcs_registry_model.specs.declared.integer_kind.IntegerKind.TheVariants.{Unsigned, Signed}

-- the format of these integers
abbrev pub whole_shape : IntegerKind → Shape
whole_shape (Unsigned w) = shape.unsigned (width_of w)
whole_shape (Signed w) = shape.signed (width_of w)

-- the length of each of them, in bytes
abbrev pub whole_len : IntegerKind → ℕ
whole_len (Unsigned w) = byte_len (width_of w)
whole_len (Signed w) = byte_len (width_of w)
