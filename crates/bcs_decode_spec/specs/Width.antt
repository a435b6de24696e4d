-- The formats whose values are any bytes of one width.
use Rattle.std.specs.Prelude.{ℕ, Option, Some, None}
use Rattle.std.specs.Int.{byte_len}
use Rattle.bcs_registry_model.specs.Shape.{Shape, unit, unsigned, signed}

-- the width in bytes, of integers and of `UNIT`
abbrev pub integer_width : Shape → Option ℕ
integer_width unit = Some 0
integer_width (unsigned w) = Some (byte_len w)
integer_width (signed w) = Some (byte_len w)
integer_width _ = None
