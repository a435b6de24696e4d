-- The formats of a registry (serde-reflection), without the memory layout of `Format`.
use Rattle.std.specs.Prelude.{ℕ, List}
use Rattle.std.specs.Int.{Width}

-- the formats that are accepted in registries, but have no values
pub data Unsupported : Type 0 where
  float32 : Unsupported
  float64 : Unsupported
  character : Unsupported

mutual
  pub data Shape : Type 0 where
    unit : Shape
    truth : Shape
    unsigned : Width → Shape
    signed : Width → Shape
    unsupported : Unsupported → Shape
    text : Shape
    bytes : Shape
    name : List ℕ → Shape
    option : Shape → Shape
    seq : Shape → Shape
    map : Shape → Shape → Shape
    tuple : Shapes → Shape
    -- a fixed number of elements of one format
    array : Shape → ℕ → Shape

  pub data Shapes : Type 0 where
    no_shapes : Shapes
    shape : Shape → Shapes → Shapes
