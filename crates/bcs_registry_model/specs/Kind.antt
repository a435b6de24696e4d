-- The shape of each kind of format.
use Rattle.bcs_registry_model.specs.Shape as shape
use Rattle.bcs_registry_model.specs.Shape.{Shape, float32, float64, character}
use Rattle.bcs_registry_model.specs.View.{shape_of, formats_shapes}
use Rattle.bcs_registry_model.specs.Whole.{whole_shape}
use Rattle.bcs_registry_model.specs.declared.kind.Kind.{Kind}
use Rattle.bcs_registry_model.specs.declared.kind.Kind.TheVariants as kind
use Rattle.bcs_registry_model.specs.declared.scalar.Scalar.{Scalar}
use Rattle.bcs_registry_model.specs.declared.scalar.Scalar.TheVariants as scalar
use Rattle.bcs_registry_model.specs.declared.scalar.Unsupported.{Unsupported}
use Rattle.bcs_registry_model.specs.declared.scalar.Unsupported.TheVariants as unsupported

abbrev pub unsupported_shape : Unsupported → shape.Unsupported
unsupported_shape unsupported.F32 = float32
unsupported_shape unsupported.F64 = float64
unsupported_shape unsupported.Char = character

abbrev pub scalar_shape : Scalar → Shape
scalar_shape scalar.Unit = shape.unit
scalar_shape scalar.Bool = shape.truth
scalar_shape (scalar.Whole n) = whole_shape n
scalar_shape (scalar.Unsupported u) = shape.unsupported (unsupported_shape u)
scalar_shape scalar.Str = shape.text
scalar_shape scalar.Bytes = shape.bytes

abbrev pub kind_shape : Kind → Shape
kind_shape (kind.Scalar s) = scalar_shape s
kind_shape (kind.TypeName n) = shape.name n.now
kind_shape (kind.Opt f) = shape.option (shape_of f.now)
kind_shape (kind.Seq f) = shape.seq (shape_of f.now)
kind_shape (kind.Map k v) = shape.map (shape_of k.now) (shape_of v.now)
kind_shape (kind.Tuple fs) = shape.tuple (formats_shapes fs.now)
kind_shape (kind.TupleArray f n) = shape.array (shape_of f.now) n
