-- The shape of a `Format`, and the contents of a `Container`.
use Rattle.std.specs.Prelude.{ℕ, List, [], ◌∷◌, map, String, string_bytes}
use Rattle.std.specs.Int.{w8, w16, w32, w64, w128}
use Rattle.std.specs.declared.alloc.Global.{Global}
use Rattle.bcs_registry_model.specs.Shape as shape
use Rattle.bcs_registry_model.specs.Shape.{Shape, Shapes, float32, float64, character}
use Rattle.bcs_registry_model.specs.Container as container
use Rattle.bcs_registry_model.specs.Container.{Field, Payload, Choice, Container, Entries}
use Rattle.bcs_registry_model.specs.declared.named.Named.{Named}
use Rattle.bcs_registry_model.specs.declared.variant_format.VariantFormat.{VariantFormat}
use Rattle.bcs_registry_model.specs.declared.variant_format.VariantFormat.TheVariants as variant_format
use Rattle.bcs_registry_model.specs.declared.container.Container as declared
use Rattle.bcs_registry_model.specs.declared.container.Container.TheVariants as declared_container
use Rattle.bcs_registry_model.specs.declared.format.Format.{Format, fold-Format}
use Rattle.bcs_registry_model.specs.declared.format.Format.TheOpen.{Format-F}

abbrev pub shapes_of : List Shape → Shapes
shapes_of [] = shape.no_shapes
shapes_of (f ∷ fs) = shape.shape f (shapes_of fs)

-- one level, where each inner format has already been replaced with its shape
abbrev pub shape_step : Format-F Shape → Shape
shape_step Format-F.Unit = shape.unit
shape_step Format-F.Bool = shape.truth
shape_step Format-F.I8 = shape.signed w8
shape_step Format-F.I16 = shape.signed w16
shape_step Format-F.I32 = shape.signed w32
shape_step Format-F.I64 = shape.signed w64
shape_step Format-F.I128 = shape.signed w128
shape_step Format-F.U8 = shape.unsigned w8
shape_step Format-F.U16 = shape.unsigned w16
shape_step Format-F.U32 = shape.unsigned w32
shape_step Format-F.U64 = shape.unsigned w64
shape_step Format-F.U128 = shape.unsigned w128
shape_step Format-F.F32 = shape.unsupported float32
shape_step Format-F.F64 = shape.unsupported float64
shape_step Format-F.Char = shape.unsupported character
shape_step Format-F.Str = shape.text
shape_step Format-F.Bytes = shape.bytes
shape_step (Format-F.TypeName n) = shape.name (string_bytes n)
shape_step (Format-F.Opt f) = shape.option f.value
shape_step (Format-F.Seq f) = shape.seq f.value
shape_step (Format-F.Map k v) = shape.map k.value v.value
shape_step (Format-F.Tuple fs) = shape.tuple (shapes_of fs.items)
shape_step (Format-F.TupleArray f n) = shape.array f.value n

abbrev pub shape_of : Format → Shape
shape_of = fold-Format Shape shape_step

abbrev pub formats_shapes : List Format → Shapes
formats_shapes fs = shapes_of (map shape_of fs)

abbrev pub field_of : Named Format → Field
field_of f = (string_bytes f.name, shape_of f.value)

abbrev pub payload_of : VariantFormat → Payload
payload_of variant_format.Unit = container.unit
payload_of (variant_format.NewType f) = container.newtype (shape_of f)
payload_of (variant_format.Tuple fs) = container.tuple (formats_shapes fs.items)
payload_of (variant_format.Struct fs) = container.fields (map field_of fs.items)

abbrev pub choice_of : ℕ × Named VariantFormat → Choice
choice_of e = (e.0, (string_bytes e.1.name, payload_of e.1.value))

abbrev pub container_of : declared.Container → Container
container_of declared_container.UnitStruct = container.unit_struct
container_of (declared_container.NewTypeStruct f) = container.newtype_struct (shape_of f)
container_of (declared_container.TupleStruct fs) = container.tuple_struct (formats_shapes fs.items)
container_of (declared_container.Struct fs) = container.field_struct (map field_of fs.items)
container_of (declared_container.Enum cs) = container.enumeration (map choice_of cs.entries)

abbrev pub entry_of : String Global × declared.Container → List ℕ × Container
entry_of e = (string_bytes e.0, container_of e.1)

abbrev pub entries_of : List (String Global × declared.Container) → Entries
entries_of es = map entry_of es
