-- The specification's view of a `Here`.
use Rattle.std.specs.Prelude.{map}
use Rattle.bcs_registry_model.specs.Shape.{unit as unit_shape, tuple as tuple_shape}
use Rattle.bcs_registry_model.specs.Container.{Content, of, one_of, field_shapes}
use Rattle.bcs_registry_model.specs.View.{shape_of, formats_shapes, field_of, choice_of}
use Rattle.bcs_decode_parts.specs.declared.here.Here.{Here}
use Rattle.bcs_decode_parts.specs.declared.here.Here.TheVariants.{Unit, Value, Tuple, Fields, Variants}

abbrev pub content_of : Here → Content
content_of Unit = of unit_shape
content_of (Value f) = of (shape_of f.now)
content_of (Tuple fs) = of (tuple_shape (formats_shapes fs.now))
content_of (Fields fs) = of (tuple_shape (field_shapes (map field_of fs.now)))
content_of (Variants m) = one_of (map choice_of m.now.entries)
