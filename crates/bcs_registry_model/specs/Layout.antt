-- What a `Row`, a `Layout` and a `Content` represent.
use Rattle.std.specs.Prelude.{List, map}
use Rattle.bcs_registry_model.specs.Shape as shape
use Rattle.bcs_registry_model.specs.Shape.{Shape}
use Rattle.bcs_registry_model.specs.Container as container
use Rattle.bcs_registry_model.specs.Container.{of, one_of, field_shapes}
use Rattle.bcs_registry_model.specs.View.{choice_of, field_of, formats_shapes, shape_of}
use Rattle.bcs_registry_model.specs.declared.named.Named.{Named}
use Rattle.bcs_registry_model.specs.declared.format.Format.{Format}
use Rattle.bcs_registry_model.specs.declared.layout.Row.{Row}
use Rattle.bcs_registry_model.specs.declared.layout.Row.TheVariants as row
use Rattle.bcs_registry_model.specs.declared.layout.Layout.{Layout}
use Rattle.bcs_registry_model.specs.declared.layout.Layout.TheVariants as layout
use Rattle.bcs_registry_model.specs.declared.layout.Content as declared
use Rattle.bcs_registry_model.specs.declared.layout.Content.TheVariants as content

abbrev pub row_formats : Row → List Format
row_formats (row.Formats fs) = fs.now
row_formats (row.Fields fs) = map (λ f. f.value) fs.now

abbrev pub layout_shape : Layout → Shape
layout_shape layout.Unit = shape.unit
layout_shape (layout.NewType f) = shape_of f.now
layout_shape (layout.Tuple fs) = shape.tuple (formats_shapes fs.now)
layout_shape (layout.Struct fs) = shape.tuple (field_shapes (map field_of fs.now))

abbrev pub content_seen : declared.Content → container.Content
content_seen (content.Of l) = of (layout_shape l)
content_seen (content.OneOf cs) = one_of (map choice_of cs.now.entries)
