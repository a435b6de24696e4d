-- Equality of formats, lists of fields, variants and structs, as tests.
use Rattle.std.specs.Prelude.{ℕ, List, [], ◌∷◌, Bool, true, false, ◌&&◌, ◌==◌}
use Rattle.std.specs.Int.{Width}
use Rattle.std.specs.Str.{bytes_eq}
use mir.Val.{bits}
use Rattle.bcs_registry_model.specs.Shape as shape
use Rattle.bcs_registry_model.specs.Shape.{Unsupported, float32, float64, character, Shape, Shapes, no_shapes, shape}
use Rattle.bcs_registry_model.specs.Container as container
use Rattle.bcs_registry_model.specs.Container.{Field, Payload, Container}

abbrev pub same_width : Width → Width → Bool
same_width v w = bits v == bits w

abbrev pub same_unsupported : Unsupported → Unsupported → Bool
same_unsupported float32 float32 = true
same_unsupported float64 float64 = true
same_unsupported character character = true
same_unsupported _ _ = false

abbrev mutual
  pub same_shape : Shape → Shape → Bool
  same_shape shape.unit shape.unit = true
  same_shape shape.truth shape.truth = true
  same_shape (shape.unsigned v) (shape.unsigned w) = same_width v w
  same_shape (shape.signed v) (shape.signed w) = same_width v w
  same_shape (shape.unsupported u) (shape.unsupported v) = same_unsupported u v
  same_shape shape.text shape.text = true
  same_shape shape.bytes shape.bytes = true
  same_shape (shape.name m) (shape.name n) = bytes_eq m n
  same_shape (shape.option s) (shape.option t) = same_shape s t
  same_shape (shape.seq s) (shape.seq t) = same_shape s t
  same_shape (shape.map k v) (shape.map l w) = same_shape k l && same_shape v w
  same_shape (shape.tuple ss) (shape.tuple ts) = same_shapes ss ts
  same_shape (shape.array s m) (shape.array t n) = m == n && same_shape s t
  same_shape _ _ = false

  pub same_shapes : Shapes → Shapes → Bool
  same_shapes no_shapes no_shapes = true
  same_shapes (shape s ss) (shape t ts) = same_shape s t && same_shapes ss ts
  same_shapes no_shapes (shape t ts) = false
  same_shapes (shape s ss) no_shapes = false

abbrev pub same_fields : List Field → List Field → Bool
same_fields [] [] = true
same_fields (f ∷ fs) (g ∷ gs) = (bytes_eq f.0 g.0 && same_shape f.1 g.1) && same_fields fs gs
same_fields [] (g ∷ gs) = false
same_fields (f ∷ fs) [] = false

abbrev pub same_payload : Payload → Payload → Bool
same_payload container.unit container.unit = true
same_payload (container.newtype s) (container.newtype t) = same_shape s t
same_payload (container.tuple ss) (container.tuple ts) = same_shapes ss ts
same_payload (container.fields fs) (container.fields gs) = same_fields fs gs
same_payload _ _ = false

-- the same name and payload
abbrev pub same_variant : List ℕ × Payload → List ℕ × Payload → Bool
same_variant v w = bytes_eq v.0 w.0 && same_payload v.1 w.1

-- both are structs of the same kind with the same content
abbrev pub same_struct : Container → Container → Bool
same_struct container.unit_struct container.unit_struct = true
same_struct (container.newtype_struct s) (container.newtype_struct t) = same_shape s t
same_struct (container.tuple_struct ss) (container.tuple_struct ts) = same_shapes ss ts
same_struct (container.field_struct fs) (container.field_struct gs) = same_fields fs gs
same_struct _ _ = false
