-- Containers, registries, and the content of a container.
use Rattle.std.specs.Prelude.{ℕ, List, [], ◌∷◌, Option, Some, None, option_map, cond, ◌==◌}
use Rattle.std.specs.Str.{bytes_eq}
use Rattle.std.specs.Map.{lookup}
use Rattle.std.specs.Option.{option_map_or}
use Rattle.bcs_registry_model.specs.Shape.{Shape, Shapes, no_shapes, shape, unit as unit_shape, tuple as tuple_shape}

-- the name and the format of a field
abbrev pub Field : Type 0
Field = List ℕ × Shape

-- the payload of a variant
pub data Payload : Type 0 where
  unit : Payload
  newtype : Shape → Payload
  tuple : Shapes → Payload
  fields : List Field → Payload

-- the number, the name and the payload of a variant
abbrev pub Choice : Type 0
Choice = ℕ × (List ℕ × Payload)

pub data Container : Type 0 where
  unit_struct : Container
  newtype_struct : Shape → Container
  tuple_struct : Shapes → Container
  field_struct : List Field → Container
  enumeration : List Choice → Container

-- containers, in ascending order of their names
abbrev pub Entries : Type 0
Entries = List (List ℕ × Container)

abbrev pub container_at : List ℕ → Entries → Option Container
container_at name registry = lookup (bytes_eq name) registry

abbrev pub choice_numbered : ℕ → List Choice → Option (List ℕ × Payload)
choice_numbered number choices = lookup (λ m. m == number) choices

-- the variant with this name
abbrev pub choice_called : List ℕ → List Choice → Option Choice
choice_called word [] = None
choice_called word (c ∷ cs) = cond (bytes_eq c.1.0 word) (Some c) (choice_called word cs)

-- the number of the variant with this name, if the container is an enum
abbrev pub number_called : List ℕ → Container → Option ℕ
number_called word unit_struct = None
number_called word (newtype_struct s) = None
number_called word (tuple_struct ss) = None
number_called word (field_struct fs) = None
number_called word (enumeration cs) = option_map (λ c. c.0) (choice_called word cs)

-- the number of the variant with this name (word) in the enum called name
abbrev pub variant_number : List ℕ → List ℕ → Entries → Option ℕ
variant_number name word registry = option_map_or (number_called word) (container_at name registry) None

-- what a name or a variant number refers to: a value of a format, one of several variants, or nothing
pub data Content : Type 0 where
  of : Shape → Content
  one_of : List Choice → Content
  nothing : Content

abbrev pub field_shapes : List Field → Shapes
field_shapes [] = no_shapes
field_shapes (f ∷ fs) = shape f.1 (field_shapes fs)

-- the content of a container
abbrev pub content : Container → Content
content unit_struct = of unit_shape
content (newtype_struct s) = of s
content (tuple_struct ss) = of (tuple_shape ss)
content (field_struct fs) = of (tuple_shape (field_shapes fs))
content (enumeration cs) = one_of cs

abbrev pub payload_shape : Payload → Shape
payload_shape unit = unit_shape
payload_shape (newtype s) = s
payload_shape (tuple ss) = tuple_shape ss
payload_shape (fields fs) = tuple_shape (field_shapes fs)

-- the content of the container with this name
abbrev pub content_at : List ℕ → Entries → Content
content_at name registry = option_map_or content (container_at name registry) nothing

-- the content of the variant with this number
abbrev pub choice_at : ℕ → List Choice → Content
choice_at number choices = option_map_or (λ c. of (payload_shape c.1)) (choice_numbered number choices) nothing
