-- What JSON represents: like `Content`, but fields have names, and variants are found by name.
use Rattle.std.specs.Prelude.{ℕ, List}
use Rattle.std.specs.Option.{option_map_or}
use Rattle.bcs_registry_model.specs.Shape.{Shape, unit as unit_shape, tuple as tuple_shape}
use Rattle.bcs_registry_model.specs.Container as container
use Rattle.bcs_registry_model.specs.Container.{Field, Payload, newtype, tuple, Choice, Container, unit_struct, newtype_struct, tuple_struct, field_struct, enumeration, Entries, container_at}

-- a value of a format, fields, one of several variants, or nothing
pub data JsonContent : Type 0 where
  of : Shape → JsonContent
  fields : List Field → JsonContent
  one_of : List Choice → JsonContent
  nothing : JsonContent

-- the content of a container
abbrev pub json_content : Container → JsonContent
json_content unit_struct = of unit_shape
json_content (newtype_struct s) = of s
json_content (tuple_struct ss) = of (tuple_shape ss)
json_content (field_struct fs) = fields fs
json_content (enumeration cs) = one_of cs

-- the content of a variant
abbrev pub payload_content : Payload → JsonContent
payload_content container.unit = of unit_shape
payload_content (newtype s) = of s
payload_content (tuple ss) = of (tuple_shape ss)
payload_content (container.fields fs) = fields fs

-- the content of the container with this name
abbrev pub json_content_at : List ℕ → Entries → JsonContent
json_content_at name registry = option_map_or json_content (container_at name registry) nothing
