-- The JSON of a registry, in the shapes of serde-reflection: strings, and objects with exactly the members listed here.
-- The members of an object are sorted by the bytes of their names.
use Rattle.std.specs.Prelude.{ℕ, List, [], ◌∷◌, codes, decimal}
use Rattle.serde_json.specs.Data.{Data, number, unsigned as whole, string, array as list, object, Items, no_items, item, Members, no_members, member, put}
use Rattle.bcs_registry_model.specs.Shape.{Shape, name, option, seq, map, tuple, array, Shapes, no_shapes, shape}
use Rattle.bcs_registry_model.specs.Container.{Field, Payload, Choice, Container, unit_struct, newtype_struct, tuple_struct, field_struct, enumeration, Entries}
use Rattle.bcs_registry_model.specs.Container as container
use Rattle.bcs_registry_model.specs.Words.{word_of}

-- an object with one member
abbrev pub single : List ℕ → Data → Data
single key d = object (member key d no_members)

abbrev mutual
  pub shown_format : Shape → Data
  shown_format (name n) = single (codes "TYPENAME") (string n)
  shown_format (option s) = single (codes "OPTION") (shown_format s)
  shown_format (seq s) = single (codes "SEQ") (shown_format s)
  shown_format (map k v) =
      single (codes "MAP") (object (member (codes "KEY") (shown_format k) (member (codes "VALUE") (shown_format v) no_members)))
  shown_format (tuple ss) = single (codes "TUPLE") (list (shown_formats ss))
  shown_format (array s n) =
      single (codes "TUPLEARRAY") (object (member (codes "CONTENT") (shown_format s) (member (codes "SIZE") (number (whole n)) no_members)))
  -- a format without parts
  shown_format s = string (word_of s)

  pub shown_formats : Shapes → Items
  shown_formats no_shapes = no_items
  shown_formats (shape s ss) = item (shown_format s) (shown_formats ss)

-- each field is an object of its own, in the order of their encoding
abbrev pub shown_struct : List Field → Items
shown_struct [] = no_items
shown_struct (f ∷ fs) = item (single f.0 (shown_format f.1)) (shown_struct fs)

abbrev pub shown_payload : Payload → Data
shown_payload container.unit = string (codes "UNIT")
shown_payload (container.newtype s) = single (codes "NEWTYPE") (shown_format s)
shown_payload (container.tuple ss) = single (codes "TUPLE") (list (shown_formats ss))
shown_payload (container.fields fs) = single (codes "STRUCT") (list (shown_struct fs))

-- the name of each member is the variant's number in plain decimal, so "10" comes before "2"
abbrev pub shown_choices : List Choice → Members
shown_choices [] = no_members
shown_choices (c ∷ cs) = put (decimal c.0) (single c.1.0 (shown_payload c.1.1)) (shown_choices cs)

abbrev pub shown_container : Container → Data
shown_container unit_struct = string (codes "UNITSTRUCT")
shown_container (newtype_struct s) = single (codes "NEWTYPESTRUCT") (shown_format s)
shown_container (tuple_struct ss) = single (codes "TUPLESTRUCT") (list (shown_formats ss))
shown_container (field_struct fs) = single (codes "STRUCT") (list (shown_struct fs))
shown_container (enumeration cs) = single (codes "ENUM") (object (shown_choices cs))

-- containers are in the order of the registry, which is that of the bytes of their names
abbrev pub shown_containers : Entries → Members
shown_containers [] = no_members
shown_containers (e ∷ es) = member e.0 (shown_container e.1) (shown_containers es)

abbrev pub shown_registry : Entries → Data
shown_registry registry = object (shown_containers registry)
