-- The specification's view of an `Inside`.
use Rattle.std.specs.Prelude.{◌≡◌, map, None}
use Rattle.bcs_registry_model.specs.Shape.{array as array_shape, map as map_shape, name as name_shape, option as option_shape, seq as seq_shape, tuple as tuple_shape}
use Rattle.bcs_registry_model.specs.Container.{Entries, Content, of, one_of, field_shapes}
use Rattle.bcs_registry_model.specs.View.{shape_of, formats_shapes, field_of, choice_of}
use Rattle.bcs_value_model.specs.Tree.{Tree}
use Rattle.bcs_decode_parts.specs.Parts.{Step, step_at}
use Rattle.bcs_decode_parts.specs.declared.inside.Inside.{Inside}
use Rattle.bcs_decode_parts.specs.declared.inside.Inside.TheVariants as inside

-- no step leads into a value of this content
abbrev pub LeadsNowhere : Content → Type 0
LeadsNowhere f = (registry : Entries) (s : Step) (t : Tree) → step_at registry s f t ≡ None

-- `f` contains what the `Inside` says
abbrev pub Opens : Content → Inside → Type 0
Opens f inside.Nothing = LeadsNowhere f
Opens f (inside.Option g) = f ≡ of (option_shape (shape_of g.now))
Opens f (inside.Container name) = f ≡ of (name_shape name.now)
Opens f (inside.Variants m) = f ≡ one_of (map choice_of m.now.entries)
Opens f (inside.List g) = f ≡ of (seq_shape (shape_of g.now))
Opens f (inside.Array g n) = f ≡ of (array_shape (shape_of g.now) n)
Opens f (inside.Tuple fs) = f ≡ of (tuple_shape (formats_shapes fs.now))
Opens f (inside.Fields fs) = f ≡ of (tuple_shape (field_shapes (map field_of fs.now)))
Opens f (inside.Map k v) = f ≡ of (map_shape (shape_of k.now) (shape_of v.now))
