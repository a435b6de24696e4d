-- Which registries are well-formed, and which formats a registry admits. Each of the three rules applies to the whole
-- registry: to all its formats, or to all lists of names that must be distinct.
use Rattle.std.specs.Prelude.{ℕ, suc, max, List, [], ◌∷◌, Bool, true, not, ◌&&◌, nat_le, is_some, map, IsTrue}
use Rattle.std.specs.List.{flat_map, list_all, list_any}
use Rattle.std.specs.Str.{bytes_eq}
use Rattle.bcs_registry_model.specs.Shape.{Shape, name, option, seq, map as map_of, tuple, array, Shapes, no_shapes, shape}
use Rattle.bcs_registry_model.specs.Container.{Field, Payload, Choice, Container, Entries, container_at}
use Rattle.bcs_registry_model.specs.Container as container

-- ---- the formats of a registry

abbrev pub shape_list : Shapes → List Shape
shape_list no_shapes = []
shape_list (shape s ss) = s ∷ shape_list ss

abbrev pub payload_formats : Payload → List Shape
payload_formats container.unit = []
payload_formats (container.newtype s) = s ∷ []
payload_formats (container.tuple ss) = shape_list ss
payload_formats (container.fields fs) = map (λ f. f.1) fs

abbrev pub container_formats : Container → List Shape
container_formats container.unit_struct = []
container_formats (container.newtype_struct s) = s ∷ []
container_formats (container.tuple_struct ss) = shape_list ss
container_formats (container.field_struct fs) = map (λ f. f.1) fs
container_formats (container.enumeration cs) = flat_map (λ c. payload_formats c.1.1) cs

abbrev pub formats : Entries → List Shape
formats registry = flat_map (λ e. container_formats e.1) registry

-- ---- the lists of names that must be distinct

abbrev pub payload_names : Payload → List (List (List ℕ))
payload_names (container.fields fs) = map (λ f. f.0) fs ∷ []
payload_names _ = []

abbrev pub container_names : Container → List (List (List ℕ))
container_names (container.field_struct fs) = map (λ f. f.0) fs ∷ []
container_names (container.enumeration cs) = map (λ c. c.1.0) cs ∷ flat_map (λ c. payload_names c.1.1) cs
container_names _ = []

abbrev pub name_lists : Entries → List (List (List ℕ))
name_lists registry = flat_map (λ e. container_names e.1) registry

-- ---- the rules

-- the greatest number of levels of a format
abbrev pub level_limit : ℕ
level_limit = 32

-- 0 for a scalar or a name; otherwise one more than the deepest part
abbrev mutual
  pub levels : Shape → ℕ
  levels (option s) = suc (levels s)
  levels (seq s) = suc (levels s)
  levels (map_of k v) = suc (max (levels k) (levels v))
  levels (tuple ss) = suc (shapes_levels ss)
  levels (array s n) = suc (levels s)
  levels _ = 0

  pub shapes_levels : Shapes → ℕ
  shapes_levels no_shapes = 0
  shapes_levels (shape s ss) = max (levels s) (shapes_levels ss)

abbrev pub has_few_levels : Shape → Bool
has_few_levels s = nat_le (levels s) level_limit

-- each name in the format is the name of a container
module _ (registry : Entries) where
  abbrev mutual
    pub is_known : Shape → Bool
    is_known (name n) = is_some (container_at n registry)
    is_known (option s) = is_known s
    is_known (seq s) = is_known s
    is_known (map_of k v) = is_known k && is_known v
    is_known (tuple ss) = are_known ss
    is_known (array s n) = is_known s
    is_known _ = true

    pub are_known : Shapes → Bool
    are_known no_shapes = true
    are_known (shape s ss) = is_known s && are_known ss

-- no two of the names are equal
abbrev pub are_distinct : List (List ℕ) → Bool
are_distinct [] = true
are_distinct (n ∷ ns) = not (list_any (bytes_eq n) ns) && are_distinct ns

-- every format has at most 32 levels
abbrev pub levels_hold : Entries → Bool
levels_hold registry = list_all has_few_levels (formats registry)

-- names are distinct in each struct, struct payload and enum
abbrev pub names_differ : Entries → Bool
names_differ registry = list_all are_distinct (name_lists registry)

-- each name in a format is the name of a container
abbrev pub names_known : Entries → Bool
names_known registry = list_all (is_known registry) (formats registry)

abbrev pub is_well_formed : Entries → Bool
is_well_formed registry = (levels_hold registry && names_differ registry) && names_known registry

abbrev pub IsWellFormed : Entries → Type 0
IsWellFormed registry = IsTrue (is_well_formed registry)

-- the registry admits the format
abbrev pub admits : Entries → Shape → Bool
admits registry s = has_few_levels s && is_known registry s

abbrev pub Admits : Entries → Shape → Type 0
Admits registry s = IsTrue (admits registry s)
