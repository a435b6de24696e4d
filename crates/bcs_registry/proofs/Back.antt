-- From JSON back to the format or the container that it represents.
use Rattle.bcs_registry.proofs.Prelude.{◌≡◌, ◌∙◌, ℕ, List, [], ◌∷◌, ap, bytes_eq, codes, if◌then◌else◌, refl, unwrap_or, Data, whole, number, string, list, object, Items, no_items, item, no_members, member, Container, Field, Payload, Shape, unit, name, option, seq, map, tuple, array, Shapes, no_shapes, shape, format_named, word_named, shown_choices, shown_container, shown_struct, shown_format, shown_formats, shown_payload, variant_shown}
use Rattle.bcs_registry_model.specs.Container as container

abbrev pub text_in : Data → List ℕ
text_in (string s) = s
text_in _ = []

abbrev pub size_in : Data → ℕ
size_in (number (whole n)) = n
size_in _ = 0

-- ---- formats

abbrev mutual
  pub format_in : Data → Shape
  format_in (string word) = unwrap_or (format_named word) unit
  format_in (object (member key d no_members)) =
      if bytes_eq key (codes "TYPENAME") then name (text_in d)
      else (if bytes_eq key (codes "OPTION") then option (format_in d)
      else (if bytes_eq key (codes "SEQ") then seq (format_in d)
      else (if bytes_eq key (codes "MAP") then map_in d
      else (if bytes_eq key (codes "TUPLE") then tuple (formats_in d)
      else (if bytes_eq key (codes "TUPLEARRAY") then array_in d else unit)))))
  format_in _ = unit

  pub map_in : Data → Shape
  map_in (object (member first k (member second v no_members))) = map (format_in k) (format_in v)
  map_in _ = unit

  pub array_in : Data → Shape
  array_in (object (member first content (member second size no_members))) = array (format_in content) (size_in size)
  array_in _ = unit

  pub formats_in : Data → Shapes
  formats_in (list ds) = each_format ds
  formats_in _ = no_shapes

  pub each_format : Items → Shapes
  each_format no_items = no_shapes
  each_format (item d ds) = shape (format_in d) (each_format ds)

mutual
  pub format_back : (s : Shape) → format_in (shown_format s) ≡ s
  format_back (name n) = refl
  format_back (option s) = ap option (format_back s)
  format_back (seq s) = ap seq (format_back s)
  format_back (map k v) = ap (λ s. map s (format_in (shown_format v))) (format_back k) ∙ ap (map k) (format_back v)
  format_back (tuple ss) = ap tuple (formats_back ss)
  format_back (array s n) = ap (λ t. array t n) (format_back s)
  format_back s = ap (λ o. unwrap_or o unit) (word_named s refl)

  pub formats_back : (ss : Shapes) → each_format (shown_formats ss) ≡ ss
  formats_back no_shapes = refl
  formats_back (shape s ss) = ap (λ t. shape t (each_format (shown_formats ss))) (format_back s) ∙ ap (shape s) (formats_back ss)

-- ---- fields and payloads

abbrev pub field_in : Data → Field
field_in (object (member n d no_members)) = (n, format_in d)
field_in _ = ([], unit)

abbrev pub each_field : Items → List Field
each_field no_items = []
each_field (item d ds) = field_in d ∷ each_field ds

abbrev pub fields_in : Data → List Field
fields_in (list ds) = each_field ds
fields_in _ = []

pub fields_back : (fs : List Field) → each_field (shown_struct fs) ≡ fs
fields_back [] = refl
fields_back (f ∷ fs) = ap (λ s. (f.0, s) ∷ each_field (shown_struct fs)) (format_back f.1) ∙ ap (λ gs. f ∷ gs) (fields_back fs)

abbrev pub payload_in : Data → Payload
payload_in (object (member key d no_members)) =
    if bytes_eq key (codes "NEWTYPE") then container.newtype (format_in d)
    else (if bytes_eq key (codes "TUPLE") then container.tuple (formats_in d)
    else (if bytes_eq key (codes "STRUCT") then container.fields (fields_in d) else container.unit))
payload_in _ = container.unit

pub payload_back : (p : Payload) → payload_in (shown_payload p) ≡ p
payload_back container.unit = refl
payload_back (container.newtype s) = ap container.newtype (format_back s)
payload_back (container.tuple ss) = ap container.tuple (formats_back ss)
payload_back (container.fields fs) = ap container.fields (fields_back fs)

abbrev pub variant_in : Data → List ℕ × Payload
variant_in (object (member n d no_members)) = (n, payload_in d)
variant_in _ = ([], container.unit)

pub variant_back : (v : List ℕ × Payload) → variant_in (variant_shown v) ≡ v
variant_back v = ap (λ p. (v.0, p)) (payload_back v.1)

-- ---- containers

-- a container, or the members for the variants of an enum
pub data Found : Type 0 where
  found : Container → Found
  variants : Data → Found

abbrev pub found_as : Container → Found
found_as (container.enumeration cs) = variants (object (shown_choices cs))
found_as c = found c

abbrev pub container_in : Data → Found
container_in (object (member key d no_members)) =
    if bytes_eq key (codes "NEWTYPESTRUCT") then found (container.newtype_struct (format_in d))
    else (if bytes_eq key (codes "TUPLESTRUCT") then found (container.tuple_struct (formats_in d))
    else (if bytes_eq key (codes "STRUCT") then found (container.field_struct (fields_in d)) else variants d))
container_in _ = found container.unit_struct

pub container_back : (c : Container) → container_in (shown_container c) ≡ found_as c
container_back container.unit_struct = refl
container_back (container.newtype_struct s) = ap (λ t. found (container.newtype_struct t)) (format_back s)
container_back (container.tuple_struct ss) = ap (λ ts. found (container.tuple_struct ts)) (formats_back ss)
container_back (container.field_struct fs) = ap (λ gs. found (container.field_struct gs)) (fields_back fs)
container_back (container.enumeration cs) = refl
