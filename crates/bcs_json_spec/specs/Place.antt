-- Where JSON is refused, as the steps of a JSON Pointer (RFC 6901).
use Rattle.std.specs.Prelude.{◌≡◌, ℕ, zero, suc, List, [], ◌∷◌, codes, Option, All, Contains, string_bytes, ◌==◌, if◌then◌else◌}
use Rattle.std.specs.Option.{option_map_or}
use Rattle.std.specs.Str.{bytes_eq}
use Rattle.serde_json.specs.Data.{Data, array, object, Items, no_items, Members, no_members}
use Rattle.serde_json.specs.Data as json
use Rattle.serde_json.specs.Find.{get_member}
use Rattle.bcs_registry_model.specs.Shape as shape
use Rattle.bcs_registry_model.specs.Shape.{Shape, Shapes, no_shapes, shape}
use Rattle.bcs_registry_model.specs.Container.{Field, Choice, Entries, choice_called}
use Rattle.bcs_registry_model.specs.Grows.{IsFirst}
use Rattle.bcs_json_spec.specs.JsonContent.{JsonContent, of, fields, one_of, nothing, json_content_at, payload_content}
use Rattle.bcs_json_spec.specs.Look.{item_count, shape_count, without}
use Rattle.bcs_json_spec.specs.Refuses.{Refuses, PairRefuses}
use Rattle.bcs_json_spec.specs.Spells.{SpellsWithin}
use Rattle.bcs_json_spec.specs.declared.json_fault.JsonFault.{JsonFault}
use Rattle.bcs_json_spec.specs.declared.json_step.JsonStep.{JsonStep}
use Rattle.bcs_json_spec.specs.declared.json_step.JsonStep.TheVariants.{Item, Member}

-- to an item of an array by its index, from 0, or to a member of an object by its name
pub data PointerStep : Type 0 where
  item : ℕ → PointerStep
  member : List ℕ → PointerStep

abbrev pub pointer_step_of : JsonStep → PointerStep
pointer_step_of (Item n) = item n
pointer_step_of (Member name) = member (string_bytes name)

-- what JSON should be: a value of a content, or a map entry, which is an array of a key and its value
pub data Target : Type 0 where
  value : JsonContent → Target
  entry : Shape → Shape → Target

-- a direct part of some JSON: the step to it, how many containers may open in it, what it should be, and the JSON
pub record JsonPart : Type 0 where
  pub step : PointerStep
  pub left : ℕ
  pub target : Target
  pub json : Data

-- ---- the parts of JSON, in the order in which they are read; JSON of the wrong kind has none

module _ (left : ℕ) where
  abbrev pub part : PointerStep → JsonContent → Data → JsonPart
  part s f j = record { step = s; left = left; target = value f; json = j }

  -- the items of an array, with indices from `i` on
  abbrev pub item_parts : Shape → ℕ → Items → List JsonPart
  item_parts s i no_items = []
  item_parts s i (json.item d ds) = part (item i) (of s) d ∷ item_parts s (suc i) ds

  abbrev pub each_parts : Shapes → ℕ → Items → List JsonPart
  each_parts (shape s ss) i (json.item d ds) = part (item i) (of s) d ∷ each_parts ss (suc i) ds
  each_parts (shape s ss) i no_items = []
  each_parts no_shapes i ds = []

  abbrev pub entry_parts : Shape → Shape → ℕ → Items → List JsonPart
  entry_parts k v i no_items = []
  entry_parts k v i (json.item d ds) = record { step = item i; left = left; target = entry k v; json = d } ∷ entry_parts k v (suc i) ds

  -- the members of the fields, in the registry's order, up to the first field without one
  abbrev pub field_parts : List Field → Members → List JsonPart
  field_parts [] ms = []
  field_parts (f ∷ fs) ms = option_map_or (λ d. part (member f.0) (of f.1) d ∷ field_parts fs (without f.0 ms)) (get_member f.0 ms) []

  abbrev pub option_parts : Shape → Data → List JsonPart
  option_parts s (object (json.member k d no_members)) = if bytes_eq k (codes "some") then part (member k) (of s) d ∷ [] else []
  option_parts s _ = []

  abbrev pub seq_parts : Shape → Data → List JsonPart
  seq_parts s (array ds) = item_parts s 0 ds
  seq_parts s _ = []

  abbrev pub map_parts : Shape → Shape → Data → List JsonPart
  map_parts k v (array ds) = entry_parts k v 0 ds
  map_parts k v _ = []

  abbrev pub tuple_parts : Shapes → Data → List JsonPart
  tuple_parts ss (array ds) = if item_count ds == shape_count ss then each_parts ss 0 ds else []
  tuple_parts ss _ = []

  abbrev pub array_parts : Shape → ℕ → Data → List JsonPart
  array_parts s n (array ds) = if item_count ds == n then item_parts s 0 ds else []
  array_parts s n _ = []

  abbrev pub struct_parts : List Field → Data → List JsonPart
  struct_parts fs (object ms) = field_parts fs ms
  struct_parts fs _ = []

  -- the payload of a variant
  abbrev pub enum_parts : List Choice → Data → List JsonPart
  enum_parts cs (object (json.member word d no_members)) = option_map_or (λ c. part (member word) (payload_content c.1.1) d ∷ []) (choice_called word cs) []
  enum_parts cs _ = []

  -- the key and the value of a map entry
  abbrev pub pair_parts : Shape → Shape → Data → List JsonPart
  pair_parts k v (array (json.item a (json.item b no_items))) = part (item 0) (of k) a ∷ part (item 1) (of v) b ∷ []
  pair_parts k v _ = []

  -- a name is no step of its own: its parts are those of the container's content
  module _ (named : List ℕ → Data → List JsonPart) where
    abbrev pub shape_parts : Shape → Data → List JsonPart
    shape_parts (shape.name n) = named n
    shape_parts (shape.option s) = option_parts s
    shape_parts (shape.seq s) = seq_parts s
    shape_parts (shape.map k v) = map_parts k v
    shape_parts (shape.tuple ss) = tuple_parts ss
    shape_parts (shape.array s n) = array_parts s n
    shape_parts _ = λ j. []

    abbrev pub content_parts : JsonContent → Data → List JsonPart
    content_parts (of s) = shape_parts s
    content_parts (fields fs) = struct_parts fs
    content_parts (one_of cs) = enum_parts cs
    content_parts nothing = λ j. []

module _ (registry : Entries) where
  -- the content of a container, in which one container fewer may open
  abbrev pub named_parts : ℕ → List ℕ → Data → List JsonPart
  named_parts zero n j = []
  named_parts (suc d) n j = content_parts d (named_parts d) (json_content_at n registry) j

  abbrev pub parts : ℕ → Target → Data → List JsonPart
  parts d (value f) = content_parts d (named_parts d) f
  parts d (entry k v) = pair_parts d k v

  -- ---- the place

  -- the JSON is refused with this fault
  abbrev pub IsRefusedWith : ℕ → Target → Data → JsonFault → Type 0
  IsRefusedWith d (value f) j e = Refuses registry d f j e
  IsRefusedWith d (entry k v) j e = PairRefuses (SpellsWithin registry d (of k)) (Refuses registry d (of k)) (Refuses registry d (of v)) j e

  abbrev pub IsGood : JsonPart → Type 0
  IsGood p = (e : JsonFault) → ¬ IsRefusedWith p.left p.target p.json e

  -- the path leads to the first part that is refused, then to the first of its own parts that is, until none is
  abbrev pub IsPlaceAmong : List PointerStep → List JsonPart → Type 0
  IsPlaceAmong [] ps = All IsGood ps
  IsPlaceAmong (s ∷ path) ps = IsFirst IsGood (λ p. ¬ IsGood p × (p.step ≡ s) × IsPlaceAmong path (parts p.left p.target p.json)) ps

  abbrev pub IsPlaceOf : ℕ → Target → Data → List PointerStep → Type 0
  IsPlaceOf d t j path = IsPlaceAmong path (parts d t j)

  -- the JSON is refused with this fault, if at most `d` containers may be open at once, and the path leads to its place
  abbrev pub RefusesAt : ℕ → JsonContent → Data → List PointerStep → JsonFault → Type 0
  RefusesAt d f j path e = Refuses registry d f j e × IsPlaceOf d (value f) j path

  -- at the end of the path, the JSON is refused with this fault, and none of its parts is refused
  abbrev pub IsRefusedAlone : JsonFault → List PointerStep → ℕ → Target → Data → Type 0
  IsRefusedAlone e [] d t j = IsRefusedWith d t j e × All IsGood (parts d t j)
  IsRefusedAlone e (s ∷ path) d t j = (p : JsonPart) × Contains (parts d t j) p × (p.step ≡ s) × IsRefusedAlone e path p.left p.target p.json
