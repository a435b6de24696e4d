-- Examples: the definition, evaluated on some formats.
use Rattle.bcs_decode_source.proofs.Prelude.{◌≡◌, ℕ, [], ◌∷◌, true, false, codes, refl, w8, Shape, no_shapes, Entries, unit, newtype, newtype_struct, field_struct, enumeration, takes_no_memory, reaches_no_map}
use Rattle.bcs_registry_model.specs.Shape as shape

-- a map of numbers
abbrev counts : Shape
counts = shape.map (shape.unsigned w8) (shape.unsigned w8)

a_list_of_texts : (d : ℕ) → reaches_no_map [] d (shape.seq (shape.tuple (shape.shape shape.text (shape.shape shape.bytes no_shapes)))) ≡ true
a_list_of_texts d = refl

a_map_in_an_array : (d : ℕ) → reaches_no_map [] d (shape.array (shape.option counts) 3) ≡ false
a_map_in_an_array d = refl

-- L: {"ENUM":{"0":{"cons":{"NEWTYPE":{"TYPENAME":"L"}}},"1":{"nil":"UNIT"}}}
abbrev list_registry : Entries
list_registry = (codes "L", enumeration ((0, (codes "cons", newtype (shape.name (codes "L")))) ∷ (1, (codes "nil", unit)) ∷ [])) ∷ []

a_container_in_itself : reaches_no_map list_registry 4 (shape.name (codes "L")) ≡ true
a_container_in_itself = refl

-- A: {"STRUCT":[{"b":{"TYPENAME":"B"}}]}, B: {"NEWTYPESTRUCT":{"MAP":{"KEY":"U8","VALUE":"U8"}}}
abbrev map_registry : Entries
map_registry = (codes "A", field_struct ((codes "b", shape.name (codes "B")) ∷ [])) ∷ (codes "B", newtype_struct counts) ∷ []

a_map_in_the_second_container : reaches_no_map map_registry 2 (shape.name (codes "A")) ≡ false
a_map_in_the_second_container = refl

-- with a limit of one container, B can't open
one_container_may_open : reaches_no_map map_registry 1 (shape.name (codes "A")) ≡ true
one_container_may_open = refl

-- values without parts that allocate nothing
plain_values : (registry : Entries) (d : ℕ) (s : Shape) → takes_no_memory s ≡ true → reaches_no_map registry d s ≡ true
plain_values registry d shape.unit h = refl
plain_values registry d shape.truth h = refl
plain_values registry d (shape.unsigned w) h = refl
plain_values registry d (shape.signed w) h = refl
plain_values registry d (shape.unsupported u) h = refl
plain_values registry d shape.text h = refl
plain_values registry d shape.bytes h = refl
plain_values registry d (shape.name n) h = absurd cc
plain_values registry d (shape.option s) h = absurd cc
plain_values registry d (shape.seq s) h = absurd cc
plain_values registry d (shape.map k v) h = absurd cc
plain_values registry d (shape.tuple ss) h = absurd cc
plain_values registry d (shape.array s n) h = absurd cc
