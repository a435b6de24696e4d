-- The kind of some JSON, and its parts.
use Rattle.std.specs.Prelude.{ℕ, suc, List, Option, Some, None, cond}
use Rattle.std.specs.Str.{bytes_eq}
use Rattle.bcs_registry_model.specs.Shape.{Shapes, no_shapes, shape}
use Rattle.serde_json.specs.Data.{Data, null, string, array, object, Items, no_items, item, Members, no_members, member}

abbrev pub IsNull : Data → Type 0
IsNull null = Unit {0}
IsNull _ = ⊥

abbrev pub IfString : (List ℕ → Type 0) → Data → Type 0
IfString P (string s) = P s
IfString P _ = ⊥

abbrev pub IfArray : (Items → Type 0) → Data → Type 0
IfArray P (array ds) = P ds
IfArray P _ = ⊥

abbrev pub IfStringOrArray : (List ℕ → Type 0) → (Items → Type 0) → Data → Type 0
IfStringOrArray P Q (string s) = P s
IfStringOrArray P Q (array ds) = Q ds
IfStringOrArray P Q _ = ⊥

abbrev pub IfObject : (Members → Type 0) → Data → Type 0
IfObject P (object ms) = P ms
IfObject P _ = ⊥

-- an array of exactly two items
abbrev pub IfTwo : (Data → Data → Type 0) → Data → Type 0
IfTwo P (array (item a (item b no_items))) = P a b
IfTwo P _ = ⊥

-- an object with exactly one member
abbrev pub IfOne : (List ℕ → Data → Type 0) → Data → Type 0
IfOne P (object (member k d no_members)) = P k d
IfOne P _ = ⊥

-- a string, or an object with exactly one member
abbrev pub IfWordOrOne : (List ℕ → Type 0) → (List ℕ → Data → Type 0) → Data → Type 0
IfWordOrOne P Q (string s) = P s
IfWordOrOne P Q (object (member k d no_members)) = Q k d
IfWordOrOne P Q _ = ⊥

abbrev pub IfThere : {A : Type 0} → (A → Type 0) → Option A → Type 0
IfThere P None = ⊥
IfThere P (Some x) = P x

abbrev pub item_count : Items → ℕ
item_count no_items = 0
item_count (item d ds) = suc (item_count ds)

abbrev pub shape_count : Shapes → ℕ
shape_count no_shapes = 0
shape_count (shape s ss) = suc (shape_count ss)

-- the members except the one with this name
abbrev pub without : List ℕ → Members → Members
without name no_members = no_members
without name (member k d ms) = cond (bytes_eq name k) ms (member k d (without name ms))
