-- Examples: where the definitions locate the fault of some JSON.
use Rattle.bcs_json_spec.proofs.Prelude.{◌≡◌, ℕ, List, [], ◌∷◌, codes, Some, None, true, refl, w8, Data, whole, null, boolean, number, array, object, no_items, item, no_members, member, Entries, newtype, newtype_struct, Shape, JsonContent, of, fields, one_of, PointerStep, JsonPart, part, value, entry, IsPlaceAmong, IsPlaceOf, read_unsigned, JsonFault, BadNumber, BadShape}
use Rattle.bcs_registry_model.specs.Container as container
use Rattle.bcs_registry_model.specs.Shape as shape
use Rattle.bcs_json_spec.specs.Place as place
use Rattle.bcs_json_spec.proofs.FaultAt.{fault_at, bad_of, good_of}
use Rattle.bcs_json_spec.proofs.Places.{Inside, place-none, place-here, place-later}

abbrev u8 : Shape
u8 = shape.unsigned w8

abbrev n : ℕ → Data
n m = number (whole m)

abbrev list2 : Data → Data → Data
list2 a b = array (item a (item b no_items))

-- for 500 containers, in a registry that only contains N, a list of U8
abbrev named : Entries
named = (codes "N", newtype_struct (shape.seq u8)) ∷ []

abbrev IsAt : JsonContent → Data → List PointerStep → Type 0
IsAt f j path = IsPlaceOf named 500 (value f) j path

refused_here : (path : List PointerStep) (p : JsonPart) (ps : List JsonPart) (e : JsonFault) → fault_at named p.left p.target p.json ≡ Some e → Inside named path p → IsPlaceAmong named (p.step ∷ path) (p ∷ ps)
refused_here path p ps e is inside = place-here named path p ps (bad_of named p e is) inside

read_before : (path : List PointerStep) (p : JsonPart) (ps : List JsonPart) → fault_at named p.left p.target p.json ≡ None → IsPlaceAmong named path ps → IsPlaceAmong named path (p ∷ ps)
read_before path p ps is later = place-later named path p ps (good_of named p is) later

-- [1, 256] as a list of U8: /1
second_item : IsAt (of (shape.seq u8)) (list2 (n 1) (n 256)) (place.item 1 ∷ [])
unfolding read_unsigned
second_item =
    read_before (place.item 1 ∷ []) (part 500 (place.item 0) (of u8) (n 1)) (part 500 (place.item 1) (of u8) (n 256) ∷ []) refl
    (refused_here [] (part 500 (place.item 1) (of u8) (n 256)) [] BadNumber refl (place-none named))

-- a name is no step: {"f": [true]} with a field f of type N: /f/0
through_a_name : IsAt (fields ((codes "f", shape.name (codes "N")) ∷ [])) (object (member (codes "f") (array (item (boolean true) no_items)) no_members)) (place.member (codes "f") ∷ place.item 0 ∷ [])
unfolding read_unsigned
through_a_name =
    refused_here (place.item 0 ∷ []) (part 500 (place.member (codes "f")) (of (shape.name (codes "N"))) (array (item (boolean true) no_items))) [] BadShape refl
    (refused_here [] (part 499 (place.item 0) (of u8) (boolean true)) [] BadShape refl (place-none named))

-- a map entry that isn't a pair, and one whose value is refused: /0, /0/1
no_pair : IsAt (of (shape.map u8 u8)) (array (item (n 3) no_items)) (place.item 0 ∷ [])
no_pair = refused_here [] (record { step = place.item 0; left = 500; target = entry u8 u8; json = n 3 }) [] BadShape refl (place-none named)

refused_value : IsAt (of (shape.map u8 u8)) (array (item (list2 (n 3) null) no_items)) (place.item 0 ∷ place.item 1 ∷ [])
unfolding read_unsigned
refused_value =
    refused_here (place.item 1 ∷ []) (record { step = place.item 0; left = 500; target = entry u8 u8; json = list2 (n 3) null }) [] BadShape refl
    (read_before (place.item 1 ∷ []) (part 500 (place.item 0) (of u8) (n 3)) (part 500 (place.item 1) (of u8) null ∷ []) refl
    (refused_here [] (part 500 (place.item 1) (of u8) null) [] BadShape refl (place-none named)))

-- {"A": 7}, if A has no payload: /A; and {"C": 7}, if there is no C: the whole
abbrev choices : JsonContent
choices = one_of ((0, (codes "A", container.unit)) ∷ (300, (codes "B", newtype u8)) ∷ [])

payload_of_none : IsAt choices (object (member (codes "A") (n 7) no_members)) (place.member (codes "A") ∷ [])
payload_of_none = refused_here [] (part 500 (place.member (codes "A")) (of shape.unit) (n 7)) [] BadShape refl (place-none named)

no_variant : IsAt choices (object (member (codes "C") (n 7) no_members)) []
no_variant = place-none named

-- a field without a member, and a member without a field: the struct itself
abbrev struct : JsonContent
struct = fields ((codes "f", shape.truth) ∷ (codes "g", shape.truth) ∷ [])

missing_field : IsAt struct (object (member (codes "f") (boolean true) no_members)) []
missing_field = read_before [] (part 500 (place.member (codes "f")) (of shape.truth) (boolean true)) [] refl (place-none named)

-- a list with too few items for a tuple: the list
too_few : IsAt (of (shape.tuple (shape.shape u8 (shape.shape u8 shape.no_shapes)))) (array (item null no_items)) []
too_few = place-none named
