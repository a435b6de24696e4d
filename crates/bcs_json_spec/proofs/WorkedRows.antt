-- Examples: the definitions, evaluated on some JSON.
use Rattle.bcs_json_spec.proofs.Prelude.{◌≡◌, ℕ, negsuc, [], ◌∷◌, codes, Ok, Err, true, Float, refl, rules, w8, w16, w128, IsUtf8-from_ascii, is_utf8-from_IsUtf8, is_utf8, hex_on_literals, Data, whole, negative, float, null, boolean, number, string, array, object, no_items, item, Members, no_members, member, newtype, newtype_struct, Shape, no_shapes, shape, float64, Tree, unit, truth, signed, text, bytes, absent, present, items, variant, pairs, no_trees, tree, no_pairs, pair, JsonContent, of, fields, one_of, Read, read_data, read_unsigned, read_signed, read_hex, shown, Unsupported, BadShape, BadNumber, BadHex, UnknownField, MissingField, UnknownVariant, TooDeep}
use Rattle.bcs_registry_model.specs.Container as container
use Rattle.bcs_registry_model.specs.Shape as shape
use Rattle.bcs_value_model.specs.Tree.{unsigned}

abbrev at : JsonContent → Data → Read Tree
at f j = read_data [] 500 f j

abbrev u8 : Shape
u8 = shape.unsigned w8

abbrev n : ℕ → Data
n m = number (whole m)

abbrev list1 : Data → Data
list1 a = array (item a no_items)

abbrev list2 : Data → Data → Data
list2 a b = array (item a (item b no_items))

-- ---- integers

negative_number : at (of (shape.signed w16)) (number (negative (negsuc 4659))) ≡ Ok (signed (negsuc 4659))
unfolding read_signed
negative_number = refl

above_the_range : at (of u8) (n 256) ≡ Err BadNumber
unfolding read_unsigned
above_the_range = refl

-- a number of more than 64 bits is represented as a float
held_as_float : (x : Float) → at (of (shape.unsigned w128)) (number (float x)) ≡ Err BadNumber
unfolding read_unsigned
held_as_float x = refl

no_number : at (of u8) null ≡ Err BadShape
unfolding read_unsigned
no_number = refl

whatever_stands_there : at (of (shape.unsupported float64)) (n 0) ≡ Err Unsupported
whatever_stands_there = refl

-- ---- nested options

abbrev option2 : JsonContent
option2 = of (shape.option (shape.option shape.truth))

abbrev some : Data → Data
some d = object (member (codes "some") d no_members)

outer_absent : at option2 null ≡ Ok absent
outer_absent = refl

inner_absent : at option2 (some null) ≡ Ok (present absent)
inner_absent = refl

both_present : at option2 (some (some (boolean true))) ≡ Ok (present (present (truth true)))
both_present = refl

-- ---- an enum: A without a payload, 0, and B with a U8, 300

abbrev choices : JsonContent
choices = one_of ((0, (codes "A", container.unit)) ∷ (300, (codes "B", newtype u8)) ∷ [])

word : at choices (string (codes "A")) ≡ Ok (variant 0 unit)
word = refl

word_with_null : at choices (object (member (codes "A") null no_members)) ≡ Ok (variant 0 unit)
word_with_null = refl

with_payload : at choices (object (member (codes "B") (n 7) no_members)) ≡ Ok (variant 300 (unsigned 7))
unfolding read_unsigned
with_payload = refl

payload_missing : at choices (string (codes "B")) ≡ Err BadShape
payload_missing = refl

no_variant : at choices (string (codes "C")) ≡ Err UnknownVariant
no_variant = refl

word_shown : shown [] (variant 0 unit) choices ≡ string (codes "A")
word_shown = refl

payload_shown : shown [] (variant 300 (unsigned 7)) choices ≡ object (member (codes "B") (n 7) no_members)
payload_shown = refl

-- ---- a struct of `boolean`, `bytes` and `label`

abbrev struct : JsonContent
struct = fields ((codes "boolean", shape.truth) ∷ (codes "bytes", shape.bytes) ∷ (codes "label", shape.text) ∷ [])

abbrev members : Data → Members
members b = member (codes "boolean") (boolean true) (member (codes "bytes") b (member (codes "label") (string (codes "a")) no_members))

abbrev struct_tree : Tree
struct_tree = items (tree (truth true) (tree (bytes (192 ∷ 222 ∷ [])) (tree (text (codes "a")) no_trees)))

label : is_utf8 (codes "a") ≡ true
label = is_utf8-from_IsUtf8 (codes "a") (IsUtf8-from_ascii (codes "a") (search rules))

all_fields : at struct (object (members (string (codes "C0DE")))) ≡ Ok struct_tree
unfolding hex_on_literals read_hex
all_fields = rw label refl

no_field : at struct (object no_members) ≡ Err MissingField
no_field = refl

further_member : at struct (object (member (codes "a") null (members (string (codes "c0de"))))) ≡ Err UnknownField
unfolding hex_on_literals read_hex
further_member = rw label refl

odd_hex : at struct (object (members (string (codes "c0d")))) ≡ Err BadHex
unfolding hex_on_literals read_hex
odd_hex = refl

-- the first field decides, although others are missing
first_field_decides : at struct (object (member (codes "boolean") (n 1) no_members)) ≡ Err BadShape
first_field_decides = refl

struct_shown : shown [] struct_tree struct ≡ object (members (string (codes "c0de")))
unfolding hex_on_literals
struct_shown = refl

-- ---- lists of bytes

abbrev four : JsonContent
four = of (shape.array u8 4)

abbrev four_tree : Tree
four_tree = items (tree (unsigned 1) (tree (unsigned 2) (tree (unsigned 3) (tree (unsigned 255) no_trees))))

by_elements : at four (array (item (n 1) (item (n 2) (item (n 3) (item (n 255) no_items))))) ≡ Ok four_tree
unfolding read_unsigned
by_elements = refl

by_digits : at four (string (codes "010203FF")) ≡ Ok four_tree
unfolding hex_on_literals read_hex
by_digits = refl

digits_shown : shown [] four_tree four ≡ string (codes "010203ff")
unfolding hex_on_literals
digits_shown = refl

too_few_digits : at four (string (codes "0102")) ≡ Err BadShape
unfolding hex_on_literals read_hex
too_few_digits = refl

no_digit_first : at four (string (codes "01g")) ≡ Err BadHex
unfolding hex_on_literals read_hex
no_digit_first = refl

no_bytes : at (of (shape.seq u8)) (string []) ≡ Ok (items no_trees)
unfolding hex_on_literals read_hex
no_bytes = refl

lists_of_bytes : at (of (shape.seq (shape.seq u8))) (list2 (list1 (n 1)) (string (codes "02"))) ≡ Ok (items (tree (items (tree (unsigned 1) no_trees)) (tree (items (tree (unsigned 2) no_trees)) no_trees)))
unfolding hex_on_literals read_hex read_unsigned
lists_of_bytes = refl

lists_shown : shown [] (items (tree (items (tree (unsigned 1) no_trees)) (tree (items (tree (unsigned 2) no_trees)) no_trees))) (of (shape.seq (shape.seq u8))) ≡ list2 (string (codes "01")) (string (codes "02"))
unfolding hex_on_literals
lists_shown = refl

tuple_is_no_list : at (of (shape.tuple (shape u8 (shape u8 no_shapes)))) (string (codes "0102")) ≡ Err BadShape
tuple_is_no_list = refl

-- ---- maps: pairs in the order given

map_in_a_key : at (of (shape.map (shape.map u8 u8) u8)) (list1 (list2 (list2 (list2 (n 3) (n 4)) (list2 (n 1) (n 2))) (n 9)))
    ≡ Ok (pairs (pair (pairs (pair (unsigned 3) (unsigned 4) (pair (unsigned 1) (unsigned 2) no_pairs))) (unsigned 9) no_pairs))
unfolding read_unsigned
map_in_a_key = refl

-- ---- a newtype struct of itself

endless : read_data ((codes "N", newtype_struct (shape.name (codes "N"))) ∷ []) 500 (of (shape.name (codes "N"))) null ≡ Err TooDeep
endless = refl
