-- The verdicts for some inputs, by computation.
use Rattle.bcs_decode_spec.proofs.Prelude.{◌≡◌, ℕ, List, [], ◌∷◌, codes, Ok, Err, refl, w8, w16, Shape, Entries, unit, newtype, newtype_struct, field_struct, enumeration, Bounds, EndOfInput, BadBool, BadOption, LongForm, NumberTooLarge, LengthTooLarge, UnknownVariant, KeyOrder, KeyRepeated, TooDeep, TooManyNodes, Read, skip_value, value_here, shape_here, each_here, named_here, node, chain, give, fail, fail_here, number_here, length_here, bytes_here, flag_here, unsigned_here, key_after, key_here, items_here, pairs_here, option_here, choice_here, variant_here, content_here}
use Rattle.bcs_registry_model.specs.Shape as shape

abbrev of_limits : ℕ → ℕ → Bounds
of_limits containers nodes = record { depth = containers; nodes = nodes }

-- a byte
abbrev u8 : Shape
u8 = shape.unsigned w8

-- with the standard limits
abbrev front : Entries → Shape → List ℕ → Read (Unit {0})
front registry s b = skip_value registry (of_limits 500 4294967295) s b

-- ---- numbers

truth_needs_a_byte : front [] shape.truth [] ≡ Err (EndOfInput, 0)
unfolding value_here shape_here node chain flag_here
truth_needs_a_byte = refl

truth_is_one_byte : front [] shape.truth (1 ∷ 0 ∷ []) ≡ Ok (tt, 1, 4294967294, 0 ∷ [])
unfolding value_here shape_here node chain give flag_here
truth_is_one_byte = refl

two_is_no_truth : front [] shape.truth (2 ∷ []) ≡ Err (BadBool, 0)
unfolding value_here shape_here node chain flag_here
two_is_no_truth = refl

two_bytes_of_a_number : front [] (shape.unsigned w16) (1 ∷ []) ≡ Err (EndOfInput, 1)
unfolding value_here shape_here node chain bytes_here unsigned_here
two_bytes_of_a_number = refl

abbrev bytes_front : List ℕ → Read (Unit {0})
bytes_front = front [] shape.bytes

a_long_zero : bytes_front (0x80 ∷ 0 ∷ []) ≡ Err (LongForm, 0)
unfolding value_here shape_here node chain number_here length_here
a_long_zero = refl

a_long_zero_of_five : bytes_front (0x80 ∷ 0x80 ∷ 0x80 ∷ 0x80 ∷ 0 ∷ []) ≡ Err (LongForm, 0)
unfolding value_here shape_here node chain number_here length_here
a_long_zero_of_five = refl

above_four_bytes : bytes_front (0xff ∷ 0xff ∷ 0xff ∷ 0xff ∷ 0x1f ∷ []) ≡ Err (NumberTooLarge, 0)
unfolding value_here shape_here node chain number_here length_here
above_four_bytes = refl

above_the_lengths : bytes_front (0xff ∷ 0xff ∷ 0xff ∷ 0xff ∷ 0x0f ∷ []) ≡ Err (LengthTooLarge, 0)
unfolding value_here shape_here node chain fail number_here length_here
above_the_lengths = refl

one_above_the_lengths : bytes_front (0x80 ∷ 0x80 ∷ 0x80 ∷ 0x80 ∷ 0x08 ∷ []) ≡ Err (LengthTooLarge, 0)
unfolding value_here shape_here node chain fail number_here length_here
one_above_the_lengths = refl

a_number_that_ends : bytes_front (0x80 ∷ 0x80 ∷ []) ≡ Err (EndOfInput, 2)
unfolding value_here shape_here node chain number_here length_here
a_number_that_ends = refl

-- ---- lists

a_row_that_ends : front [] (shape.seq u8) (0xff ∷ 0xff ∷ 0xff ∷ 0xff ∷ 0x07 ∷ []) ≡ Err (EndOfInput, 5)
unfolding value_here shape_here node chain give number_here length_here bytes_here unsigned_here items_here
a_row_that_ends = refl

-- units have no bytes, but count as nodes
a_row_of_units : skip_value [] (of_limits 500 20) (shape.seq shape.unit) (0xff ∷ 0xff ∷ 0xff ∷ 0xff ∷ 0x07 ∷ []) ≡ Err (TooManyNodes, 5)
unfolding value_here shape_here node chain give number_here length_here items_here
a_row_of_units = refl

a_row_of_three : skip_value [] (of_limits 500 3) (shape.seq u8) (3 ∷ 0 ∷ 1 ∷ 2 ∷ []) ≡ Err (TooManyNodes, 3)
unfolding value_here shape_here node chain give number_here length_here bytes_here unsigned_here items_here
a_row_of_three = refl

-- 256 is encoded as 0001 and comes before 1, which is encoded as 0100
keys_out_of_order : front [] (shape.map (shape.unsigned w16) shape.truth) (2 ∷ 1 ∷ 0 ∷ 1 ∷ 0 ∷ 1 ∷ 0 ∷ []) ≡ Err (KeyOrder, 4)
unfolding value_here shape_here node chain give fail number_here length_here bytes_here flag_here unsigned_here key_after key_here pairs_here
keys_out_of_order = refl

keys_in_order : front [] (shape.map (shape.unsigned w16) shape.truth) (2 ∷ 0 ∷ 1 ∷ 0 ∷ 1 ∷ 0 ∷ 1 ∷ []) ≡ Ok (tt, 7, 4294967290, [])
unfolding value_here shape_here node chain give fail number_here length_here bytes_here flag_here unsigned_here key_after key_here pairs_here
keys_in_order = refl

-- even though the values are equal
a_key_again : front [] (shape.map u8 u8) (2 ∷ 5 ∷ 1 ∷ 5 ∷ 1 ∷ []) ≡ Err (KeyRepeated, 3)
unfolding value_here shape_here node chain give fail number_here length_here bytes_here unsigned_here key_after key_here pairs_here
a_key_again = refl

no_option : front [] (shape.option (shape.option shape.truth)) (2 ∷ []) ≡ Err (BadOption, 0)
unfolding value_here shape_here node chain flag_here option_here
no_option = refl

-- ---- containers

-- L: {"STRUCT":[{"next":{"OPTION":{"TYPENAME":"L"}}}]}
abbrev list_registry : Entries
list_registry = (codes "L", field_struct ((codes "next", shape.option (shape.name (codes "L"))) ∷ [])) ∷ []

abbrev list_shape : Shape
list_shape = shape.name (codes "L")

no_container_is_left : skip_value list_registry (of_limits 0 0) list_shape (0 ∷ []) ≡ Err (TooDeep, 0)
unfolding value_here shape_here named_here fail_here
no_container_is_left = refl

one_container : skip_value list_registry (of_limits 1 3) list_shape (0 ∷ []) ≡ Ok (tt, 1, 0, [])
unfolding value_here shape_here each_here named_here content_here node chain give flag_here option_here
one_container = refl

a_node_too_many : skip_value list_registry (of_limits 1 2) list_shape (0 ∷ []) ≡ Err (TooManyNodes, 0)
unfolding value_here shape_here each_here named_here content_here node chain give flag_here option_here
a_node_too_many = refl

a_second_container : skip_value list_registry (of_limits 1 10) list_shape (1 ∷ 0 ∷ []) ≡ Err (TooDeep, 1)
unfolding value_here shape_here each_here named_here content_here node chain give fail_here flag_here option_here
a_second_container = refl

-- N: {"NEWTYPESTRUCT":{"TYPENAME":"N"}}, which has no values
endless : skip_value ((codes "N", newtype_struct (shape.name (codes "N"))) ∷ []) (of_limits 3 10) (shape.name (codes "N")) [] ≡ Err (TooDeep, 0)
unfolding value_here shape_here named_here content_here node chain fail_here
endless = refl

-- E: {"ENUM":{"0":{"A":"UNIT"},"300":{"B":{"NEWTYPE":"U8"}}}}
abbrev enum_registry : Entries
enum_registry = (codes "E", enumeration ((0, (codes "A", unit)) ∷ (300, (codes "B", newtype u8)) ∷ [])) ∷ []

abbrev enum_shape : Shape
enum_shape = shape.name (codes "E")

no_variant : front enum_registry enum_shape (0x81 ∷ 1 ∷ []) ≡ Err (UnknownVariant, 0)
unfolding value_here shape_here named_here content_here node chain fail number_here choice_here variant_here
no_variant = refl

the_second_variant : front enum_registry enum_shape (0xac ∷ 2 ∷ 7 ∷ []) ≡ Ok (tt, 3, 4294967292, [])
unfolding value_here shape_here named_here content_here node chain give number_here bytes_here unsigned_here choice_here variant_here
the_second_variant = refl

a_node_before_the_number : skip_value enum_registry (of_limits 500 1) enum_shape (0x81 ∷ 1 ∷ []) ≡ Err (TooManyNodes, 0)
unfolding value_here shape_here named_here content_here node chain
a_node_before_the_number = refl
