-- Which JSON has the shape of a format or a registry. The loose test accepts any name as a variant number, and any JSON
-- number as a SIZE. The strict one requires that a variant number is plain decimal and fits into 32 bits, and that a
-- SIZE is an integer that fits into 64 bits.
use Rattle.std.specs.Prelude.{ℕ, ◌^◌, List, Bool, true, false, ◌&&◌, ◌||◌, nat_lt, is_some, if◌then◌else◌, codes, decimal}
use Rattle.std.specs.Str.{bytes_eq}
use Rattle.std.specs.Str.Parse.{digits_value}
use Rattle.serde_json.specs.Data.{Data, Num, unsigned as whole, number, string, array, object, Items, no_items, item, Members, no_members, member}
use Rattle.bcs_registry_model.specs.Words.{format_named}

-- ---- names and numbers

-- the plain decimal string of a number that fits into 32 bits
abbrev pub is_variant_number : List ℕ → Bool
is_variant_number name = bytes_eq name (decimal (digits_value 10 name)) && nat_lt (digits_value 10 name) (2 ^ 32)

-- an integer that fits into 64 bits
abbrev pub is_size_number : Num → Bool
is_size_number (whole n) = nat_lt n (2 ^ 64)
is_size_number _ = false

abbrev pub is_text : Data → Bool
is_text (string s) = true
is_text _ = false

module _ (loose : Bool) where
  abbrev pub is_size : Data → Bool
  is_size (number n) = loose || is_size_number n
  is_size _ = false

  -- ---- formats

  abbrev mutual
    pub is_format : Data → Bool
    is_format (string word) = is_some (format_named word)
    is_format (object (member key d no_members)) =
        if bytes_eq key (codes "TYPENAME") then is_text d
        else (if bytes_eq key (codes "OPTION") then is_format d
        else (if bytes_eq key (codes "SEQ") then is_format d
        else (if bytes_eq key (codes "MAP") then is_map d
        else (if bytes_eq key (codes "TUPLE") then is_tuple d
        else (if bytes_eq key (codes "TUPLEARRAY") then is_tuple_array d else false)))))
    is_format _ = false

    pub is_map : Data → Bool
    is_map (object (member first k (member second v no_members))) =
        (bytes_eq first (codes "KEY") && bytes_eq second (codes "VALUE")) && (is_format k && is_format v)
    is_map _ = false

    pub is_tuple : Data → Bool
    is_tuple (array ds) = are_formats ds
    is_tuple _ = false

    pub are_formats : Items → Bool
    are_formats no_items = true
    are_formats (item d ds) = is_format d && are_formats ds

    pub is_tuple_array : Data → Bool
    is_tuple_array (object (member first content (member second size no_members))) =
        (bytes_eq first (codes "CONTENT") && bytes_eq second (codes "SIZE")) && (is_format content && is_size size)
    is_tuple_array _ = false

  -- ---- containers

  -- an object with one member: the name of the field and its format
  abbrev pub is_field : Data → Bool
  is_field (object (member name d no_members)) = is_format d
  is_field _ = false

  abbrev pub all_fields : Items → Bool
  all_fields no_items = true
  all_fields (item d ds) = is_field d && all_fields ds

  abbrev pub are_fields : Data → Bool
  are_fields (array ds) = all_fields ds
  are_fields _ = false

  abbrev pub is_payload : Data → Bool
  is_payload (string word) = bytes_eq word (codes "UNIT")
  is_payload (object (member key d no_members)) =
      if bytes_eq key (codes "NEWTYPE") then is_format d
      else (if bytes_eq key (codes "TUPLE") then is_tuple d
      else (if bytes_eq key (codes "STRUCT") then are_fields d else false))
  is_payload _ = false

  -- an object with one member: the name of the variant and its payload
  abbrev pub is_variant : Data → Bool
  is_variant (object (member name d no_members)) = is_payload d
  is_variant _ = false

  abbrev pub all_variants : Members → Bool
  all_variants no_members = true
  all_variants (member digits d ms) = ((loose || is_variant_number digits) && is_variant d) && all_variants ms

  abbrev pub are_variants : Data → Bool
  are_variants (object ms) = all_variants ms
  are_variants _ = false

  abbrev pub is_container : Data → Bool
  is_container (string word) = bytes_eq word (codes "UNITSTRUCT")
  is_container (object (member key d no_members)) =
      if bytes_eq key (codes "NEWTYPESTRUCT") then is_format d
      else (if bytes_eq key (codes "TUPLESTRUCT") then is_tuple d
      else (if bytes_eq key (codes "STRUCT") then are_fields d
      else (if bytes_eq key (codes "ENUM") then are_variants d else false)))
  is_container _ = false

  abbrev pub all_containers : Members → Bool
  all_containers no_members = true
  all_containers (member name d ms) = is_container d && all_containers ms

  abbrev pub is_registry : Data → Bool
  is_registry (object ms) = all_containers ms
  is_registry _ = false
