-- The tree that JSON spells, or the first fault, as a function. It carries the proofs; the law `Exact` ties it to
-- `Spells` and `Refuses`, which the contracts name.
use Rattle.std.specs.Prelude.{◌≡◌, ◌≢◌, ℕ, zero, suc, ℤ, pos, negsuc, List, [], ◌∷◌, codes, Bool, true, false, Option, Some, None, Result, Ok, Err, ◌==◌, if◌then◌else◌}
use Rattle.std.specs.Int.{Width}
use Rattle.std.specs.Str.{bytes_eq, is_utf8}
use Rattle.hex.specs.Hex.{decode_of}
use Rattle.hex.specs.declared.error.FromHexError.{FromHexError}
use Rattle.serde_json.specs.Data.{Data, null, boolean, number, string, array, object, Items, no_items, item, Members, no_members, member}
use Rattle.serde_json.specs.Find.{get_member}
use Rattle.bcs_registry_model.specs.Shape as shape
use Rattle.bcs_registry_model.specs.Shape.{Shape, Shapes, no_shapes, shape}
use Rattle.bcs_registry_model.specs.Container as container
use Rattle.bcs_registry_model.specs.Container.{Field, Choice, Entries, choice_called}
use Rattle.bcs_value_model.specs.Tree as tree
use Rattle.bcs_value_model.specs.Tree.{Tree, Trees, no_trees, tree, Pairs, no_pairs, pair, count}
use Rattle.bcs_json_spec.specs.Bytes.{is_byte, byte_trees}
use Rattle.bcs_json_spec.specs.JsonContent.{JsonContent, of, fields, one_of, nothing, json_content_at, payload_content}
use Rattle.bcs_json_spec.specs.Look.{item_count, shape_count, without}
use Rattle.bcs_json_spec.specs.Numbers.{whole_of, is_unsigned_of, is_signed_of}
use Rattle.bcs_json_spec.specs.declared.json_fault.JsonFault.{JsonFault}
use Rattle.bcs_json_spec.specs.declared.json_fault.JsonFault.TheVariants.{Unsupported, BadShape, BadNumber, BadHex, UnknownField, MissingField, UnknownVariant, TooDeep, OutOfMemory}

abbrev pub Read : Type 0 → Type 0
Read A = Result A JsonFault

abbrev pub follow : {A B : Type 0} → Read A → (A → Read B) → Read B
follow (Ok x) k = k x
follow (Err e) k = Err e

-- the result, mapped by `view`, is that of the reading, unless memory ran out
abbrev pub Reports : {X A : Type 0} → (X → A) → Result X JsonFault → Read A → Type 0
Reports view (Ok x) r = r ≡ Ok (view x)
Reports view (Err e) r = e ≢ OutOfMemory → r ≡ Err e

-- ---- values without parts

abbrev pub read_unit : Data → Read Tree
read_unit null = Ok tree.unit
read_unit _ = Err BadShape

abbrev pub read_truth : Data → Read Tree
read_truth (boolean b) = Ok (tree.truth b)
read_truth _ = Err BadShape

abbrev pub whole_in : (ℤ → Bool) → Option ℤ → Read ℤ
whole_in range None = Err BadNumber
whole_in range (Some z) = if range z then Ok z else Err BadNumber

abbrev pub read_whole : (ℤ → Bool) → Data → Read ℤ
read_whole range (number n) = whole_in range (whole_of (number n))
read_whole range (string s) = whole_in range (whole_of (string s))
read_whole range _ = Err BadShape

abbrev pub size_of : ℤ → ℕ
size_of (pos n) = n
size_of (negsuc n) = 0

unfoldable pub read_unsigned : Width → Data → Read Tree
read_unsigned w j = follow (read_whole (is_unsigned_of w) j) (λ z. Ok (tree.unsigned (size_of z)))

unfoldable pub read_signed : Width → Data → Read Tree
read_signed w j = follow (read_whole (is_signed_of w) j) (λ z. Ok (tree.signed z))

abbrev pub read_text : Data → Read Tree
read_text (string s) = if is_utf8 s then Ok (tree.text s) else Err BadShape
read_text _ = Err BadShape

abbrev pub hex_or_fault : Result (List ℕ) FromHexError → Read (List ℕ)
hex_or_fault (Ok b) = Ok b
hex_or_fault (Err e) = Err BadHex

unfoldable pub read_hex : List ℕ → Read (List ℕ)
read_hex s = hex_or_fault (decode_of s)

abbrev pub read_bytes : Data → Read Tree
read_bytes (string s) = follow (read_hex s) (λ b. Ok (tree.bytes b))
read_bytes _ = Err BadShape

-- ---- values with parts

abbrev pub read_option : (Data → Read Tree) → Data → Read Tree
read_option r null = Ok tree.absent
read_option r (object (member k d no_members)) = if bytes_eq k (codes "some") then follow (r d) (λ t. Ok (tree.present t)) else Err BadShape
read_option r _ = Err BadShape

abbrev pub read_all : (Data → Read Tree) → Items → Read Trees
read_all r no_items = Ok no_trees
read_all r (item d ds) = follow (r d) (λ t. follow (read_all r ds) (λ ts. Ok (tree t ts)))

-- a string instead of a list: hexadecimal digits, if its elements are bytes
abbrev pub read_byte_text : Bool → List ℕ → Read Trees
read_byte_text true s = follow (read_hex s) (λ b. Ok (byte_trees b))
read_byte_text false s = Err BadShape

abbrev pub read_seq : Bool → (Data → Read Tree) → Data → Read Tree
read_seq bytes r (array ds) = follow (read_all r ds) (λ ts. Ok (tree.items ts))
read_seq bytes r (string s) = follow (read_byte_text bytes s) (λ ts. Ok (tree.items ts))
read_seq bytes r _ = Err BadShape

-- an array of exactly `n` items
abbrev pub read_tuple : ℕ → (Items → Read Trees) → Data → Read Tree
read_tuple n r (array ds) = if item_count ds == n then follow (r ds) (λ ts. Ok (tree.items ts)) else Err BadShape
read_tuple n r _ = Err BadShape

-- exactly `n` elements
abbrev pub sized : ℕ → Trees → Read Tree
sized n ts = if count ts == n then Ok (tree.items ts) else Err BadShape

abbrev pub read_array : Bool → ℕ → (Data → Read Tree) → Data → Read Tree
read_array bytes n r (array ds) = if item_count ds == n then follow (read_all r ds) (λ ts. Ok (tree.items ts)) else Err BadShape
read_array bytes n r (string s) = follow (read_byte_text bytes s) (sized n)
read_array bytes n r _ = Err BadShape

abbrev pub read_pair : (Data → Read Tree) → (Data → Read Tree) → Data → Read (Tree × Tree)
read_pair k v (array (item a (item b no_items))) = follow (k a) (λ s. follow (v b) (λ t. Ok (s, t)))
read_pair k v _ = Err BadShape

abbrev pub read_pairs : (Data → Read Tree) → (Data → Read Tree) → Items → Read Pairs
read_pairs k v no_items = Ok no_pairs
read_pairs k v (item d ds) = follow (read_pair k v d) (λ p. follow (read_pairs k v ds) (λ ps. Ok (pair p.0 p.1 ps)))

abbrev pub read_map : (Data → Read Tree) → (Data → Read Tree) → Data → Read Tree
read_map k v (array ds) = follow (read_pairs k v ds) (λ ps. Ok (tree.pairs ps))
read_map k v _ = Err BadShape

-- a member that must exist
abbrev pub read_member : (Data → Read Tree) → Option Data → Read Tree
read_member r None = Err MissingField
read_member r (Some d) = r d

-- no member is left
abbrev pub read_end : Members → Read Trees
read_end no_members = Ok no_trees
read_end (member k d ms) = Err UnknownField

abbrev pub unit_variant : Choice → Read Tree
unit_variant (n, (s, container.unit)) = Ok (tree.variant n tree.unit)
unit_variant (n, (s, _)) = Err BadShape

-- a string that is the name of a unit variant
abbrev pub read_word : Option Choice → Read Tree
read_word None = Err UnknownVariant
read_word (Some c) = unit_variant c

-- `named` reads a named container
module _ (named : List ℕ → Data → Read Tree) where
  abbrev mutual
    pub read_shape : Shape → Data → Read Tree
    read_shape shape.unit = read_unit
    read_shape shape.truth = read_truth
    read_shape (shape.unsigned w) = read_unsigned w
    read_shape (shape.signed w) = read_signed w
    read_shape (shape.unsupported u) = λ j. Err Unsupported
    read_shape shape.text = read_text
    read_shape shape.bytes = read_bytes
    read_shape (shape.name n) = named n
    read_shape (shape.option s) = read_option (read_shape s)
    read_shape (shape.seq s) = read_seq (is_byte s) (read_shape s)
    read_shape (shape.map k v) = read_map (read_shape k) (read_shape v)
    read_shape (shape.tuple ss) = read_tuple (shape_count ss) (read_each ss)
    read_shape (shape.array s n) = read_array (is_byte s) n (read_shape s)

    pub read_each : Shapes → Items → Read Trees
    read_each (shape s ss) (item d ds) = follow (read_shape s d) (λ t. follow (read_each ss ds) (λ ts. Ok (tree t ts)))
    read_each (shape s ss) no_items = Err BadShape
    read_each no_shapes ds = Ok no_trees

  -- removes the member of each field in turn; no other may be left
  abbrev pub read_fields : List Field → Members → Read Trees
  read_fields [] ms = read_end ms
  read_fields (f ∷ fs) ms =
      follow (read_member (read_shape f.1) (get_member f.0 ms)) (λ t. follow (read_fields fs (without f.0 ms)) (λ ts. Ok (tree t ts)))

  abbrev pub read_struct : List Field → Data → Read Tree
  read_struct fs (object ms) = follow (read_fields fs ms) (λ ts. Ok (tree.items ts))
  read_struct fs _ = Err BadShape

  -- the content of a variant
  abbrev pub read_part : JsonContent → Data → Read Tree
  read_part (of s) = read_shape s
  read_part (fields fs) = read_struct fs
  read_part _ = λ j. Err BadShape

  abbrev pub read_choice : Option Choice → Data → Read Tree
  read_choice None d = Err UnknownVariant
  read_choice (Some c) d = follow (read_part (payload_content c.1.1) d) (λ t. Ok (tree.variant c.0 t))

  abbrev pub read_enum : List Choice → Data → Read Tree
  read_enum cs (string word) = read_word (choice_called word cs)
  read_enum cs (object (member word d no_members)) = read_choice (choice_called word cs) d
  read_enum cs _ = Err BadShape

  abbrev pub read_content : JsonContent → Data → Read Tree
  read_content (of s) = read_shape s
  read_content (fields fs) = read_struct fs
  read_content (one_of cs) = read_enum cs
  read_content nothing = λ j. Err BadShape

-- a named container, if at most `d` containers may open
abbrev pub read_named : Entries → ℕ → List ℕ → Data → Read Tree
read_named registry zero n j = Err TooDeep
read_named registry (suc d) n j = follow (read_content (read_named registry d) (json_content_at n registry) j) (λ t. Ok (tree.named t))

abbrev pub read_data : Entries → ℕ → JsonContent → Data → Read Tree
read_data registry d f j = read_content (read_named registry d) f j
