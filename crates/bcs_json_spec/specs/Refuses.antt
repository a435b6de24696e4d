-- Which JSON spells no tree, and why: the first check that fails. Checks of the JSON itself come first, and then its
-- parts in order; all parts before the refused one spell trees.
use Rattle.std.specs.Prelude.{◌≡◌, ◌≢◌, ◌⊎◌, ℕ, zero, suc, ℤ, List, [], ◌∷◌, codes, true, false, Bool, Option, Some, None}
use Rattle.std.specs.Str.{is_utf8}
use Rattle.serde_json.specs.Data.{Data, null, boolean, number, string, array, object, Items, no_items, item, Members, no_members, member}
use Rattle.serde_json.specs.Find.{get_member}
use Rattle.bcs_registry_model.specs.Shape as shape
use Rattle.bcs_registry_model.specs.Shape.{Shape, Shapes, shape}
use Rattle.bcs_registry_model.specs.Container as container
use Rattle.bcs_registry_model.specs.Container.{Field, Choice, Entries, choice_called}
use Rattle.bcs_value_model.specs.Tree.{Tree, Trees, count}
use Rattle.bcs_json_spec.specs.Bytes.{IsHexOf, ByteTextSpells, is_byte}
use Rattle.bcs_json_spec.specs.JsonContent.{JsonContent, of, fields, one_of, nothing, json_content_at, payload_content}
use Rattle.bcs_json_spec.specs.Look.{IfTwo, IfThere, item_count, shape_count, without}
use Rattle.bcs_json_spec.specs.Numbers.{SpellsWhole, is_unsigned_of, is_signed_of}
use Rattle.bcs_json_spec.specs.Spells.{SpellsWithin}
use Rattle.bcs_json_spec.specs.declared.json_fault.JsonFault.{JsonFault}
use Rattle.bcs_json_spec.specs.declared.json_fault.JsonFault.TheVariants.{Unsupported, BadShape, BadNumber, BadHex, UnknownField, MissingField, UnknownVariant, TooDeep}

-- the relations between JSON and what it spells, and between JSON and its fault
abbrev pub Good : Type 1
Good = Data → Tree → Type 0

abbrev pub Bad : Type 1
Bad = Data → JsonFault → Type 0

-- ---- values without parts

abbrev pub UnitRefuses : Bad
UnitRefuses null e = ⊥
UnitRefuses _ e = e ≡ BadShape

abbrev pub TruthRefuses : Bad
TruthRefuses (boolean b) e = ⊥
TruthRefuses _ e = e ≡ BadShape

-- a number or a string that isn't an integer in the range, or JSON of another kind
abbrev pub WholeRefuses : (ℤ → Bool) → Bad
WholeRefuses range (number n) e = ((z : ℤ) → SpellsWhole (number n) z → range z ≡ false) × (e ≡ BadNumber)
WholeRefuses range (string s) e = ((z : ℤ) → SpellsWhole (string s) z → range z ≡ false) × (e ≡ BadNumber)
WholeRefuses range _ e = e ≡ BadShape

-- a string that isn't UTF-8, which `serde_json` never returns, or JSON of another kind
abbrev pub TextRefuses : Bad
TextRefuses (string s) e = (is_utf8 s ≡ false) × (e ≡ BadShape)
TextRefuses _ e = e ≡ BadShape

abbrev pub IsNoHex : List ℕ → Type 0
IsNoHex s = (b : List ℕ) → ¬ IsHexOf s b

abbrev pub BytesRefuse : Bad
BytesRefuse (string s) e = IsNoHex s × (e ≡ BadHex)
BytesRefuse _ e = e ≡ BadShape

-- ---- values with parts

-- `null` is never refused; an object with the only member `some` is refused like this member
abbrev pub OptionRefuses : Bad → Bad
OptionRefuses R null e = ⊥
OptionRefuses R (object (member k d no_members)) e = ((k ≡ codes "some") × R d e) ⊎ ((k ≢ codes "some") × (e ≡ BadShape))
OptionRefuses R _ e = e ≡ BadShape

-- the items before one spell trees, and that one is refused
abbrev pub AllRefuse : Good → Bad → Items → JsonFault → Type 0
AllRefuse S R no_items e = ⊥
AllRefuse S R (item d ds) e = R d e ⊎ ((t : Tree) × S d t × AllRefuse S R ds e)

-- a string instead of a list: hexadecimal digits, if its elements are bytes
abbrev pub ByteTextRefuses : Bool → List ℕ → JsonFault → Type 0
ByteTextRefuses true s e = IsNoHex s × (e ≡ BadHex)
ByteTextRefuses false s e = e ≡ BadShape

abbrev pub SeqRefuses : Bool → Good → Bad → Bad
SeqRefuses bytes S R (array ds) e = AllRefuse S R ds e
SeqRefuses bytes S R (string s) e = ByteTextRefuses bytes s e
SeqRefuses bytes S R _ e = e ≡ BadShape

-- an array of exactly `n` items
abbrev pub TupleRefuses : ℕ → (Items → JsonFault → Type 0) → Bad
TupleRefuses n R (array ds) e = ((item_count ds ≢ n) × (e ≡ BadShape)) ⊎ ((item_count ds ≡ n) × R ds e)
TupleRefuses n R _ e = e ≡ BadShape

-- an array of exactly `n` elements, or hexadecimal digits for `n` bytes
abbrev pub ArrayRefuses : Bool → ℕ → Good → Bad → Bad
ArrayRefuses bytes n S R (array ds) e = ((item_count ds ≢ n) × (e ≡ BadShape)) ⊎ ((item_count ds ≡ n) × AllRefuse S R ds e)
ArrayRefuses bytes n S R (string s) e =
    ByteTextRefuses bytes s e ⊎ ((ts : Trees) × ByteTextSpells bytes s ts × (count ts ≢ n) × (e ≡ BadShape))
ArrayRefuses bytes n S R _ e = e ≡ BadShape

-- an array of exactly two items: the key, then the value
abbrev pub PairRefuses : Good → Bad → Bad → Bad
PairRefuses K Q R (array (item a (item b no_items))) e = Q a e ⊎ ((k : Tree) × K a k × R b e)
PairRefuses K Q R _ e = e ≡ BadShape

abbrev pub PairsRefuse : Good → Bad → Good → Bad → Items → JsonFault → Type 0
PairsRefuse K Q V R no_items e = ⊥
PairsRefuse K Q V R (item d ds) e =
    PairRefuses K Q R d e
    ⊎ ((k : Tree) × (v : Tree) × IfTwo (λ a b. K a k × V b v) d × PairsRefuse K Q V R ds e)

abbrev pub MapRefuses : Good → Bad → Good → Bad → Bad
MapRefuses K Q V R (array ds) e = PairsRefuse K Q V R ds e
MapRefuses K Q V R _ e = e ≡ BadShape

-- a member that doesn't exist, or is refused
abbrev pub MemberRefuses : Bad → Option Data → JsonFault → Type 0
MemberRefuses R None e = e ≡ MissingField
MemberRefuses R (Some d) e = R d e

-- a string that is no variant's name, or the name of a variant with a payload
abbrev pub WordRefuses : Option Choice → JsonFault → Type 0
WordRefuses None e = e ≡ UnknownVariant
WordRefuses (Some c) e = (c.1.1 ≢ container.unit) × (e ≡ BadShape)

-- ---- formats

-- `S` is what JSON spells if at most so many containers may open, and `N` is how a named container is refused then
module _ (S : JsonContent → Good) (N : List ℕ → Bad) where
  abbrev mutual
    pub ShapeRefuses : Shape → Bad
    ShapeRefuses shape.unit = UnitRefuses
    ShapeRefuses shape.truth = TruthRefuses
    ShapeRefuses (shape.unsigned w) = WholeRefuses (is_unsigned_of w)
    ShapeRefuses (shape.signed w) = WholeRefuses (is_signed_of w)
    ShapeRefuses (shape.unsupported u) = λ j e. e ≡ Unsupported
    ShapeRefuses shape.text = TextRefuses
    ShapeRefuses shape.bytes = BytesRefuse
    ShapeRefuses (shape.name n) = N n
    ShapeRefuses (shape.option s) = OptionRefuses (ShapeRefuses s)
    ShapeRefuses (shape.seq s) = SeqRefuses (is_byte s) (S (of s)) (ShapeRefuses s)
    ShapeRefuses (shape.map k v) = MapRefuses (S (of k)) (ShapeRefuses k) (S (of v)) (ShapeRefuses v)
    ShapeRefuses (shape.tuple ss) = TupleRefuses (shape_count ss) (EachRefuses ss)
    ShapeRefuses (shape.array s n) = ArrayRefuses (is_byte s) n (S (of s)) (ShapeRefuses s)

    pub EachRefuses : Shapes → Items → JsonFault → Type 0
    EachRefuses (shape s ss) (item d ds) e = ShapeRefuses s d e ⊎ ((t : Tree) × S (of s) d t × EachRefuses ss ds e)
    EachRefuses _ _ e = ⊥

  -- each field in the registry's order: its member doesn't exist, or is refused; after all fields, a member is left
  abbrev pub FieldsRefuse : List Field → Members → JsonFault → Type 0
  FieldsRefuse [] no_members e = ⊥
  FieldsRefuse [] (member k d ms) e = e ≡ UnknownField
  FieldsRefuse (f ∷ fs) ms e =
      MemberRefuses (ShapeRefuses f.1) (get_member f.0 ms) e
      ⊎ ((t : Tree) × IfThere (λ d. S (of f.1) d t) (get_member f.0 ms) × FieldsRefuse fs (without f.0 ms) e)

  abbrev pub StructRefuses : List Field → Bad
  StructRefuses fs (object ms) e = FieldsRefuse fs ms e
  StructRefuses fs _ e = e ≡ BadShape

  -- the content of a variant, which is never an enum
  abbrev pub PartRefuses : JsonContent → Bad
  PartRefuses (of s) = ShapeRefuses s
  PartRefuses (fields fs) = StructRefuses fs
  PartRefuses _ = λ j e. e ≡ BadShape

  abbrev pub ChoiceRefuses : Option Choice → Bad
  ChoiceRefuses None d e = e ≡ UnknownVariant
  ChoiceRefuses (Some c) d e = PartRefuses (payload_content c.1.1) d e

  abbrev pub EnumRefuses : List Choice → Bad
  EnumRefuses cs (string word) e = WordRefuses (choice_called word cs) e
  EnumRefuses cs (object (member word d no_members)) e = ChoiceRefuses (choice_called word cs) d e
  EnumRefuses cs _ e = e ≡ BadShape

  -- no JSON spells a value of a missing container; a registry that admits a format has all its containers
  abbrev pub ContentRefuses : JsonContent → Bad
  ContentRefuses (of s) = ShapeRefuses s
  ContentRefuses (fields fs) = StructRefuses fs
  ContentRefuses (one_of cs) = EnumRefuses cs
  ContentRefuses nothing = λ j e. e ≡ BadShape

module _ (registry : Entries) where
  -- a named container, if at most `d` containers may open
  abbrev pub NameRefuses : ℕ → List ℕ → Bad
  NameRefuses zero n j e = e ≡ TooDeep
  NameRefuses (suc d) n j e = ContentRefuses (SpellsWithin registry d) (NameRefuses d) (json_content_at n registry) j e

  -- the JSON is refused with this fault, if at most `d` containers may be open at once
  abbrev pub Refuses : ℕ → JsonContent → Bad
  Refuses d f = ContentRefuses (SpellsWithin registry d) (NameRefuses d) f
