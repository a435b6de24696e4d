-- Where and why bytes stop being a value: for each format, the valid prefix that they have, and how it breaks off.
use Rattle.std.specs.Prelude.{◌≡◌, ◌<◌, ◌≤◌, ◌^◌, ◌⊎◌, ℕ, zero, suc, ◌+◌, List, [], ◌∷◌, ◌++◌, length, Option, Some, None, false}
use Rattle.std.specs.Int.{byte_len}
use Rattle.std.specs.Str.{is_utf8}
use Rattle.std.specs.Str.Lossy.{utf8_valid_len}
use Rattle.bcs_num.specs.Uleb.{uleb, IsUnended, IsLongForm, IsTooLarge}
use Rattle.bcs_registry_model.specs.Shape as shape
use Rattle.bcs_registry_model.specs.Shape.{Shape, Shapes, no_shapes, shape}
use Rattle.bcs_registry_model.specs.Container.{Entries, Content, of, one_of, nothing, Choice, content_at, choice_at}
use Rattle.bcs_value_model.specs.Tree.{Tree, Trees, no_trees, tree, Pairs, no_pairs, pair, count, pair_count, nodes, trees_nodes, pairs_nodes}
use Rattle.bcs_value_model.specs.Limits.{Bounds}
use Rattle.bcs_encode_spec.specs.Plain.{plain, plain_items, plain_pairs}
use Rattle.bcs_encode_spec.specs.Canonical.{Below}
use Rattle.bcs_encode_spec.specs.Lengths.{length_limit}
use Rattle.bcs_decode_spec.specs.declared.reason.Reason.{Reason}
use Rattle.bcs_decode_spec.specs.declared.reason.Reason.TheVariants.{EndOfInput, BadBool, BadOption, LongForm, NumberTooLarge, LengthTooLarge, UnknownVariant, BadUtf8, KeyOrder, KeyRepeated, TooDeep, TrailingBytes, TooManyNodes, Unsupported}
use Rattle.bcs_decode_spec.specs.Accepting.{IsDecodable, Accepts}

-- at place p, with m nodes remaining, the bytes b stop for reason e at place o
abbrev pub Stopping : Type 1
Stopping = ℕ → ℕ → List ℕ → Reason → ℕ → Type 0

-- ---- numbers and bytes

-- the bytes don't start with a valid ULEB128 number
abbrev pub NumberStop : Stopping
NumberStop p m b e o =
    (IsUnended b × (e ≡ EndOfInput) × (o ≡ p + length b))
    ⊎ ((IsTooLarge b × (e ≡ NumberTooLarge) × (o ≡ p))
    ⊎ (IsLongForm b × (e ≡ LongForm) × (o ≡ p)))

-- the bytes don't start with a valid length: an invalid number, or one above 2147483647
abbrev pub LengthStop : Stopping
LengthStop p m b e o =
    NumberStop p m b e o
    ⊎ ((n : ℕ) × (c : List ℕ) × (length_limit < n) × (n < 2 ^ 32) × (b ≡ uleb n ++ c) × (e ≡ LengthTooLarge) × (o ≡ p))

-- the length stops, or what follows it does
abbrev pub AfterLength : (ℕ → Stopping) → Stopping
AfterLength Rest p m b e o =
    LengthStop p m b e o
    ⊎ ((n : ℕ) × (c : List ℕ) × (n ≤ length_limit) × (b ≡ uleb n ++ c) × Rest n (p + length (uleb n)) m c e o)

-- there are fewer than n bytes
abbrev pub BytesStop : ℕ → Stopping
BytesStop n p m b e o = (length b < n) × (e ≡ EndOfInput) × (o ≡ p + length b)

-- there are fewer than n bytes, or the first n aren't UTF-8: the place is the end of their longest valid prefix
abbrev pub TextStop : ℕ → Stopping
TextStop n p m b e o =
    BytesStop n p m b e o
    ⊎ ((s c : List ℕ) × (length s ≡ n) × (b ≡ s ++ c) × (is_utf8 s ≡ false) × (e ≡ BadUtf8) × (o ≡ p + utf8_valid_len s))

-- there is no byte, or it is above 01, which is reported with the reason `bad`
abbrev pub FlagStop : Reason → Stopping
FlagStop bad p m b e o =
    ((b ≡ []) × (e ≡ EndOfInput) × (o ≡ p))
    ⊎ ((x : ℕ) × (c : List ℕ) × (1 < x) × (b ≡ x ∷ c) × (e ≡ bad) × (o ≡ p))

-- the tag byte stops, or the value after 01 does
abbrev pub OptionStop : Stopping → Stopping
OptionStop S p m b e o = FlagStop BadOption p m b e o ⊎ ((c : List ℕ) × (b ≡ 1 ∷ c) × S (p + 1) m c e o)

-- they stop here for this reason, whatever the bytes are
abbrev pub FailStop : Reason → Stopping
FailStop reason p m b e o = (e ≡ reason) × (o ≡ p)

-- no node is left for one that starts here, or the node stops
abbrev pub NodeStop : Stopping → Stopping
NodeStop S p zero b e o = FailStop TooManyNodes p 0 b e o
NodeStop S p (suc m) b e o = S p m b e o

-- ---- lists of parts

abbrev pub AllAre : (Tree → Type 0) → Trees → Type 0
AllAre Good no_trees = Unit {0}
AllAre Good (tree t ts) = Good t × AllAre Good ts

-- the key may follow the last one, if there is one
abbrev pub Follows : Option (List ℕ) → List ℕ → Type 0
Follows None key = Unit {0}
Follows (Some last) key = Below last key

-- the key equals the last one, or is below it
abbrev pub Misplaced : Option (List ℕ) → List ℕ → Reason → Type 0
Misplaced None key e = ⊥
Misplaced (Some last) key e = ((last ≡ key) × (e ≡ KeyRepeated)) ⊎ (Below key last × (e ≡ KeyOrder))

module _ (registry : Entries) where
  -- fewer than n elements are valid, and the next one stops
  abbrev pub ItemsStop : Shape → (Tree → Type 0) → Stopping → ℕ → Stopping
  ItemsStop s Good S n p m b e o =
      (ts : Trees) × (c : List ℕ) × (l : ℕ) × (count ts < n) × AllAre Good ts
      × (b ≡ plain_items registry ts s ++ c) × (m ≡ trees_nodes ts + l)
      × S (p + length (plain_items registry ts s)) l c e o

  -- the keys ascend, and the first one is above the last one
  abbrev pub AllRise : Shape → (Tree → Type 0) → (Tree → Type 0) → Option (List ℕ) → Pairs → Type 0
  AllRise f Key Value last no_pairs = Unit {0}
  AllRise f Key Value last (pair k v ps) =
      Key k × Follows last (plain registry k (of f)) × Value v × AllRise f Key Value (Some (plain registry k (of f))) ps

  abbrev pub last_key : Shape → Option (List ℕ) → Pairs → Option (List ℕ)
  last_key f last no_pairs = last
  last_key f last (pair k v ps) = last_key f (Some (plain registry k (of f))) ps

  -- the key stops; or it is out of order; or it is in order, and the value stops
  abbrev pub EntryStop : Shape → (Tree → Type 0) → Stopping → Stopping → Option (List ℕ) → Stopping
  EntryStop f Key KeyStop ValueStop last p m b e o =
      KeyStop p m b e o
      ⊎ ((k : Tree) × (c : List ℕ) × (l : ℕ) × Key k × (b ≡ plain registry k (of f) ++ c) × (m ≡ nodes k + l)
      × ((Misplaced last (plain registry k (of f)) e × (o ≡ p))
      ⊎ (Follows last (plain registry k (of f)) × ValueStop (p + length (plain registry k (of f))) l c e o)))

  -- fewer than n entries are valid, with ascending keys, and the next one stops
  abbrev pub PairsStop : Shape → Shape → (Tree → Type 0) → (Tree → Type 0) → Stopping → Stopping → Option (List ℕ) → ℕ → Stopping
  PairsStop f g Key Value KeyStop ValueStop last n p m b e o =
      (ps : Pairs) × (c : List ℕ) × (l : ℕ) × (pair_count ps < n) × AllRise f Key Value last ps
      × (b ≡ plain_pairs registry ps f g ++ c) × (m ≡ pairs_nodes ps + l)
      × EntryStop f Key KeyStop ValueStop (last_key f last ps) (p + length (plain_pairs registry ps f g)) l c e o

  -- ---- formats

  -- d more containers may be opened, and N is how names stop
  module _ (d : ℕ) (N : List ℕ → Stopping) where
    abbrev mutual
      pub ShapeStop : Shape → Stopping
      ShapeStop shape.unit = NodeStop (λ p m b e o. ⊥)
      ShapeStop shape.truth = NodeStop (FlagStop BadBool)
      ShapeStop (shape.unsigned w) = NodeStop (BytesStop (byte_len w))
      ShapeStop (shape.signed w) = NodeStop (BytesStop (byte_len w))
      ShapeStop (shape.unsupported u) = NodeStop (FailStop Unsupported)
      ShapeStop shape.text = NodeStop (AfterLength TextStop)
      ShapeStop shape.bytes = NodeStop (AfterLength BytesStop)
      ShapeStop (shape.name n) = N n
      ShapeStop (shape.option s) = NodeStop (OptionStop (ShapeStop s))
      ShapeStop (shape.seq s) = NodeStop (AfterLength (ItemsStop s (IsDecodable registry d (of s)) (ShapeStop s)))
      ShapeStop (shape.map k v) = NodeStop (AfterLength (PairsStop k v (IsDecodable registry d (of k)) (IsDecodable registry d (of v)) (ShapeStop k) (ShapeStop v) None))
      ShapeStop (shape.tuple ss) = NodeStop (EachStop ss)
      ShapeStop (shape.array s n) = NodeStop (ItemsStop s (IsDecodable registry d (of s)) (ShapeStop s) n)

      -- the first part stops; or it is valid, and a later one stops
      pub EachStop : Shapes → Stopping
      EachStop no_shapes p m b e o = ⊥
      EachStop (shape s ss) p m b e o =
          ShapeStop s p m b e o
          ⊎ ((t : Tree) × (c : List ℕ) × (l : ℕ) × IsDecodable registry d (of s) t × (b ≡ plain registry t (of s) ++ c)
          × (m ≡ nodes t + l) × EachStop ss (p + length (plain registry t (of s))) l c e o)

    -- the content of the variant stops, or no variant has the number
    abbrev pub ChoiceStop : ℕ → Content → Stopping
    ChoiceStop start (of s) = ShapeStop s
    ChoiceStop start _ = λ p m b e o. (e ≡ UnknownVariant) × (o ≡ start)

    -- the number of the variant stops, or its content does
    abbrev pub VariantStop : List Choice → Stopping
    VariantStop cs p m b e o =
        NumberStop p m b e o
        ⊎ ((n : ℕ) × (c : List ℕ) × (n < 2 ^ 32) × (b ≡ uleb n ++ c) × ChoiceStop p (choice_at n cs) (p + length (uleb n)) m c e o)

    -- no registry admits a name without a container, and it has no value
    abbrev pub ContentStop : Content → Stopping
    ContentStop (of s) = ShapeStop s
    ContentStop (one_of cs) = NodeStop (VariantStop cs)
    ContentStop nothing = FailStop Unsupported

  -- a container by its name, if this number of containers may be opened
  abbrev pub NamedStop : ℕ → List ℕ → Stopping
  NamedStop zero name = FailStop TooDeep
  NamedStop (suc d) name = NodeStop (ContentStop d (NamedStop d) (content_at name registry))

-- the bytes of the value stop for this reason at this place
abbrev pub Stops : Entries → Bounds → Shape → List ℕ → Reason → ℕ → Type 0
Stops registry limits s b e o = ShapeStop registry limits.depth (NamedStop registry limits.depth) s 0 limits.nodes b e o

-- a whole input stops: inside the value, or because bytes follow it
abbrev pub StopsAll : Entries → Bounds → Shape → List ℕ → Reason → ℕ → Type 0
StopsAll registry limits s b e o =
    Stops registry limits s b e o
    ⊎ ((n : ℕ) × (c : Tree) × Accepts registry limits s b n c × (n < length b) × (e ≡ TrailingBytes) × (o ≡ n))
