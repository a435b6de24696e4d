-- A reference decoder: reads from left to right, and reports the first stop. It is generic over what it builds: the
-- tree, or nothing. Keys are compared as the bytes that were read.
use Rattle.std.specs.Prelude.{ℕ, zero, suc, ℤ, ◌+◌, ◌-◌, ◌*◌, ◌==◌, nat_lt, Bool, if◌then◌else◌, List, [], ◌∷◌, length, take, drop, Option, Some, None, Result, Ok, Err, ◌&&◌}
use Rattle.std.specs.Int.{Width, byte_len, from_le_bytes, cast_signed}
use Rattle.std.specs.Ordering.{nat_cmp, match_ordering}
use Rattle.std.specs.Cmp.Lexicographic.{slice_cmp}
use Rattle.std.specs.Str.{is_utf8}
use Rattle.std.specs.Str.Lossy.{utf8_valid_len}
use Rattle.bcs_num.specs.declared.fault.NumFault.{NumFault}
use Rattle.bcs_num.specs.declared.fault.NumFault.TheVariants as num
use Rattle.bcs_registry_model.specs.Shape as shape
use Rattle.bcs_registry_model.specs.Shape.{Shape, Shapes, no_shapes, shape}
use Rattle.bcs_registry_model.specs.Container.{Entries, Content, of, one_of, nothing, Choice, content_at, choice_at}
use Rattle.bcs_value_model.specs.Tree as tree
use Rattle.bcs_value_model.specs.Tree.{Tree, Trees, Pairs}
use Rattle.bcs_value_model.specs.Limits.{Bounds}
use Rattle.bcs_encode_spec.specs.Lengths.{length_limit}
use Rattle.bcs_decode_spec.specs.declared.reason.Reason.{Reason}
use Rattle.bcs_decode_spec.specs.declared.reason.Reason.TheVariants.{EndOfInput, BadBool, BadOption, LongForm, NumberTooLarge, LengthTooLarge, UnknownVariant, BadUtf8, KeyOrder, KeyRepeated, TooDeep, TooManyNodes, Unsupported}

-- the result, the place after it, the remaining nodes and the remaining bytes; or a stop
abbrev pub Read : Type 0 → Type 0
Read A = Result (A × ℕ × ℕ × List ℕ) (Reason × ℕ)

-- takes a place, the remaining nodes, and the bytes from that place on
abbrev pub Parser : Type 0 → Type 0
Parser A = ℕ → ℕ → List ℕ → Read A

abbrev pub follow : {A B : Type 0} → Read A → (A → Parser B) → Read B
follow (Ok x) k = k x.0 x.1 x.2 x.3
follow (Err e) k = Err e

unfoldable pub chain : {A B : Type 0} → Parser A → (A → Parser B) → Parser B
chain f k p m b = follow (f p m b) k

unfoldable pub give : {A : Type 0} → A → Parser A
give x p m b = Ok (x, p, m, b)

unfoldable pub fail : {A : Type 0} → Reason → ℕ → Parser A
fail e o p m b = Err (e, o)

-- stops at this place
unfoldable pub fail_here : {A : Type 0} → Reason → Parser A
fail_here e p m b = Err (e, p)

-- a node starts here
unfoldable pub node : {A : Type 0} → Parser A → Parser A
node f p zero b = Err (TooManyNodes, p)
node f p (suc m) b = f p m b

-- ---- numbers and bytes

-- puts len bytes in front of a result: the value is scaled by worth, low is added, and the length grows
abbrev pub shifted : ℕ → ℕ → ℕ → Result (ℕ × ℕ) NumFault → Result (ℕ × ℕ) NumFault
shifted low worth len (Ok x) = Ok (low + x.0 * worth, len + x.1)
shifted low worth len (Err e) = Err e

-- the rest of a ULEB128 number, from its byte at index i on, and its length
abbrev pub uleb_from : ℕ → List ℕ → Result (ℕ × ℕ) NumFault
uleb_from i [] = Err num.EndOfInput
uleb_from i (b ∷ bytes) =
    if (i == 4) && nat_lt 15 b then Err num.NumberTooLarge
    else (if nat_lt b 128 then (if (b == 0) && nat_lt 0 i then Err num.LongForm else Ok (b, 1))
    else shifted (b - 128) 128 1 (uleb_from (suc i) bytes))

-- converts to a result at a place
abbrev pub number_read : ℕ → ℕ → List ℕ → Result (ℕ × ℕ) NumFault → Read ℕ
number_read p m b (Ok x) = Ok (x.0, p + x.1, m, drop x.1 b)
number_read p m b (Err num.EndOfInput) = Err (EndOfInput, p + length b)
number_read p m b (Err num.LongForm) = Err (LongForm, p)
number_read p m b (Err num.NumberTooLarge) = Err (NumberTooLarge, p)

unfoldable pub number_here : Parser ℕ
number_here p m b = number_read p m b (uleb_from 0 b)

unfoldable pub length_here : Parser ℕ
length_here p = chain number_here (λ n. if nat_lt length_limit n then fail LengthTooLarge p else give n) p

unfoldable pub bytes_here : ℕ → Parser (List ℕ)
bytes_here n p m b = if nat_lt (length b) n then Err (EndOfInput, p + length b) else Ok (take n b, p + n, m, drop n b)

unfoldable pub text_here : ℕ → Parser (List ℕ)
text_here n p = chain (bytes_here n) (λ s. if is_utf8 s then give s else fail BadUtf8 (p + utf8_valid_len s)) p

-- a byte that must be 00 or 01
unfoldable pub flag_here : Reason → Parser Bool
flag_here bad p m [] = Err (EndOfInput, p)
flag_here bad p m (x ∷ b) = if nat_lt 1 x then Err (bad, p) else Ok (x == 1, p + 1, m, b)

unfoldable pub unsigned_here : Width → Parser ℕ
unsigned_here w = chain (bytes_here (byte_len w)) (λ s. give (from_le_bytes w s))

unfoldable pub signed_here : Width → Parser ℤ
signed_here w = chain (bytes_here (byte_len w)) (λ s. give (cast_signed w (from_le_bytes w s)))

-- fails unless the key may follow the last one
unfoldable pub key_after : Option (List ℕ) → List ℕ → ℕ → Parser (Unit {0})
key_after None key start = give tt
key_after (Some last) key start = match_ordering (slice_cmp nat_cmp last key) (give tt) (fail KeyRepeated start) (fail KeyOrder start)

-- a key and its bytes
unfoldable pub key_here : {A : Type 0} → Parser A → Option (List ℕ) → Parser (A × List ℕ)
key_here {A} k last p m b = follow (k p m b) (λ a q l c. follow (key_after last (take (q - p) b) p q l c) (λ _. give {A = A × List ℕ} (a, take (q - p) b)))

-- ---- values

-- how to build results: a value V, a list of values R, and a list of entries E
pub record Making (V : Type 0) (R : Type 0) (E : Type 0) : Type 0 where
  pub unit : V
  pub truth : Bool → V
  pub unsigned : ℕ → V
  pub signed : ℤ → V
  pub text : List ℕ → V
  pub bytes : List ℕ → V
  pub absent : V
  pub present : V → V
  pub items : R → V
  pub variant : ℕ → V → V
  pub pairs : E → V
  pub named : V → V
  pub no_items : R
  pub item : V → R → R
  pub no_entries : E
  pub entry : V → V → E → E

module _ {V : Type 0} {R : Type 0} {E : Type 0} (make : Making V R E) where
  unfoldable pub items_here : Parser V → ℕ → Parser R
  items_here f zero = give make.no_items
  items_here f (suc n) = chain f (λ t. chain (items_here f n) (λ ts. give (make.item t ts)))

  unfoldable pub pairs_here : Parser V → Parser V → Option (List ℕ) → ℕ → Parser E
  pairs_here k v last zero = give make.no_entries
  pairs_here k v last (suc n) = chain (key_here k last) (λ a. chain v (λ x. chain (pairs_here k v (Some a.1) n) (λ ps. give (make.entry a.0 x ps))))

  unfoldable pub option_here : Parser V → Parser V
  option_here f = chain (flag_here BadOption) (λ some. if some then chain f (λ t. give (make.present t)) else give make.absent)

  -- r reads a container by its name
  module _ (r : List ℕ → Parser V) where
    unfoldable mutual
      pub shape_here : Shape → Parser V
      shape_here shape.unit = node (give make.unit)
      shape_here shape.truth = node (chain (flag_here BadBool) (λ x. give (make.truth x)))
      shape_here (shape.unsigned w) = node (chain (unsigned_here w) (λ n. give (make.unsigned n)))
      shape_here (shape.signed w) = node (chain (signed_here w) (λ z. give (make.signed z)))
      shape_here (shape.unsupported u) = node (fail_here Unsupported)
      shape_here shape.text = node (chain length_here (λ n. chain (text_here n) (λ s. give (make.text s))))
      shape_here shape.bytes = node (chain length_here (λ n. chain (bytes_here n) (λ s. give (make.bytes s))))
      shape_here (shape.name n) = r n
      shape_here (shape.option s) = node (option_here (shape_here s))
      shape_here (shape.seq s) = node (chain length_here (λ n. chain (items_here (shape_here s) n) (λ ts. give (make.items ts))))
      shape_here (shape.map k v) = node (chain length_here (λ n. chain (pairs_here (shape_here k) (shape_here v) None n) (λ ps. give (make.pairs ps))))
      shape_here (shape.tuple ss) = node (chain (each_here ss) (λ ts. give (make.items ts)))
      shape_here (shape.array s n) = node (chain (items_here (shape_here s) n) (λ ts. give (make.items ts)))

      pub each_here : Shapes → Parser R
      each_here no_shapes = give make.no_items
      each_here (shape s ss) = chain (shape_here s) (λ t. chain (each_here ss) (λ ts. give (make.item t ts)))

    -- the content of the variant with this number
    unfoldable pub choice_here : ℕ → Content → Parser V
    choice_here start (of s) = shape_here s
    choice_here start _ = fail UnknownVariant start

    unfoldable pub variant_here : List Choice → Parser V
    variant_here cs p = chain number_here (λ n. chain (choice_here p (choice_at n cs)) (λ t. give (make.variant n t))) p

    unfoldable pub content_here : Content → Parser V
    content_here (of s) = shape_here s
    content_here (one_of cs) = node (variant_here cs)
    content_here nothing = fail_here Unsupported

  -- a container by its name, if d more containers may be opened
  unfoldable pub named_here : Entries → ℕ → List ℕ → Parser V
  named_here registry zero name = fail_here TooDeep
  named_here registry (suc d) name = node (chain (content_here (named_here registry d) (content_at name registry)) (λ t. give (make.named t)))

  -- a value of the format, if d more containers may be opened
  unfoldable pub value_here : Entries → ℕ → Shape → Parser V
  value_here registry d s = shape_here (named_here registry d) s

-- ---- building the tree, and building nothing

abbrev pub building : Making Tree Trees Pairs
building = record {
  unit = tree.unit;
  truth = tree.truth;
  unsigned = tree.unsigned;
  signed = tree.signed;
  text = tree.text;
  bytes = tree.bytes;
  absent = tree.absent;
  present = tree.present;
  items = tree.items;
  variant = tree.variant;
  pairs = tree.pairs;
  named = tree.named;
  no_items = tree.no_trees;
  item = tree.tree;
  no_entries = tree.no_pairs;
  entry = tree.pair;
}

abbrev pub skipping : Making (Unit {0}) (Unit {0}) (Unit {0})
skipping = record {
  unit = tt;
  truth = λ _. tt;
  unsigned = λ _. tt;
  signed = λ _. tt;
  text = λ _. tt;
  bytes = λ _. tt;
  absent = tt;
  present = λ _. tt;
  items = λ _. tt;
  variant = λ _ _. tt;
  pairs = λ _. tt;
  named = λ _. tt;
  no_items = tt;
  item = λ _ _. tt;
  no_entries = tt;
  entry = λ _ _ _. tt;
}

-- the value at the start of bytes, or the stop
abbrev pub read_value : Entries → Bounds → Shape → List ℕ → Read Tree
read_value registry limits s b = value_here building registry limits.depth s 0 limits.nodes b

-- its length, or the stop
abbrev pub skip_value : Entries → Bounds → Shape → List ℕ → Read (Unit {0})
skip_value registry limits s b = value_here skipping registry limits.depth s 0 limits.nodes b
