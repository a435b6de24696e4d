-- How a step over a source relates to the bytes that it reads, if the source's content is known.
use Rattle.std.specs.Prelude.{◌≡◌, ℕ, zero, suc, ◌+◌, ◌≤◌, Bool, false, true, if◌then◌else◌, ◌-◌, List, [], ◌++◌, length, take, drop, get_or, Option, Some, None, Result, Ok, Err}
use Rattle.std.specs.Int.{Width}
use Rattle.bcs_value_model.specs.Tree as tree
use Rattle.bcs_registry_model.specs.Shape as shape
use Rattle.bcs_registry_model.specs.Shape.{Shape, Shapes}
use Rattle.bcs_registry_model.specs.Container.{Entries, Content, content_at}
use Rattle.bcs_value_model.specs.Tree.{Tree, Trees, Pairs}
use Rattle.bcs_num.specs.declared.fault.NumFault.{NumFault}
use Rattle.bcs_num.specs.declared.fault.NumFault.TheVariants as num
use Rattle.bcs_decode_spec.specs.declared.reason.Reason.TheVariants.{EndOfInput, LongForm, NumberTooLarge, BadBool, BadOption, Unsupported}
use Rattle.bcs_decode_spec.specs.Reading as Reading
use Rattle.bcs_decode_spec.specs.Reading.{Parser, Making, node, give, chain, fail_here, bytes_here, length_here, uleb_from, flag_here, text_here, unsigned_here, signed_here, number_here, value_here, items_here, pairs_here, key_here, each_here, named_here, content_here, building}
use Rattle.bcs_decode_spec.specs.Steps.{node_here, enter_here}
use Rattle.bcs_decode_spec.specs.declared.decode_fault.DecodeFault.{DecodeFault}
use Rattle.bcs_decode_spec.specs.declared.decode_fault.DecodeFault.TheVariants.{Stop, Read, OutOfMemory}
use Rattle.bcs_decode_source.specs.declared.progress.Progress.{Progress}

-- the known bytes
abbrev pub rest_of : Option (List ℕ) → List ℕ
rest_of None = []
rest_of (Some b) = b

abbrev pub is_told : Option (List ℕ) → Bool
is_told None = false
is_told (Some b) = true

-- the fault is what the parser finds in the known bytes, unless it has another cause: a failed read, or memory
abbrev pub FindsFault : {A : Type 0} → DecodeFault → Option (List ℕ) → Progress → Parser A → Type 0
FindsFault (Stop s) c p f = is_told c ≡ true → f p.place p.nodes (rest_of c) ≡ Err (s.reason, s.place)
FindsFault Read c p f = Unit {0}
FindsFault OutOfMemory c p f = Unit {0}

-- the result, mapped by `view`, is what `f` finds in the known bytes `c` from p on, where it leaves q and `d`
abbrev pub Sees : {X A : Type 0} → (X → A) → Result X DecodeFault → Option (List ℕ) → Progress → Parser A → Progress → Option (List ℕ) → Type 0
Sees view (Ok x) c p f q d = is_told c ≡ true → (f p.place p.nodes (rest_of c) ≡ Ok (view x, q.place, q.nodes, rest_of d)) × (is_told d ≡ true)
Sees view (Err e) c p f q d = FindsFault e c p f

-- the source has failed exactly if the fault is `Read`
abbrev pub FailedIfRead : {X : Type 0} → Result X DecodeFault → Bool → Type 0
FailedIfRead (Ok x) failed = failed ≡ false
FailedIfRead (Err (Stop s)) failed = failed ≡ false
FailedIfRead (Err Read) failed = failed ≡ true
FailedIfRead (Err OutOfMemory) failed = failed ≡ false

-- the content is known: it is `b` without its first `p` bytes
pub record Left (b : List ℕ) (p : ℕ) (c : Option (List ℕ)) : Type 0 where
  pub told : is_told c ≡ true
  pub within : p ≤ length b
  pub is : rest_of c ≡ drop p b

-- the buffer contains `base`, and then what was read of `b` since the place `from`
pub record Records (b base : List ℕ) (from : ℕ) (p : Progress) : Type 0 where
  pub begun : from ≤ p.place
  pub is : p.kept.items ≡ base ++ take (p.place - from) (drop from b)

-- from p to q bytes were only skipped, and recorded while a key was open
pub record Along (c : Option (List ℕ)) (p : Progress) (d : Option (List ℕ)) (q : Progress) : Type 0 where
  pub gone : (b : List ℕ) → Left b p.place c → Left b q.place d
  pub later : p.place ≤ q.place
  pub same : q.is_in_key ≡ p.is_in_key
  pub front : take (length p.kept.items) q.kept.items ≡ p.kept.items
  pub unrecorded : p.is_in_key ≡ false → q.kept.items ≡ p.kept.items
  pub recorded : p.is_in_key ≡ true → (b base : List ℕ) (from : ℕ) → Left b p.place c → Records b base from p → Records b base from q

-- since p, the source has given some of its bytes, and the others are still to come
abbrev pub GaveFront : Option (List ℕ) → Progress → Option (List ℕ) → Type 0
GaveFront c p d = (b : List ℕ) → Left b p.place c → (n : ℕ) × (p.place ≤ n) × Left b n d

-- after a stop, the reader is at its place or later; after another fault, the source may have given any number of bytes
abbrev pub Halts : DecodeFault → Option (List ℕ) → Progress → Option (List ℕ) → Progress → Type 0
Halts (Stop s) c p d q = ((b : List ℕ) → Left b p.place c → Left b q.place d) × (s.place ≤ q.place)
Halts Read c p d q = GaveFront c p d
Halts OutOfMemory c p d q = GaveFront c p d

abbrev pub Goes : {X : Type 0} → Result X DecodeFault → Option (List ℕ) → Progress → Option (List ℕ) → Progress → Type 0
Goes (Ok x) c p d q = Along c p d q
Goes (Err e) c p d q = Halts e c p d q

-- the same within a map: the first `n` bytes of `kept` are unchanged
pub record AlongMap (n : ℕ) (c : Option (List ℕ)) (p : Progress) (d : Option (List ℕ)) (q : Progress) : Type 0 where
  pub gone : (b : List ℕ) → Left b p.place c → Left b q.place d
  pub later : p.place ≤ q.place
  pub same : q.is_in_key ≡ p.is_in_key
  pub front : take n q.kept.items ≡ take n p.kept.items
  pub recorded : p.is_in_key ≡ true → (b base : List ℕ) (from : ℕ) → Left b p.place c → Records b base from p → Records b base from q

abbrev pub GoesInMap : {X : Type 0} → ℕ → Result X DecodeFault → Option (List ℕ) → Progress → Option (List ℕ) → Progress → Type 0
GoesInMap n (Ok x) c p d q = AlongMap n c p d q
GoesInMap n (Err e) c p d q = Halts e c p d q

-- `OutOfMemory` occurs only while a key is open
abbrev pub OutOfMemoryOnlyInKey : {X : Type 0} → Result X DecodeFault → Progress → Type 0
OutOfMemoryOnlyInKey (Err OutOfMemory) p = p.is_in_key ≡ true
OutOfMemoryOnlyInKey r p = Unit {0}

-- one byte
unfoldable pub byte_here : Parser ℕ
byte_here = chain (bytes_here 1) (λ s. give (get_or s 0 0))

-- the result of reading the rest of a number that began at `start`
abbrev pub tail_read : ℕ → ℕ → ℕ → List ℕ → Result (ℕ × ℕ) NumFault → Reading.Read ℕ
tail_read start p m b (Ok x) = Ok (x.0, p + x.1, m, drop x.1 b)
tail_read start p m b (Err num.EndOfInput) = Err (EndOfInput, p + length b)
tail_read start p m b (Err num.LongForm) = Err (LongForm, start)
tail_read start p m b (Err num.NumberTooLarge) = Err (NumberTooLarge, start)

-- a ULEB128 number that began at `start`, from its byte `i` on
unfoldable pub tail_here : ℕ → ℕ → Parser ℕ
tail_here start i p m b = tail_read start p m b (uleb_from i b)

-- the limit for the rest of a number, from its byte `i` on
abbrev pub tail_limit : ℕ → ℕ
tail_limit zero = 4294967296
tail_limit (suc zero) = 33554432
tail_limit (suc (suc zero)) = 262144
tail_limit (suc (suc (suc zero))) = 2048
tail_limit _ = 16

-- the number of elements: the size of an array, or the length that a list begins with
abbrev pub count_here : Option ℕ → Parser ℕ
count_here (Some n) = give n
count_here None = length_here

-- begins a list or an array
unfoldable pub row_here : Option ℕ → Parser ℕ
row_here size = chain node_here (λ _. count_here size)

-- values without parts
abbrev pub unit_leaf : Parser Tree
unit_leaf = node (give tree.unit)

abbrev pub truth_leaf : Parser Tree
truth_leaf = node (chain (flag_here BadBool) (λ x. give (tree.truth x)))

abbrev pub unsigned_leaf : Width → Parser Tree
unsigned_leaf w = node (chain (unsigned_here w) (λ n. give (tree.unsigned n)))

abbrev pub signed_leaf : Width → Parser Tree
signed_leaf w = node (chain (signed_here w) (λ z. give (tree.signed z)))

abbrev pub unsupported_leaf : Parser Tree
unsupported_leaf = node (fail_here Unsupported)

abbrev pub text_leaf : Parser Tree
text_leaf = node (chain length_here (λ n. chain (text_here n) (λ s. give (tree.text s))))

abbrev pub bytes_leaf : Parser Tree
bytes_leaf = node (chain length_here (λ n. chain (bytes_here n) (λ s. give (tree.bytes s))))

-- a value without parts; other formats are read elsewhere
abbrev pub leaf_here : Shape → Parser Tree
leaf_here shape.unit = unit_leaf
leaf_here shape.truth = truth_leaf
leaf_here (shape.unsigned w) = unsigned_leaf w
leaf_here (shape.signed w) = signed_leaf w
leaf_here shape.text = text_leaf
leaf_here shape.bytes = bytes_leaf
leaf_here _ = unsupported_leaf

-- ---- values

-- a value of the format, in which `d` more containers may open
abbrev pub read : Entries → ℕ → Shape → Parser Tree
read registry d s = value_here building registry d s

-- `n` consecutive values
abbrev pub row_leaf : Parser Tree → ℕ → Parser Trees
row_leaf f n = items_here building f n

unfoldable pub flag_node : Parser Bool
flag_node = chain node_here (λ _. flag_here BadOption)

module _ {V : Type 0} {R : Type 0} {E : Type 0} (make : Making V R E) where
  unfoldable pub option_node : Parser V → Parser V
  option_node f = chain flag_node (λ some. if some then chain f (λ t. give (make.present t)) else give make.absent)

  -- a list or an array
  unfoldable pub items_node : Parser V → Option ℕ → Parser V
  items_node f size = chain (row_here size) (λ n. chain (items_here make f n) (λ ts. give (make.items ts)))

  -- a map: a count, and entries whose keys ascend
  unfoldable pub pairs_node : Parser V → Parser V → Parser V
  pairs_node f g = chain (row_here None) (λ n. chain (pairs_here make f g None n) (λ ps. give (make.pairs ps)))

-- one value of each format
abbrev pub each : Entries → ℕ → Shapes → Parser Trees
each registry d ss = each_here building (named_here building registry d) ss

unfoldable pub tuple_value : Entries → ℕ → Shapes → Parser Tree
tuple_value registry d ss = chain node_here (λ _. chain (each registry d ss) (λ ts. give (tree.items ts)))

unfoldable pub number_node : Parser ℕ
number_node = chain node_here (λ _. number_here)

abbrev pub entries_leaf : Parser Tree → Parser Tree → ℕ → Parser Pairs
entries_leaf f g n = pairs_here building f g None n

abbrev pub key_leaf : Parser Tree → Option (List ℕ) → Parser (Tree × List ℕ)
key_leaf f last = key_here f last

-- the contents of a container
abbrev pub content_value : Entries → ℕ → Content → Parser Tree
content_value registry d c = content_here building (named_here building registry d) c

-- a container with this content
unfoldable pub container_value : Entries → ℕ → Content → Parser Tree
container_value registry d c = chain (enter_here d) (λ _. chain (content_value registry (d - 1) c) (λ t. give (tree.named t)))

abbrev pub named_value : Entries → ℕ → List ℕ → Parser Tree
named_value registry d name = container_value registry d (content_at name registry)

-- values of these formats are built without allocating
abbrev pub takes_no_memory : Shape → Bool
takes_no_memory shape.unit = true
takes_no_memory shape.truth = true
takes_no_memory (shape.unsigned w) = true
takes_no_memory (shape.signed w) = true
takes_no_memory _ = false

-- `OutOfMemory` occurs only while a key is open, or if values of the format allocate
abbrev pub OutOfMemoryIfAllocating : {X : Type 0} → Bool → Result X DecodeFault → Progress → Type 0
OutOfMemoryIfAllocating true r p = OutOfMemoryOnlyInKey r p
OutOfMemoryIfAllocating false r p = Unit {0}
