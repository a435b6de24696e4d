-- Appending a value to bytes: the bytes with the value's encoding after them, or a fault. These functions carry the
-- proofs of the encoder. The public contracts name only `Encodes` and `RefusesValue`.
use Rattle.std.specs.Prelude.{◌≡◌, ℕ, ℤ, suc, ◌==◌, nat_le, if◌then◌else◌, List, [], ◌∷◌, ◌++◌, length, Result, Ok, Err}
use Rattle.std.specs.List.{flat_map}
use Rattle.std.specs.Int.{Width}
use Rattle.bcs_num.specs.Uleb.{uleb}
use Rattle.bcs_num.specs.Le.{holds_unsigned, holds_signed, le, le_signed}
use Rattle.bcs_registry_model.specs.Shape as shape
use Rattle.bcs_registry_model.specs.Shape.{Shape, Shapes, no_shapes, shape}
use Rattle.bcs_registry_model.specs.Container.{Entries, Content, of, one_of, content_at, choice_at}
use Rattle.bcs_value_model.specs.Tree as tree
use Rattle.bcs_value_model.specs.Tree.{Tree, Trees, no_trees, tree, Pairs, no_pairs, pair, count, pair_count}
use Rattle.bcs_encode_spec.specs.Lengths.{length_limit}
use Rattle.bcs_encode_spec.specs.Plain.{truth_byte}
use Rattle.bcs_encode_spec.specs.Entries.{Keyed, Entry, entry_bytes}
use Rattle.bcs_encode_spec.specs.declared.fault.EncodeFault.{EncodeFault}
use Rattle.bcs_encode_spec.specs.declared.fault.EncodeFault.TheVariants.{NotOfFormat, TooLong, RepeatedKey, OutOfMemory}
use Rattle.bcs_key_order.specs.Order.{is_below, has_equal_neighbours}

-- the bytes so far, or the first fault
abbrev pub Verdict : Type 0
Verdict = Result (List ℕ) EncodeFault

abbrev pub chain : {A B : Type 0} → Result A EncodeFault → (A → Result B EncodeFault) → Result B EncodeFault
chain (Ok a) rest = rest a
chain (Err e) rest = Err e

-- the result of a call is the verdict, unless memory ran out
abbrev pub ReportsVerdict : {A B : Type 0} → Result A EncodeFault → Result B EncodeFault → B → Type 0
ReportsVerdict (Ok a) verdict new = verdict ≡ Ok new
ReportsVerdict (Err e) verdict new = (e ≡ OutOfMemory → ⊥) → verdict ≡ Err e

-- ---- values without parts

abbrev pub length_written : ℕ → List ℕ → Verdict
length_written n b = if nat_le n length_limit then Ok (b ++ uleb n) else Err TooLong

abbrev pub bytes_written : List ℕ → List ℕ → Verdict
bytes_written s b = chain (length_written (length s) b) (λ c. Ok (c ++ s))

abbrev pub unsigned_written : Width → ℕ → List ℕ → Verdict
unsigned_written w n b = if holds_unsigned w n then Ok (b ++ le w n) else Err NotOfFormat

abbrev pub signed_written : Width → ℤ → List ℕ → Verdict
signed_written w z b = if holds_signed w z then Ok (b ++ le_signed w z) else Err NotOfFormat

-- ---- the entries of a map in order

-- inserts before the first entry whose key isn't below
abbrev pub insert_in_order : {V : Type 0} → Keyed V → List (Keyed V) → List (Keyed V)
insert_in_order e [] = e ∷ []
insert_in_order e (d ∷ ds) = if is_below d.0 e.0 then d ∷ insert_in_order e ds else e ∷ (d ∷ ds)

abbrev pub in_order : {V : Type 0} → List (Keyed V) → List (Keyed V)
in_order [] = []
in_order (e ∷ es) = insert_in_order e (in_order es)

unfoldable pub sorted_entries_written : List Entry → List ℕ → Verdict
sorted_entries_written es b = if has_equal_neighbours (in_order es) then Err RepeatedKey else Ok (b ++ flat_map entry_bytes (in_order es))

-- ---- values

abbrev pub shape_count : Shapes → ℕ
shape_count no_shapes = 0
shape_count (shape s ss) = suc (shape_count ss)

module _ (registry : Entries) where
  abbrev mutual
    pub written : Tree → Content → List ℕ → Verdict
    written tree.unit (of shape.unit) b = Ok b
    written (tree.truth t) (of shape.truth) b = Ok (b ++ (truth_byte t ∷ []))
    written (tree.unsigned n) (of (shape.unsigned w)) b = unsigned_written w n b
    written (tree.signed z) (of (shape.signed w)) b = signed_written w z b
    written (tree.text s) (of shape.text) b = bytes_written s b
    written (tree.bytes s) (of shape.bytes) b = bytes_written s b
    written tree.absent (of (shape.option s)) b = Ok (b ++ (0 ∷ []))
    written (tree.present t) (of (shape.option s)) b = written t (of s) (b ++ (1 ∷ []))
    written (tree.items ts) (of (shape.seq s)) b = chain (length_written (count ts) b) (items_written ts s)
    written (tree.items ts) (of (shape.tuple ss)) b = if count ts == shape_count ss then each_written ts ss b else Err NotOfFormat
    written (tree.items ts) (of (shape.array s n)) b = if count ts == n then items_written ts s b else Err NotOfFormat
    written (tree.pairs ps) (of (shape.map k v)) b = chain (length_written (pair_count ps) b) (λ c. chain (entries_written ps k v []) (λ es. sorted_entries_written es c))
    written (tree.named t) (of (shape.name n)) b = written t (content_at n registry) b
    written (tree.variant n t) (one_of cs) b = written t (choice_at n cs) (b ++ uleb n)
    written _ _ b = Err NotOfFormat

    -- every tree has the same format
    pub items_written : Trees → Shape → List ℕ → Verdict
    items_written no_trees s b = Ok b
    items_written (tree t ts) s b = chain (written t (of s) b) (items_written ts s)

    -- each tree has its own format
    pub each_written : Trees → Shapes → List ℕ → Verdict
    each_written no_trees no_shapes b = Ok b
    each_written (tree t ts) (shape s ss) b = chain (written t (of s) b) (each_written ts ss)
    each_written no_trees (shape s ss) b = Err NotOfFormat
    each_written (tree t ts) no_shapes b = Err NotOfFormat

    -- the entries so far, followed by those of the pairs
    pub entries_written : Pairs → Shape → Shape → List Entry → Result (List Entry) EncodeFault
    entries_written no_pairs k v es = Ok es
    entries_written (pair l w ps) k v es =
        chain (written l (of k) []) (λ a. chain (written w (of v) []) (λ c. entries_written ps k v (es ++ ((a, c) ∷ []))))
