-- The encoded entries of a map: the bytes of each key and of each value.
use Rattle.std.specs.Prelude.{◌≡◌, ℕ, List, [], ◌∷◌, ◌++◌, ◌⊎◌, IsTrue, false}
use Rattle.std.specs.List.{flat_map}
use Rattle.std.specs.List.Sorted.{IsPermutation}
use Rattle.bcs_num.specs.Uleb.{uleb}
use Rattle.bcs_registry_model.specs.Shape.{Shape, map}
use Rattle.bcs_registry_model.specs.Container.{Entries, Content, of}
use Rattle.bcs_value_model.specs.Tree.{Tree, pairs, Pairs, no_pairs, pair, pair_count}
use Rattle.bcs_value_model.specs.Fits.{fits}
use Rattle.bcs_value_model.specs.Same.{distinct, HasDistinctKeys}
use Rattle.bcs_encode_spec.specs.Canonical.{Below}
use Rattle.bcs_encode_spec.specs.Encodes.{IsForm}
use Rattle.bcs_encode_spec.specs.Plain.{plain}

-- t has distinct keys, and b are the bytes of its canonical form: like `Encodes`, but without limits
pub record EncodesWithoutLimits (registry : Entries) (f : Content) (t : Tree) (b : List ℕ) : Type 0 where
  pub fit : IsTrue (fits false registry t f)
  pub distinct : HasDistinctKeys t
  pub form : Tree
  pub is_form : IsForm registry f t form
  pub bytes : plain registry form f ≡ b

-- the bytes of a key, and what belongs to the key
abbrev pub Keyed : Type 0 → Type 0
Keyed V = List ℕ × V

-- the bytes of a key and the bytes of its value
abbrev pub Entry : Type 0
Entry = Keyed (List ℕ)

abbrev pub entry_bytes : Entry → List ℕ
entry_bytes e = e.0 ++ e.1

-- the bytes of a map with these entries, in this order
abbrev pub map_bytes : ℕ → List Entry → List ℕ
map_bytes count es = uleb count ++ flat_map entry_bytes es

-- the encoded entries of these pairs, in the same order
abbrev pub EntriesOf : Entries → Shape → Shape → Pairs → List Entry → Type 0
EntriesOf registry f g no_pairs [] = Unit {0}
EntriesOf registry f g (pair k v ps) (e ∷ es) = EncodesWithoutLimits registry (of f) k e.0 × EncodesWithoutLimits registry (of g) v e.1 × EntriesOf registry f g ps es
EntriesOf registry f g no_pairs (e ∷ es) = ⊥
EntriesOf registry f g (pair k v ps) [] = ⊥

-- ---- their order, whatever belongs to the keys

abbrev pub EntriesRiseFrom : {V : Type 0} → List ℕ → List (Keyed V) → Type 0
EntriesRiseFrom b [] = Unit {0}
EntriesRiseFrom b (e ∷ es) = Below b e.0 × EntriesRiseFrom e.0 es

-- the bytes of the keys ascend
abbrev pub EntriesRise : {V : Type 0} → List (Keyed V) → Type 0
EntriesRise [] = Unit {0}
EntriesRise (e ∷ es) = EntriesRiseFrom e.0 es

-- two neighbours have the same key
abbrev pub HasEqualNeighbours : {V : Type 0} → List (Keyed V) → Type 0
HasEqualNeighbours [] = ⊥
HasEqualNeighbours (e ∷ []) = ⊥
HasEqualNeighbours (e ∷ d ∷ es) = (e.0 ≡ d.0) ⊎ HasEqualNeighbours (d ∷ es)

-- ---- the laws

-- sorting the encoded entries of a map gives the bytes of its canonical form
abbrev pub SortedEntries : Type 0
SortedEntries = (registry : Entries) (f g : Shape) (ps : Pairs) (es rs : List Entry)
    → EntriesOf registry f g ps es → IsPermutation es rs → EntriesRise rs
    → EncodesWithoutLimits registry (of (map f g)) (pairs ps) (map_bytes (pair_count ps) rs)

-- if two neighbours among the sorted entries have the same key, the map has a repeated key
abbrev pub EqualNeighboursRepeat : Type 0
EqualNeighboursRepeat = (registry : Entries) (f g : Shape) (ps : Pairs) (es rs : List Entry)
    → EntriesOf registry f g ps es → IsPermutation es rs → HasEqualNeighbours rs → distinct (pairs ps) ≡ false
