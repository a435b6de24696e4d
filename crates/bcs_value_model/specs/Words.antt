-- Sameness of maps and distinct keys, stated in terms of entries.
use Rattle.std.specs.Prelude.{◌≡◌, ◌⊎◌, ℕ, zero, suc, Option, Some, None}
use Rattle.bcs_value_model.specs.Tree.{Tree, Pairs, no_pairs, pair}
use Rattle.bcs_value_model.specs.Same.{Same, HasDistinctKeys}

-- the entry is one of these
abbrev pub IsEntry : Tree → Tree → Pairs → Type 0
IsEntry k v no_pairs = ⊥
IsEntry k v (pair l w ps) = ((k ≡ l) × (v ≡ w)) ⊎ IsEntry k v ps

-- each entry of the first map has an entry with the same key and the same value in the second
abbrev pub EachHasMatch : Pairs → Pairs → Type 0
EachHasMatch ps qs = (k v : Tree) → IsEntry k v ps → (l : Tree) × (w : Tree) × IsEntry l w qs × Same k l × Same v w

-- the key of the entry at index i
abbrev pub key_at : Pairs → ℕ → Option Tree
key_at no_pairs i = None
key_at (pair k v ps) zero = Some k
key_at (pair k v ps) (suc i) = key_at ps i

-- no two keys are `Same`
abbrev pub KeysDiffer : Pairs → Type 0
KeysDiffer ps = (i j : ℕ) (k l : Tree) → key_at ps i ≡ Some k → key_at ps j ≡ Some l → Same k l → i ≡ j

-- the maps inside the entries have distinct keys
abbrev pub PartsHaveDistinctKeys : Pairs → Type 0
PartsHaveDistinctKeys ps = (k v : Tree) → IsEntry k v ps → HasDistinctKeys k × HasDistinctKeys v
