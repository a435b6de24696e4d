-- Equality of values, where maps are finite maps (the order of entries doesn't matter); and distinct keys.
use Rattle.std.specs.Prelude.{Bool, true, false, not, ◌&&◌, ◌||◌, ◌==◌, IsTrue}
use Rattle.std.specs.Ordering.{int_eq}
use Rattle.std.specs.Str.{bytes_eq}
use Rattle.bcs_value_model.specs.Tree.{Tree, unit, truth, unsigned, signed, text, bytes, absent, present, items, variant, pairs, named, Trees, no_trees, tree, Pairs, no_pairs, pair}

-- the test holds for some pair
abbrev pub any_pair : (Tree → Tree → Bool) → Pairs → Bool
any_pair test no_pairs = false
any_pair test (pair k v ps) = test k v || any_pair test ps

-- the test holds for each pair
abbrev pub all_pairs : (Tree → Tree → Bool) → Pairs → Bool
all_pairs test no_pairs = true
all_pairs test (pair k v ps) = test k v && all_pairs test ps

abbrev pub both : Bool → Bool → Bool
both true b = b
both false true = false
both false false = true

abbrev mutual
  pub same : Tree → Tree → Bool
  same unit unit = true
  same (truth a) (truth b) = both a b
  same (unsigned m) (unsigned n) = m == n
  same (signed m) (signed n) = int_eq m n
  same (text s) (text t) = bytes_eq s t
  same (bytes s) (bytes t) = bytes_eq s t
  same absent absent = true
  same (present a) (present b) = same a b
  same (items ts) (items us) = all_same ts us
  same (variant m a) (variant n b) = m == n && same a b
  same (pairs ps) (pairs qs) = is_within ps qs && all_pairs (has_pair ps) qs
  same (named a) (named b) = same a b
  same _ _ = false

  pub all_same : Trees → Trees → Bool
  all_same no_trees no_trees = true
  all_same (tree t ts) (tree u us) = same t u && all_same ts us
  all_same no_trees (tree u us) = false
  all_same (tree t ts) no_trees = false

  -- each pair of the first map is in the second
  pub is_within : Pairs → Pairs → Bool
  is_within no_pairs qs = true
  is_within (pair k v ps) qs = any_pair (λ l w. same k l && same v w) qs && is_within ps qs

  -- one of the pairs has this key and this value
  pub has_pair : Pairs → Tree → Tree → Bool
  has_pair no_pairs l w = false
  has_pair (pair k v ps) l w = same k l && same v w || has_pair ps l w

abbrev mutual
  pub distinct : Tree → Bool
  distinct (present t) = distinct t
  distinct (items ts) = all_distinct ts
  distinct (variant n t) = distinct t
  distinct (pairs ps) = pairs_distinct ps
  distinct (named t) = distinct t
  distinct _ = true

  pub all_distinct : Trees → Bool
  all_distinct no_trees = true
  all_distinct (tree t ts) = distinct t && all_distinct ts

  pub pairs_distinct : Pairs → Bool
  pairs_distinct no_pairs = true
  pairs_distinct (pair k v ps) = (distinct k && distinct v) && (all_pairs (λ l w. not (same k l)) ps && pairs_distinct ps)

-- the values are equal, up to the order of map entries
abbrev pub Same : Tree → Tree → Type 0
Same a b = IsTrue (same a b)

-- no map has two entries whose keys are `Same`
abbrev pub HasDistinctKeys : Tree → Type 0
HasDistinctKeys t = IsTrue (distinct t)
