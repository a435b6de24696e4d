-- Laws about sameness, distinct keys and fitting.
use Rattle.std.specs.Prelude.{◌≡◌, ◌↔◌, Bool, IsTrue}
use Rattle.bcs_registry_model.specs.Shape.{Shape}
use Rattle.bcs_registry_model.specs.Container.{Entries, of}
use Rattle.bcs_registry_model.specs.Grows.{Grows}
use Rattle.bcs_value_model.specs.Tree.{Tree, Pairs, pairs}
use Rattle.bcs_value_model.specs.Same.{Same, HasDistinctKeys}
use Rattle.bcs_value_model.specs.Fits.{fits, Fits, FitsLoosely}
use Rattle.bcs_value_model.specs.Words.{EachHasMatch, KeysDiffer, PartsHaveDistinctKeys}

abbrev pub SameIsReflexive : Type 0
SameIsReflexive = (a : Tree) → Same a a

abbrev pub SameIsSymmetric : Type 0
SameIsSymmetric = (a b : Tree) → Same a b → Same b a

abbrev pub SameIsTransitive : Type 0
SameIsTransitive = (a b c : Tree) → Same a b → Same b c → Same a c

-- maps are the same exactly if each entry of either has one with the same key and the same value in the other
abbrev pub SameMaps : Type 0
SameMaps = (ps qs : Pairs) → Same (pairs ps) (pairs qs) ↔ (EachHasMatch ps qs × EachHasMatch qs ps)

-- a map has distinct keys exactly if no two of its keys are `Same`, and the maps in its entries have distinct keys
abbrev pub MapsWithDistinctKeys : Type 0
MapsWithDistinctKeys = (ps : Pairs) → HasDistinctKeys (pairs ps) ↔ (KeysDiffer ps × PartsHaveDistinctKeys ps)

abbrev pub FitsStrictlyThenLoosely : Type 0
FitsStrictlyThenLoosely = (registry : Entries) (s : Shape) (t : Tree) → Fits registry s t → FitsLoosely registry s t

-- trees that are the same fit the same formats
abbrev pub SameHaveSameFormats : Type 0
SameHaveSameFormats = (loose : Bool) (registry : Entries) (s : Shape) (t u : Tree) → Same t u → fits loose registry t (of s) ≡ fits loose registry u (of s)

-- a tree that fits still fits when the registry grows
abbrev pub GrowthKeepsFitting : Type 0
GrowthKeepsFitting = (loose : Bool) (older newer : Entries) (s : Shape) (t : Tree) → Grows older newer → IsTrue (fits loose older t (of s)) → IsTrue (fits loose newer t (of s))
