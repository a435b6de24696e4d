-- Laws of parts, for every registry and format.
use Rattle.std.specs.Prelude.{◌≡◌, ◌+◌, IsTrue, false, List, Option, Some, None, length}
use Rattle.bcs_num.specs.Uleb.{uleb}
use Rattle.bcs_registry_model.specs.Shape.{Shape, map as map_shape}
use Rattle.bcs_registry_model.specs.Container.{Entries, Content, of}
use Rattle.bcs_registry_model.specs.Grows.{Grows}
use Rattle.bcs_value_model.specs.Tree as tree
use Rattle.bcs_value_model.specs.Tree.{Tree, Pairs, no_pairs, pair, pair_count}
use Rattle.bcs_value_model.specs.Fits.{fits}
use Rattle.bcs_encode_spec.specs.Plain.{plain, plain_pairs}
use Rattle.bcs_encode_spec.specs.Canonical.{IsCanonical}
use Rattle.bcs_decode_parts.specs.Parts.{Step, key, Part, step_at, part_at, Stands}

-- the bytes of a part are in the whole encoding, at its place
abbrev pub PartStands : Type 0
PartStands = (registry : Entries) (path : List Step) (f : Content) (t : Tree) (x : Part)
    → part_at registry path f t ≡ Some x → Stands registry (plain registry t f) x

-- ---- keys

abbrev pub joined : Pairs → Pairs → Pairs
joined no_pairs qs = qs
joined (pair k v ps) qs = pair k v (joined ps qs)

-- in a canonical tree, the bytes of an entry's key lead to that entry and no other
abbrev pub KeyLeadsToOne : Type 0
KeyLeadsToOne = (registry : Entries) (f g : Shape) (before later : Pairs) (k v : Tree)
    → IsCanonical registry (tree.pairs (joined before (pair k v later))) (of (map_shape f g))
    → step_at registry (key (plain registry k (of f))) (of (map_shape f g)) (tree.pairs (joined before (pair k v later)))
    ≡ Some (record {
      value = v;
      content = of g;
      place = length (uleb (pair_count (joined before (pair k v later)))) + (length (plain_pairs registry before f g) + length (plain registry k (of f)));
    })

-- ---- growth

-- the same value at the same place, with the same bytes; or no part in both
abbrev pub IsSamePart : Entries → Entries → Option Part → Option Part → Type 0
IsSamePart older newer None None = Unit {0}
IsSamePart older newer (Some x) (Some y) = (y.value ≡ x.value) × (y.place ≡ x.place) × (plain newer y.value y.content ≡ plain older x.value x.content)
IsSamePart older newer None (Some y) = ⊥
IsSamePart older newer (Some x) None = ⊥

-- if a registry grows, a path leads to the same part of a fitting tree in both registries, or to none in both
abbrev pub GrowthKeepsParts : Type 0
GrowthKeepsParts = (older newer : Entries) (path : List Step) (f : Content) (t : Tree)
    → Grows older newer → IsTrue (fits false older t f) → IsSamePart older newer (part_at older path f t) (part_at newer path f t)
