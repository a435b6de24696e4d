-- Laws about decoding, for every registry, limits and format.
use Rattle.std.specs.Prelude.{◌≡◌, ◌↔◌, ◌⊎◌, ◌≢◌, ℕ, List, ◌++◌, length}
use Rattle.bcs_registry_model.specs.Shape.{Shape}
use Rattle.bcs_registry_model.specs.Container.{Entries}
use Rattle.bcs_registry_model.specs.Grows.{Grows}
use Rattle.bcs_registry_model.specs.WellFormed.{IsWellFormed, Admits}
use Rattle.bcs_value_model.specs.Tree.{Tree}
use Rattle.bcs_value_model.specs.Same.{Same}
use Rattle.bcs_value_model.specs.Limits.{Bounds}
use Rattle.bcs_encode_spec.specs.Encodes.{Encodes}
use Rattle.bcs_decode_spec.specs.declared.reason.Reason.{Reason}
use Rattle.bcs_decode_spec.specs.declared.reason.Reason.TheVariants.{EndOfInput, UnknownVariant}
use Rattle.bcs_decode_spec.specs.Accepting.{Accepts, IsDecoded}
use Rattle.bcs_decode_spec.specs.Stopping.{Stops, StopsAll}
use Rattle.bcs_decode_spec.specs.Exact.{AreBytes}

-- ---- exactly one verdict

-- bytes start with a value or have a stop
abbrev pub SomeVerdict : Type 0
SomeVerdict = (registry : Entries) (limits : Bounds) (s : Shape) (b : List ℕ) → AreBytes b
    → ((n : ℕ) × (c : Tree) × Accepts registry limits s b n c) ⊎ ((e : Reason) × (o : ℕ) × Stops registry limits s b e o)

-- bytes that start with a value have no stop
abbrev pub NoTwoVerdicts : Type 0
NoTwoVerdicts = (registry : Entries) (limits : Bounds) (s : Shape) (b : List ℕ) (n : ℕ) (c : Tree) (e : Reason) (o : ℕ)
    → Accepts registry limits s b n c → Stops registry limits s b e o → ⊥

-- they start with at most one value
abbrev pub AcceptsOnce : Type 0
AcceptsOnce = (registry : Entries) (limits : Bounds) (s : Shape) (b : List ℕ) (n k : ℕ) (c t : Tree)
    → Accepts registry limits s b n c → Accepts registry limits s b k t → (n ≡ k) × (c ≡ t)

-- they have at most one stop
abbrev pub StopsOnce : Type 0
StopsOnce = (registry : Entries) (limits : Bounds) (s : Shape) (b : List ℕ) (e g : Reason) (o i : ℕ)
    → Stops registry limits s b e o → Stops registry limits s b g i → (e ≡ g) × (o ≡ i)

-- ---- the same for a whole input

-- an input is the encoding of a value or has a stop
abbrev pub SomeVerdictOfAll : Type 0
SomeVerdictOfAll = (registry : Entries) (limits : Bounds) (s : Shape) (b : List ℕ) → AreBytes b
    → ((c : Tree) × Accepts registry limits s b (length b) c) ⊎ ((e : Reason) × (o : ℕ) × StopsAll registry limits s b e o)

abbrev pub NoTwoVerdictsOfAll : Type 0
NoTwoVerdictsOfAll = (registry : Entries) (limits : Bounds) (s : Shape) (b : List ℕ) (c : Tree) (e : Reason) (o : ℕ)
    → Accepts registry limits s b (length b) c → StopsAll registry limits s b e o → ⊥

abbrev pub StopsAllOnce : Type 0
StopsAllOnce = (registry : Entries) (limits : Bounds) (s : Shape) (b : List ℕ) (e g : Reason) (o i : ℕ)
    → StopsAll registry limits s b e o → StopsAll registry limits s b g i → (e ≡ g) × (o ≡ i)

-- ---- appended bytes

-- only the verdict EndOfInput can change if the bytes t are appended to b
pub record IsStable (registry : Entries) (limits : Bounds) (s : Shape) (b t : List ℕ) : Type 0 where
  pub ended : (o : ℕ) → Stops registry limits s b EndOfInput o → o ≡ length b
  pub accepted : (n : ℕ) (c : Tree) → Accepts registry limits s b n c → Accepts registry limits s (b ++ t) n c
  pub stopped : (e : Reason) (o : ℕ) → e ≢ EndOfInput → Stops registry limits s b e o → Stops registry limits s (b ++ t) e o
  -- the same for a whole input
  pub ended_of_all : (o : ℕ) → StopsAll registry limits s b EndOfInput o → o ≡ length b
  pub stopped_of_all : (e : Reason) (o : ℕ) → e ≢ EndOfInput → StopsAll registry limits s b e o → StopsAll registry limits s (b ++ t) e o

abbrev pub VerdictIsStable : Type 0
VerdictIsStable = (registry : Entries) (limits : Bounds) (s : Shape) (b t : List ℕ) → IsStable registry limits s b t

-- ---- the encoder

-- if a whole input is accepted, it is the encoding of the accepted value
abbrev pub AcceptedIsEncoded : Type 0
AcceptedIsEncoded = (registry : Entries) (limits : Bounds) (s : Shape) (b : List ℕ) (c : Tree)
    → Accepts registry limits s b (length b) c → Encodes registry limits s c b

-- the encoding of a value is accepted, as its canonical form
abbrev pub EncodedIsAccepted : Type 0
EncodedIsAccepted = (registry : Entries) (limits : Bounds) (s : Shape) (v : Tree) (b : List ℕ)
    → Encodes registry limits s v b → (c : Tree) × Same v c × Accepts registry limits s b (length b) c

-- a whole input is accepted exactly if it encodes some value, and the accepted value is the same as that one
abbrev pub ExactDecoding : Type 0
ExactDecoding = (registry : Entries) (limits : Bounds) (s : Shape) (b : List ℕ)
    → (((v : Tree) × Encodes registry limits s v b) ↔ ((c : Tree) × Accepts registry limits s b (length b) c))
    × ((c : Tree) → Accepts registry limits s b (length b) c → IsDecoded registry limits s b c)

-- ---- growth

-- when the registry grows, accepted bytes stay accepted, with the same tree and the same length
abbrev pub GrowthKeepsAccepting : Type 0
GrowthKeepsAccepting = (older newer : Entries) (limits : Bounds) (s : Shape) (b : List ℕ) (n : ℕ) (c : Tree)
    → Grows older newer → Accepts older limits s b n c → Accepts newer limits s b n c

-- a stop stays too, except UnknownVariant: the variant may be new
abbrev pub GrowthKeepsStops : Type 0
GrowthKeepsStops = (older newer : Entries) (limits : Bounds) (s : Shape) (b : List ℕ) (e : Reason) (o : ℕ)
    → IsWellFormed older → Admits older s → Grows older newer → e ≢ UnknownVariant
    → Stops older limits s b e o → Stops newer limits s b e o

-- the same for a whole input
abbrev pub GrowthKeepsStopsAll : Type 0
GrowthKeepsStopsAll = (older newer : Entries) (limits : Bounds) (s : Shape) (b : List ℕ) (e : Reason) (o : ℕ)
    → IsWellFormed older → Admits older s → Grows older newer → e ≢ UnknownVariant
    → StopsAll older limits s b e o → StopsAll newer limits s b e o
