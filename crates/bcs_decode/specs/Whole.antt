-- What decoding a source returns. If the source's content isn't known (`None`), nothing is promised.
use Rattle.std.specs.Prelude.{◌≡◌, ◌<◌, ◌≤◌, ◌⊎◌, ℕ, suc, List, [], length, drop, Option, Some, None, Result, Ok, Err}
use Rattle.bcs_registry_model.specs.Shape.{Shape}
use Rattle.bcs_registry_model.specs.Container.{Entries}
use Rattle.bcs_value_model.specs.Limits.{Bounds}
use Rattle.bcs_value_model.specs.View.{tree_of}
use Rattle.bcs_value_model.specs.declared.value.Value.{Value}
use Rattle.bcs_decode_spec.specs.declared.decode_fault.DecodeFault.{DecodeFault}
use Rattle.bcs_decode_spec.specs.declared.decode_fault.DecodeFault.TheVariants.{Stop, Read, OutOfMemory}
use Rattle.bcs_decode_spec.specs.Accepting.{Accepts, IsDecoded}
use Rattle.bcs_decode_spec.specs.Stopping.{Stops, StopsAll}
use Rattle.bcs_decode_spec.specs.declared.stop.Stop as stop
use Rattle.bcs_decode_spec.specs.declared.reason.Reason.TheVariants.{TrailingBytes}
use Rattle.bcs_value_model.specs.Tree.{Tree}
use Rattle.bcs_decode_spec.specs.Exact.{AreBytes}
use Rattle.bcs_encode_spec.specs.Encodes.{Encodes}

-- at least `n` bytes are known to follow
abbrev pub AreKnown : ℕ → Option (List ℕ) → Type 0
AreKnown n None = n ≡ 0
AreKnown n (Some b) = n ≤ length b

-- a prefix has been consumed, however long
abbrev pub FrontGone : List ℕ → Option (List ℕ) → Type 0
FrontGone b rest = (n : ℕ) × (n ≤ length b) × (rest ≡ Some (drop n b))

-- a prefix has been consumed that is at least as long as `place`
abbrev pub GoneTo : List ℕ → Option (List ℕ) → ℕ → Type 0
GoneTo b rest place = (n : ℕ) × (place ≤ n) × (n ≤ length b) × (rest ≡ Some (drop n b))

-- the accepted value and its length, or the stop, or another fault; a prefix has been consumed in each case
abbrev pub DecodesFront : Entries → Bounds → Shape → Option (List ℕ) → Option (List ℕ) → Result (Value × ℕ) DecodeFault → Type 0
DecodesFront registry limits s None rest r = Unit {0}
DecodesFront registry limits s (Some b) rest (Ok r) = FrontGone b rest × (AreBytes b → Accepts registry limits s b r.1 (tree_of r.0) × (rest ≡ Some (drop r.1 b)))
DecodesFront registry limits s (Some b) rest (Err (Stop stop)) = AreBytes b → Stops registry limits s b stop.reason stop.place × GoneTo b rest stop.place
DecodesFront registry limits s (Some b) rest (Err Read) = FrontGone b rest
DecodesFront registry limits s (Some b) rest (Err OutOfMemory) = FrontGone b rest

-- the accepted value, exactly whose bytes are consumed; or the stop, and the consumed prefix isn't shorter than its
-- place; or another fault, after any prefix
abbrev pub DecodesFrom : Entries → Bounds → Shape → Option (List ℕ) → Option (List ℕ) → Result Value DecodeFault → Type 0
DecodesFrom registry limits s None rest r = Unit {0}
DecodesFrom registry limits s (Some b) rest (Ok v) = AreBytes b → (n : ℕ) × Accepts registry limits s b n (tree_of v) × (rest ≡ Some (drop n b))
DecodesFrom registry limits s (Some b) rest (Err (Stop stop)) = AreBytes b → Stops registry limits s b stop.reason stop.place × GoneTo b rest stop.place
DecodesFrom registry limits s (Some b) rest (Err Read) = FrontGone b rest
DecodesFrom registry limits s (Some b) rest (Err OutOfMemory) = FrontGone b rest

-- a value ends at the stop, and more bytes follow; the value and one more byte have been consumed
pub record Trails (registry : Entries) (limits : Bounds) (s : Shape) (b : List ℕ) (rest : Option (List ℕ)) (stop : stop.Stop) : Type 0 where
  pub reason : stop.reason ≡ TrailingBytes
  pub value : Tree
  pub accepted : Accepts registry limits s b stop.place value
  pub after : stop.place < length b
  pub gone : rest ≡ Some (drop (suc stop.place) b)

-- the value that exactly the whole content encodes; or the stop of the whole content, which is then no value's encoding
-- (a stop inside the value is also that of its prefix); or another fault, after any prefix
abbrev pub DecodesAll : Entries → Bounds → Shape → Option (List ℕ) → Option (List ℕ) → Result Value DecodeFault → Type 0
DecodesAll registry limits s None rest r = Unit {0}
DecodesAll registry limits s (Some b) rest (Ok v) = AreBytes b → IsDecoded registry limits s b (tree_of v) × (rest ≡ Some [])
DecodesAll registry limits s (Some b) rest (Err (Stop stop)) = AreBytes b → StopsAll registry limits s b stop.reason stop.place
    × ((v : Tree) → Encodes registry limits s v b → ⊥)
    × ((Stops registry limits s b stop.reason stop.place × GoneTo b rest stop.place) ⊎ Trails registry limits s b rest stop)
DecodesAll registry limits s (Some b) rest (Err Read) = FrontGone b rest
DecodesAll registry limits s (Some b) rest (Err OutOfMemory) = FrontGone b rest
