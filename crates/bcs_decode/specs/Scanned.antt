-- What scanning a source returns. If the source's content isn't known (`None`), nothing is promised.
use Rattle.std.specs.Prelude.{◌≡◌, ◌≤◌, ℕ, List, [], length, drop, Option, Some, None, Result, Ok, Err}
use Rattle.bcs_registry_model.specs.Shape.{Shape}
use Rattle.bcs_registry_model.specs.Container.{Entries}
use Rattle.bcs_value_model.specs.Limits.{Bounds}
use Rattle.bcs_value_model.specs.Tree.{Tree}
use Rattle.bcs_decode_spec.specs.declared.decode_fault.DecodeFault.{DecodeFault}
use Rattle.bcs_decode_spec.specs.Accepting.{Accepts, IsDecoded}
use Rattle.bcs_decode_spec.specs.Exact.{AreBytes}
use Rattle.bcs_decode.specs.Whole.{DecodesFrom, DecodesAll}

-- the length of the accepted value, exactly whose bytes are consumed; or the fault of decoding
abbrev pub ScansFrom : Entries → Bounds → Shape → Option (List ℕ) → Option (List ℕ) → Result ℕ DecodeFault → Type 0
ScansFrom registry limits s None rest r = Unit {0}
ScansFrom registry limits s (Some b) rest (Ok n) = (rest ≡ Some (drop n b)) × (n ≤ length b) × (AreBytes b → (c : Tree) × Accepts registry limits s b n c)
ScansFrom registry limits s (Some b) rest (Err e) = DecodesFrom registry limits s (Some b) rest (Err e)

-- the length of the content, which is exactly one value and is consumed; or the fault of decoding all of it
abbrev pub ScansAll : Entries → Bounds → Shape → Option (List ℕ) → Option (List ℕ) → Result ℕ DecodeFault → Type 0
ScansAll registry limits s None rest r = Unit {0}
ScansAll registry limits s (Some b) rest (Ok n) = (rest ≡ Some []) × (n ≡ length b) × (AreBytes b → (c : Tree) × IsDecoded registry limits s b c)
ScansAll registry limits s (Some b) rest (Err e) = DecodesAll registry limits s (Some b) rest (Err e)
