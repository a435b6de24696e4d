-- The result of decoding bytes to a JSON document.
use Rattle.std.specs.Prelude.{◌<◌, ℕ, List, length, Result, Ok, Err, String, string_bytes}
use Rattle.std.specs.declared.alloc.Global.{Global}
use Rattle.serde_json.specs.Data.{depth}
use Rattle.bcs_registry_model.specs.Container.{Entries}
use Rattle.bcs_registry_model.specs.Shape.{Shape}
use Rattle.bcs_value_model.specs.Limits.{Bounds}
use Rattle.bcs_value_model.specs.Tree.{Tree}
use Rattle.bcs_value_model.specs.View.{tree_of}
use Rattle.bcs_value_model.specs.declared.value.Value.{Value}
use Rattle.bcs_decode_spec.specs.Accepting.{Accepts}
use Rattle.bcs_decode_spec.specs.Stopping.{StopsAll}
use Rattle.bcs_json_spec.specs.Headline.{ShowsBytes}
use Rattle.bcs_json_spec.specs.JsonContent.{of}
use Rattle.bcs_json_spec.specs.Shown.{shown}
use Rattle.bcs_json_spec.specs.Texts.{nesting_limit}
use Rattle.bcs_json.specs.declared.from_fault.FromFault.{FromFault}
use Rattle.bcs_json.specs.declared.from_fault.FromFault.TheVariants.{Stop, TooNested, OutOfMemory}

-- an allocation failed, and the bytes begin with the encoding of a value
abbrev pub RanOut : Entries → Bounds → Shape → List ℕ → Type 0
RanOut registry limits s b = (n : ℕ) × (c : Tree) × Accepts registry limits s b n c

-- the value whose encoding is the whole input, or the stop
abbrev pub DecodesWhole : Entries → Bounds → Shape → List ℕ → Result Value FromFault → Type 0
DecodesWhole registry limits s b (Ok v) = Accepts registry limits s b (length b) (tree_of v)
DecodesWhole registry limits s b (Err (Stop x)) = StopsAll registry limits s b x.reason x.place
DecodesWhole registry limits s b (Err TooNested) = ⊥
DecodesWhole registry limits s b (Err OutOfMemory) = RanOut registry limits s b

-- the document of that value, or the stop, or there is a value whose document would nest too deep
abbrev pub Shows : Entries → Bounds → Shape → List ℕ → Result (String Global) FromFault → Type 0
Shows registry limits s b (Ok text) = ShowsBytes registry limits s b (string_bytes text)
Shows registry limits s b (Err (Stop x)) = StopsAll registry limits s b x.reason x.place
Shows registry limits s b (Err TooNested) = (c : Tree) × Accepts registry limits s b (length b) c × (nesting_limit < depth (shown registry c (of s)))
Shows registry limits s b (Err OutOfMemory) = RanOut registry limits s b
