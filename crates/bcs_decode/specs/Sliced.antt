-- What decoding a slice returns.
use Rattle.std.specs.Prelude.{ℕ, List, Result, Ok, Err}
use Rattle.bcs_registry_model.specs.Shape.{Shape}
use Rattle.bcs_registry_model.specs.Container.{Entries}
use Rattle.bcs_value_model.specs.Tree.{Tree}
use Rattle.bcs_value_model.specs.Limits.{Bounds}
use Rattle.bcs_value_model.specs.View.{tree_of}
use Rattle.bcs_value_model.specs.declared.value.Value.{Value}
use Rattle.bcs_decode_spec.specs.declared.decode_fault.DecodeFault.{DecodeFault}
use Rattle.bcs_decode_spec.specs.declared.decode_fault.DecodeFault.TheVariants.{Stop, Read, OutOfMemory}
use Rattle.bcs_decode_spec.specs.Accepting.{Accepts}
use Rattle.bcs_decode_spec.specs.Stopping.{Stops}

-- the accepted value and its length; or the stop; or `OutOfMemory`, although a value is accepted
abbrev pub DecodesSlice : Entries → Bounds → Shape → List ℕ → Result (Value × ℕ) DecodeFault → Type 0
DecodesSlice registry limits s b (Ok r) = Accepts registry limits s b r.1 (tree_of r.0)
DecodesSlice registry limits s b (Err (Stop x)) = Stops registry limits s b x.reason x.place
DecodesSlice registry limits s b (Err Read) = ⊥
DecodesSlice registry limits s b (Err OutOfMemory) = (n : ℕ) × (c : Tree) × Accepts registry limits s b n c
