-- The parts of a `HeldOutput`, for contracts.
use Rattle.std.specs.Prelude.{ℕ, Bool, List}
use Rattle.bcs_tool.specs.declared.files.held_output.HeldOutput.{HeldOutput}

-- the bytes that it holds
abbrev pub held_bytes : HeldOutput → List ℕ
held_bytes sink = sink.bytes.items

-- a call failed because memory ran out
abbrev pub ran_out : HeldOutput → Bool
ran_out sink = sink.has_failed
