-- Where bytes stop being a value.
use Rattle.std.specs.Prelude.{ℕ, List, Option, Some, None, length}
use Rattle.bcs_registry_model.specs.Shape.{Shape}
use Rattle.bcs_registry_model.specs.Container.{Entries}
use Rattle.bcs_value_model.specs.Tree.{Tree}
use Rattle.bcs_value_model.specs.Limits.{Bounds}
use Rattle.bcs_decode_spec.specs.declared.stop.Stop.{Stop}
use Rattle.bcs_decode_spec.specs.Accepting.{Accepts}
use Rattle.bcs_decode_spec.specs.Stopping.{StopsAll}

-- `None`: the bytes encode a value. `Some`: they stop being one at this place, for this reason
abbrev pub EndsAt : Entries → Bounds → Shape → List ℕ → Option Stop → Type 0
EndsAt registry limits s b None = (c : Tree) × Accepts registry limits s b (length b) c
EndsAt registry limits s b (Some x) = StopsAll registry limits s b x.reason x.place
