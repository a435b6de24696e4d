-- Formats whose values all have the same encoded size.
use Rattle.std.specs.Prelude.{◌≡◌, ℕ, ◌+◌, ◌-◌, ◌≤◌, List, length, drop, Ok}
use Rattle.bcs_registry_model.specs.Shape.{Shape}
use Rattle.bcs_registry_model.specs.Container.{Entries, Content}
use Rattle.bcs_decode_spec.specs.Reading.{Parser, content_here, named_here, skipping}
use Rattle.bcs_decode_spec.specs.Steps.{skip}

-- if at least `bytes` bytes and `nodes` nodes are left, `f` succeeds and consumes exactly these, whatever the bytes are
abbrev pub GoesPast : Parser (Unit {0}) → ℕ → ℕ → Type 0
GoesPast f bytes nodes = (p m : ℕ) (b : List ℕ) → bytes ≤ length b → nodes ≤ m → f p m b ≡ Ok (tt, p + bytes, m - nodes, drop bytes b)

-- each value of the format has `bytes` bytes and `nodes` nodes, any `bytes` bytes are one, and depth `d` suffices
abbrev pub IsFixed : Entries → ℕ → Shape → ℕ → ℕ → Type 0
IsFixed registry d s bytes nodes = GoesPast (skip registry d s) bytes nodes

-- the same for the contents of a container
abbrev pub IsFixedInside : Entries → ℕ → Content → ℕ → ℕ → Type 0
IsFixedInside registry d c bytes nodes = GoesPast (content_here skipping (named_here skipping registry d) c) bytes nodes
