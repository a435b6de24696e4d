-- The keys of a map that is being read, in the buffer `kept`.
use Rattle.std.specs.Prelude.{◌≡◌, ℕ, ◌≤◌, List, [], Option, Some, None, Result, Ok, Err}
use Rattle.std.specs.List.{slice_range}
use Rattle.bcs_decode_spec.specs.declared.decode_fault.DecodeFault.{DecodeFault}
use Rattle.bcs_decode_spec.specs.declared.decode_fault.DecodeFault.TheVariants.{Stop, Read, OutOfMemory}
use Rattle.bcs_decode_spec.specs.Reading.{Parser}
use Rattle.bcs_decode_source.specs.declared.progress.Progress.{Progress}
use Rattle.bcs_decode_source.specs.declared.keys.Span.{Span}

-- the bytes of the last key in `kept`
abbrev pub last_bytes : Option Span → List ℕ → Option (List ℕ)
last_bytes None kept = None
last_bytes (Some s) kept = Some (slice_range kept s.from s.to)

abbrev pub key_of : Option Span → List ℕ → List ℕ
key_of None kept = []
key_of (Some s) kept = slice_range kept s.from s.to

-- the last key is among the first `n` bytes of `kept`, after the first `begun`, which were there before the map
abbrev pub Stands : Option Span → ℕ → ℕ → Type 0
Stands None begun n = begun ≤ n
Stands (Some s) begun n = (begun ≤ s.from) × (s.from ≤ s.to) × (s.to ≤ n)

-- place, remaining nodes and `is_in_key` are unchanged
pub record SamePlace (p q : Progress) : Type 0 where
  pub place : q.place ≡ p.place
  pub nodes : q.nodes ≡ p.nodes
  pub key : q.is_in_key ≡ p.is_in_key

-- a check that reads nothing has the result of the parser `f`
abbrev pub Validates : Result (Unit {0}) DecodeFault → Parser (Unit {0}) → ℕ → Type 0
Validates (Ok u) f o = (p m : ℕ) (b : List ℕ) → f p m b ≡ Ok (tt, p, m, b)
Validates (Err (Stop s)) f o = (s.place ≡ o) × ((p m : ℕ) (b : List ℕ) → f p m b ≡ Err (s.reason, s.place))
Validates (Err Read) f o = ⊥
Validates (Err OutOfMemory) f o = ⊥
