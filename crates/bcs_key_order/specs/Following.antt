-- The result of checking a key.
use Rattle.std.specs.Prelude.{◌≡◌, ℕ, List, Option, Some, None, Result, Ok, Err}
use Rattle.std.specs.Borrow.{Bor}
use Rattle.bcs_decode_spec.specs.declared.stop.Stop.{Stop}
use Rattle.bcs_decode_spec.specs.Reading.{Parser}

-- the result is that of a parser that reads nothing
abbrev pub Validates : Result (Unit {0}) Stop → Parser (Unit {0}) → Type 0
Validates (Ok u) f = (p m : ℕ) (b : List ℕ) → f p m b ≡ Ok (tt, p, m, b)
Validates (Err s) f = (p m : ℕ) (b : List ℕ) → f p m b ≡ Err (s.reason, s.place)

abbrev pub key_bytes : Option (Bor (List ℕ)) → Option (List ℕ)
key_bytes None = None
key_bytes (Some k) = Some k.now
