-- Parsers that are exact: a relation states what they read, and another where they stop.
use Rattle.std.specs.Prelude.{◌≡◌, ℕ, ◌+◌, ◌<◌, List, ◌++◌, length, Ok, Err}
use Rattle.std.specs.List.{All}
use Rattle.bcs_decode_spec.specs.declared.reason.Reason.{Reason}
use Rattle.bcs_decode_spec.specs.Reading.{Parser}
use Rattle.bcs_decode_spec.specs.Stopping.{Stopping}

abbrev pub AreBytes : List ℕ → Type 0
AreBytes b = All (λ x. x < 256) b

-- a result, the number of its nodes, and its bytes
abbrev pub Reads : Type 0 → Type 1
Reads A = A → ℕ → List ℕ → Type 0

pub record Exact {A : Type 0} (R : Reads A) (S : Stopping) (f : Parser A) : Type 0 where
  pub ok : (p m : ℕ) (b : List ℕ) (x : A) (q l : ℕ) (c : List ℕ) → AreBytes b → f p m b ≡ Ok (x, q, l, c) → (w : ℕ) × (s : List ℕ) × R x w s × (b ≡ s ++ c) × (q ≡ p + length s) × (m ≡ w + l)
  pub again : (p m : ℕ) (x : A) (w : ℕ) (s c : List ℕ) → R x w s → f p (w + m) (s ++ c) ≡ Ok (x, p + length s, m, c)
  pub stop : (p m : ℕ) (b : List ℕ) (e : Reason) (o : ℕ) → AreBytes b → f p m b ≡ Err (e, o) → S p m b e o
  pub stops : (p m : ℕ) (b : List ℕ) (e : Reason) (o : ℕ) → S p m b e o → f p m b ≡ Err (e, o)
