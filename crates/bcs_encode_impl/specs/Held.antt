-- What contracts say about a `Buffer`.
use Rattle.std.specs.Prelude.{ℕ, Bool, List, refl}
use Rattle.std.specs.Coded.{Coded, code_by, coded×, coded_ℕ, coded_bool, coded_list}

-- the bytes, how many fit without allocating, and whether it may allocate more
pub record HeldBytes : Type 0 where
  pub items : List ℕ
  pub capacity : ℕ
  pub grows : Bool

-- a buffer is encoded as the tuple of its fields
abbrev pub held_code : Coded HeldBytes
held_code =
    code_by (List ℕ × (ℕ × Bool)) (coded× (coded_list coded_ℕ) (coded× coded_ℕ coded_bool)) (λ h. (h.items, (h.capacity, h.grows)))
    (λ p. record { items = p.0; capacity = p.1.0; grows = p.1.1 }) (λ _. refl)
