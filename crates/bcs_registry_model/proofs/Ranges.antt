-- What an orderly registry implies for each of its containers.
use Rattle.bcs_registry_model.proofs.Prelude.{ℕ, List, [], ◌∷◌, All, All-nil, All-cons, AllByRecursion, Container, Entries, IsInRange, NumbersRise}

-- the variants of each enum are in ascending order of their numbers
pub enums_rise : (es : Entries) → AllByRecursion (λ e. IsInRange e.1) es → All (λ e. NumbersRise e.1) es
enums_rise [] h = All-nil (λ (e : List ℕ × Container). NumbersRise e.1)
enums_rise (e ∷ es) h = All-cons (λ (e : List ℕ × Container). NumbersRise e.1) e es h.0.rise (enums_rise es h.1)
