-- The test for neighbours with the same key, and ascending entries.
use Rattle.std.proofs.Common.{◌≡◌, ℕ, ◌≤◌, true, false, List, [], ◌∷◌, length, refl, sym, subst, arith, rules, inl, inr}
use Rattle.std.specs.Cmp.Rules.{comparing}
use Rattle.std.specs.Str.{bytes_eq}
use Rattle.std.proofs.lemmas.Bool.{cases_Bool, or_left, or_right, true≢false}
use Rattle.bcs_encode_spec.specs.Entries.{Entry, EntriesRise, HasEqualNeighbours}
use Rattle.bcs_encode_spec.proofs.EntryOrder.{rising_once, equal_neighbours_twice}
use Rattle.bcs_key_order.specs.Order.{has_equal_neighbours, keys_rise}

equal_alike : (xs : List ℕ) → bytes_eq xs xs ≡ true
equal_alike xs = search (comparing, rules)

alike_equal : (xs ys : List ℕ) → bytes_eq xs ys ≡ true → xs ≡ ys
alike_equal xs ys h = search (comparing, rules)

pub equal_neighbours_found : (es : List Entry) → HasEqualNeighbours es → has_equal_neighbours es ≡ true
equal_neighbours_found [] h = absurd h
equal_neighbours_found (e ∷ []) h = absurd h
equal_neighbours_found (e ∷ d ∷ es) (inl is) = or_left (bytes_eq e.0 d.0) (has_equal_neighbours (d ∷ es)) (subst (λ (x : List ℕ). bytes_eq e.0 x ≡ true) is (equal_alike e.0))
equal_neighbours_found (e ∷ d ∷ es) (inr more) = or_right (bytes_eq e.0 d.0) (has_equal_neighbours (d ∷ es)) (equal_neighbours_found (d ∷ es) more)

found_equal_neighbours : (es : List Entry) → has_equal_neighbours es ≡ true → HasEqualNeighbours es
found_equal_neighbours [] h = absurd (true≢false (sym h))
found_equal_neighbours (e ∷ []) h = absurd (true≢false (sym h))
found_equal_neighbours (e ∷ d ∷ es) h = elim (cases_Bool (bytes_eq e.0 d.0)) [
  | inl is ↦ inl (alike_equal e.0 d.0 is)
  | inr isnt ↦ inr (found_equal_neighbours (d ∷ es) (rw isnt at h))
]

pub rising_no_equal_neighbours : (es : List Entry) → EntriesRise es → has_equal_neighbours es ≡ false
rising_no_equal_neighbours es up = elim (cases_Bool (has_equal_neighbours es)) [
  | inl is ↦ absurd (equal_neighbours_twice es (found_equal_neighbours es is) (rising_once es up))
  | inr isnt ↦ isnt
]

pub few_rise : (es : List Entry) → length es ≤ 1 → keys_rise es ≡ true
few_rise [] h = refl
few_rise (e ∷ []) h = refl
few_rise (e ∷ d ∷ es) h = absurd (omega arith)

-- fewer than two entries
pub few_no_equal_neighbours : (es : List Entry) → length es ≤ 1 → has_equal_neighbours es ≡ false
few_no_equal_neighbours [] h = refl
few_no_equal_neighbours (e ∷ []) h = refl
few_no_equal_neighbours (e ∷ d ∷ es) h = absurd (omega arith)
