-- Skipping `n` values of `w` bytes each in one step.
use Rattle.bcs_decode_slice.proofs.Prelude.{◌≡◌, ℕ, zero, suc, ◌+◌, ◌-◌, ◌*◌, ◌<◌, ◌≤◌, List, length, drop, Ok, Err, refl, ap, ◌∙◌, arith, ◌/◌, ◌⊎◌, inl, inr, mul-le-mul_right, suc-mul, le-ltb, lt-ltb, length-drop, drop-drop, Reason, EndOfInput, TooManyNodes, chain, give, node, bytes_here, items_here, skipping, whole_here}
use Rattle.bcs_decode_spec.proofs.ScalarSteps.{bare}

module _ (w : ℕ) where
  pub one_on : (p m : ℕ) (b : List ℕ) → w ≤ length b → whole_here w p (suc m) b ≡ Ok (tt, p + w, m, drop w b)
  unfolding whole_here chain node give bytes_here
  one_on p m b le = rw (le-ltb (length b) w le) refl

  one_short : (p m : ℕ) (b : List ℕ) → length b < w → whole_here w p (suc m) b ≡ Err (EndOfInput, p + length b)
  unfolding whole_here chain node give bytes_here
  one_short p m b lt = rw (lt-ltb (length b) w lt) refl

  one_many : (p : ℕ) (b : List ℕ) → whole_here w p zero b ≡ Err (TooManyNodes, p)
  unfolding whole_here chain node
  one_many p b = refl

  row_on : (n p m : ℕ) (b : List ℕ) → w ≤ length b → items_here skipping (whole_here w) (suc n) p (suc m) b ≡ items_here skipping (whole_here w) n (p + w) m (drop w b)
  unfolding items_here chain
  row_on n p m b le = rw (one_on p m b le) (bare (items_here skipping (whole_here w) n (p + w) m (drop w b)))

  row_stop : (n p m : ℕ) (b : List ℕ) (e : Reason × ℕ) → whole_here w p m b ≡ Err e → items_here skipping (whole_here w) (suc n) p m b ≡ Err e
  unfolding items_here chain
  row_stop n p m b e h = rw h refl

  row_none : (p m : ℕ) (b : List ℕ) → items_here skipping (whole_here w) zero p m b ≡ Ok (tt, p, m, b)
  unfolding items_here give
  row_none p m b = refl

  -- all values are there
  pub row_passed : (n p m : ℕ) (b : List ℕ) → n ≤ m → n * w ≤ length b → items_here skipping (whole_here w) n p m b ≡ Ok (tt, p + n * w, m - n, drop (n * w) b)
  row_passed zero p m b h g =
      let none : p + 0 * w ≡ p = omega arith in
      let left : m - 0 ≡ m = omega arith in
      let all : 0 * w ≡ 0 = omega arith in
      rw (none, left, all) (row_none p m b)
  row_passed (suc n) p zero b h g = absurd (omega arith)
  row_passed (suc n) p (suc m) b h g =
      let more = suc-mul n w in
      let le : w ≤ length b = omega (arith, more) in
      let there : n * w ≤ length (drop w b) = omega (arith, more, length-drop w b) in
      let few : n ≤ m = omega arith in
      let place : (p + w) + n * w ≡ p + suc n * w = omega (arith, more) in
      let left : suc m - suc n ≡ m - n = omega arith in
      let rest : drop (n * w) (drop w b) ≡ drop (suc n * w) b = drop-drop _ _ b ∙ ap (λ k. drop k b) (omega (arith, more)) in
      row_on n p m b le ∙ row_passed n (p + w) m (drop w b) few there ∙ rw (place, left, rest) refl

  -- the node limit is reached first
  pub row_many : (n p m : ℕ) (b : List ℕ) → m < n → m * w ≤ length b → items_here skipping (whole_here w) n p m b ≡ Err (TooManyNodes, p + m * w)
  row_many zero p m b h g = absurd (omega arith)
  row_many (suc n) p zero b h g = let none : p + 0 * w ≡ p = omega arith in rw none (row_stop n p zero b (TooManyNodes, p) (one_many p b))
  row_many (suc n) p (suc m) b h g =
      let more = suc-mul m w in
      let le : w ≤ length b = omega (arith, more) in
      let there : m * w ≤ length (drop w b) = omega (arith, more, length-drop w b) in
      let few : m < n = omega arith in
      let place : (p + w) + m * w ≡ p + suc m * w = omega (arith, more) in
      row_on n p m b le ∙ row_many n (p + w) m (drop w b) few there ∙ rw place refl

  -- the input ends first, after `k` values
  pub row_ended : (k n p m : ℕ) (b : List ℕ) → k < n → k < m → k * w ≤ length b → length b < suc k * w → items_here skipping (whole_here w) n p m b ≡ Err (EndOfInput, p + length b)
  row_ended k zero p m b h g le lt = absurd (omega arith)
  row_ended k (suc n) p zero b h g le lt = absurd (omega arith)
  row_ended zero (suc n) p (suc m) b h g le lt = row_stop n p (suc m) b (EndOfInput, p + length b) (one_short p m b (omega (arith, suc-mul 0 w)))
  row_ended (suc k) (suc n) p (suc m) b h g le lt =
      let more = suc-mul k w in
      let most = suc-mul (suc k) w in
      let fits : w ≤ length b = omega (arith, more) in
      let long = length-drop w b in
      let there : k * w ≤ length (drop w b) = omega (arith, more, long) in
      let ended : length (drop w b) < suc k * w = omega (arith, more, most, long) in
      let place : (p + w) + length (drop w b) ≡ p + length b = omega (arith, long) in
      row_on n p m b fits ∙ row_ended k n (p + w) m (drop w b) (omega arith) (omega arith) there ended ∙ rw place refl

-- ---- how many values fit into the bytes

pub room_low : (len k w : ℕ) → 0 < w → k ≡ len / w → k * w ≤ len
room_low len k w h is = rw is (omega arith)

pub room_high : (len k w : ℕ) → 0 < w → k ≡ len / w → len < suc k * w
room_high len k w h is = rw is (omega (arith, suc-mul (len / w) w))

pub room_for : (len n k w : ℕ) → n ≤ k → (w ≡ 0) ⊎ ((0 < w) × (k ≡ len / w)) → n * w ≤ len
room_for len n k w h (inl none) = let zero_bytes : n * 0 ≡ 0 = omega arith in rw (none, zero_bytes) (omega arith)
room_for len n k w h (inr some) = omega (arith, mul-le-mul_right w h, room_low len k w some.0 some.1)
