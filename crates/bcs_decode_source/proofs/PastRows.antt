-- Skipping lists of integers in blocks.
use Rattle.bcs_decode_source.proofs.Prelude.{◌≡◌, ℕ, zero, suc, ◌+◌, ◌-◌, ◌*◌, ◌<◌, ◌≤◌, List, length, drop, length-drop, Ok, Err, inl, inr, refl, ap, ◌∙◌, arith, suc-mul, le-ltb, lt-ltb, cases_lt, drop-drop, TooManyNodes, Parser, follow, chain, give, node, bytes_here, items_here, skipping, whole_here, bare}

abbrev row : ℕ → ℕ → Parser (Unit {0})
row w n = items_here skipping (whole_here w) n

-- the bytes of the first `k` values, and then the others
abbrev pub begun : ℕ → ℕ → ℕ → Parser (Unit {0})
begun w k n = chain (bytes_here (k * w)) (λ _. row w (n - k))

one_read : (w p m : ℕ) (b : List ℕ) → whole_here w p (suc m) b ≡ follow (bytes_here w p m b) (λ _. give tt)
unfolding whole_here chain node give
one_read w p m b = refl

none_read : (w n p m : ℕ) (b : List ℕ) → row w n p m b ≡ begun w 0 n p (m - 0) b
unfolding bytes_here chain
none_read w n p m b =
    let no : 0 * w ≡ 0 = omega arith in
    let left : m - 0 ≡ m = omega arith in
    let all : n - 0 ≡ n = omega arith in
    let place : p + 0 ≡ p = omega arith in
    rw (no, left, le-ltb (length b) 0 (omega arith), place, all) refl

more_read : (w j n p m : ℕ) (b : List ℕ) → ((q l : ℕ) (c : List ℕ) → j ≤ l → row w n q l c ≡ begun w j n q (l - j) c) → j ≤ m
    → row w (suc n) p (suc m) b ≡ begun w (suc j) (suc n) p (suc m - suc j) b
unfolding items_here chain bytes_here give
more_read w j n p m b others le =
    let more = suc-mul j w in
    let left : suc m - suc j ≡ m - j = omega arith in
    let rest : suc n - suc j ≡ n - j = omega arith in
    rw (one_read w p m b, left) (elim (cases_lt (length b) w) [
      | inl short ↦ rw (lt-ltb (length b) w short, lt-ltb (length b) (suc j * w) (omega (arith, more))) refl
      | inr long ↦
          let have = length-drop w b in
          rw (le-ltb (length b) w long, others (p + w) m (drop w b) le) (elim (cases_lt (length b) (suc j * w)) [
            | inl few ↦
                let place : p + w + length (drop w b) ≡ p + length b = omega arith in
                rw (lt-ltb (length b) (suc j * w) few, lt-ltb (length (drop w b)) (j * w) (omega (arith, more)), place) refl
            | inr all ↦
                let place : p + w + j * w ≡ p + suc j * w = omega (arith, more) in
                let same : suc j * w ≡ w + j * w = omega (arith, more) in
                let behind : drop (j * w) (drop w b) ≡ drop (suc j * w) b = drop-drop (j * w) w b ∙ ap (λ i. drop i b) (omega (arith, more)) in
                rw (le-ltb (length b) (suc j * w) all, le-ltb (length (drop w b)) (j * w) (omega (arith, more)), place, behind, rest)
                (bare (row w (n - j) (p + suc j * w) (m - j) (drop (suc j * w) b)))
          ])
    ])

pub row_begun : (w k n p m : ℕ) (b : List ℕ) → k ≤ n → k ≤ m → row w n p m b ≡ begun w k n p (m - k) b
row_begun w zero n p m b h g = none_read w n p m b
row_begun w (suc k) zero p m b h g = absurd (omega arith)
row_begun w (suc k) (suc n) p zero b h g = absurd (omega arith)
row_begun w (suc k) (suc n) p (suc m) b h g = more_read w k n p m b (λ q l c le. row_begun w k n q l c (omega arith) le) (omega arith)

pub row_end : (w n p m : ℕ) (b : List ℕ) → n ≡ 0 → row w n p m b ≡ Ok (tt, p, m, b)
unfolding items_here give
row_end w n p m b none = rw none refl

-- the node limit is reached
pub row_none : (w n p m : ℕ) (b : List ℕ) → 0 < n → m ≡ 0 → row w n p m b ≡ Err (TooManyNodes, p)
unfolding items_here chain whole_here node
row_none w zero p m b some none = absurd (omega arith)
row_none w (suc n) p m b some none = rw none refl
