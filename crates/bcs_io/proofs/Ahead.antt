-- At most one block is read ahead.
use Rattle.bcs_io.proofs.Prelude.{◌≡◌, inl, inr, ℕ, zero, suc, ◌+◌, ◌-◌, ◌<◌, ◌≤◌, ◌∙◌, List, [], ◌∷◌, ◌++◌, length, take, drop, refl, sym, ap, subst, arith, length-append, length-drop, length-take-le, true≢false, take-append_seam, cases_lt, take-append-le, IsFirstLineFeed, HasNoLineFeed, before_block, block_size}
use Rattle.bcs_io.proofs.LineLemmas.{no_feed_first, no_feed_rest}
use Rattle.bcs_io.proofs.Searching.{plain-take}

-- a block is appended to bytes without a line feed
pub block_behind : (xs ys : List ℕ) → HasNoLineFeed xs → length ys ≤ block_size → HasNoLineFeed (before_block (xs ++ ys))
block_behind xs ys plain within =
    let n = length (xs ++ ys) - block_size in
    let short : n ≤ length xs = omega (arith, within, length-append xs ys) in
    subst HasNoLineFeed (sym (take-append-le n xs ys short)) (plain-take n xs plain)

-- less than a block has nothing before its last block
pub short_ahead : (xs : List ℕ) → length xs < block_size → HasNoLineFeed (before_block xs)
short_ahead xs short =
    let none : length xs - block_size ≡ 0 = omega (arith, short) in
    subst (λ (n : ℕ). HasNoLineFeed (take n xs)) (sym none) refl

-- the bytes already searched contain no line feed
pub searched_front : (xs ys all : List ℕ) (n : ℕ) → all ≡ xs ++ ys → n ≡ length xs → HasNoLineFeed xs → (n ≤ length all) × HasNoLineFeed (take n all)
searched_front xs ys all n parts many plain = (
  omega (arith, many, ap (λ (l : List ℕ). length l) parts, length-append xs ys),
  subst HasNoLineFeed (sym (ap (λ (k : ℕ). take k all) many ∙ ap (take (length xs)) parts ∙ take-append_seam xs ys)) plain,
)

feed_inside : (n : ℕ) (xs ys : List ℕ) → length xs < n → HasNoLineFeed (take n (xs ++ 10 ∷ ys)) → ⊥
feed_inside zero xs ys within plain = absurd (omega (arith, within))
feed_inside (suc n) [] ys within plain = true≢false (no_feed_first 10 (take n ys) plain)
feed_inside (suc n) (x ∷ xs) ys within plain = feed_inside n xs ys (omega (arith, within)) (no_feed_rest x (take n (xs ++ 10 ∷ ys)) plain)

-- less than a block remains after the first line feed
pub rest_behind : (rest : List ℕ) (count : ℕ) → IsFirstLineFeed rest count → HasNoLineFeed (before_block rest) → length (drop (count + 1) rest) < block_size
rest_behind rest count first plain =
    elim (cases_lt count (length rest - block_size)) [
      | inr low ↦ omega (arith, low, length-drop (count + 1) rest)
      | inl high ↦
          let front = take count rest in
          let long : length front ≡ count = length-take-le count rest (omega (arith, first.inside)) in
          let n = length rest - block_size in
          absurd (feed_inside n front (drop (count + 1) rest) (omega (arith, high, long)) (subst (λ (l : List ℕ). HasNoLineFeed (take n l)) first.parts plain))
    ]
