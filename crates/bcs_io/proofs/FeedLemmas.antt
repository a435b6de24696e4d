-- Counting line feeds.
use Rattle.bcs_io.proofs.Prelude.{◌≡◌, inl, inr, ℕ, zero, suc, ◌+◌, ◌-◌, ◌≤◌, ◌==◌, ◌∙◌, if◌then◌else◌, Bool, true, false, List, [], ◌∷◌, ◌++◌, length, take, refl, ap, arith, length-append, take-append-add, cases_lt, take-append-le, HasNoLineFeed, before_block, block_size, line_feeds}
use Rattle.bcs_io.proofs.LineLemmas.{no_feed_first, no_feed_rest}

pub feeds_none : (xs : List ℕ) → HasNoLineFeed xs → line_feeds xs ≡ 0
feeds_none [] plain = refl
feeds_none (x ∷ xs) plain = ap (λ b. if b then suc (line_feeds xs) else line_feeds xs) (no_feed_first x xs plain) ∙ feeds_none xs (no_feed_rest x xs plain)

more_append : (b : Bool) (n m k : ℕ) → n ≡ m + k → (if b then suc n else n) ≡ (if b then suc m else m) + k
more_append true n m k is = omega (arith, is)
more_append false n m k is = is

pub feeds_append : (xs ys : List ℕ) → line_feeds (xs ++ ys) ≡ line_feeds xs + line_feeds ys
feeds_append [] ys = omega arith
feeds_append (x ∷ xs) ys = more_append (x == 10) (line_feeds (xs ++ ys)) (line_feeds xs) (line_feeds ys) (feeds_append xs ys)

more_within : (b : Bool) (n m : ℕ) → n ≤ m → (if b then suc n else n) ≤ (if b then suc m else m)
more_within true n m within = omega (arith, within)
more_within false n m within = within

feeds_take : (n : ℕ) (xs : List ℕ) → line_feeds (take n xs) ≤ line_feeds xs
feeds_take zero xs = omega arith
feeds_take (suc n) [] = omega arith
feeds_take (suc n) (x ∷ xs) = more_within (x == 10) (line_feeds (take n xs)) (line_feeds xs) (feeds_take n xs)

-- the bytes before the last block, if the rest has no line feed there
pub feeds_before_block : (front rest : List ℕ) → HasNoLineFeed (before_block rest) → line_feeds (before_block (front ++ rest)) ≤ line_feeds front
feeds_before_block front rest plain =
    let n = length (front ++ rest) - block_size in
    let m = length rest - block_size in
    elim (cases_lt (length front) n) [
      | inr low ↦ omega (arith, ap line_feeds (take-append-le n front rest low), feeds_take n front)
      | inl high ↦
          let same : n ≡ length front + m = omega (arith, high, length-append front rest) in
          let parts : take n (front ++ rest) ≡ front ++ take m rest = ap (λ (k : ℕ). take k (front ++ rest)) same ∙ take-append-add front rest m in
          omega (arith, ap line_feeds parts, feeds_append front (take m rest), feeds_none (take m rest) plain)
    ]
