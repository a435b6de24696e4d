-- Parsers that consume a fixed number of bytes and nodes, followed by other parsers.
use Rattle.bcs_decode_slice.proofs.Prelude.{◌≡◌, ℕ, zero, suc, ◌+◌, ◌-◌, ◌*◌, ◌≤◌, List, length, drop, refl, ◌∙◌, arith, suc-mul, length-drop, drop-drop, Parser, chain, give, node, items_here, skipping, node_here, GoesPast}
use Rattle.bcs_decode_spec.proofs.ScalarSteps.{bare}

-- if at least `i` bytes and `k` nodes are left, `f` consumes exactly these, and continues as `g`
abbrev pub Reaches : Parser (Unit {0}) → Parser (Unit {0}) → ℕ → ℕ → Type 0
Reaches f g i k = (p m : ℕ) (b : List ℕ) → i ≤ length b → k ≤ m → f p m b ≡ g (p + i) (m - k) (drop i b)

pub reaches_here : (f : Parser (Unit {0})) → Reaches f f 0 0
reaches_here f p m b there left =
    let place : p + 0 ≡ p = omega arith in
    let nodes : m - 0 ≡ m = omega arith in
    rw (place, nodes) refl

pub reaches_on : (f g h : Parser (Unit {0})) (i j k l : ℕ) → Reaches f g i k → Reaches g h j l → Reaches f h (i + j) (k + l)
reaches_on f g h i j k l first next p m b there left =
    let more : j ≤ length (drop i b) = omega (arith, length-drop i b) in
    let place : (p + i) + j ≡ p + (i + j) = omega arith in
    let nodes : (m - k) - l ≡ m - (k + l) = omega arith in
    let rest : drop j (drop i b) ≡ drop (i + j) b = drop-drop j i b in
    first p m b (omega arith) (omega arith) ∙ next (p + i) (m - k) (drop i b) more (omega arith) ∙ rw (place, nodes, rest) refl

pub reaches_as : (f g : Parser (Unit {0})) (i j k l : ℕ) → j ≡ i → l ≡ k → Reaches f g i k → Reaches f g j l
reaches_as f g i j k l bytes nodes h = rw (bytes, nodes) h

pub goes_as : (f : Parser (Unit {0})) (i j k l : ℕ) → j ≡ i → l ≡ k → GoesPast f i k → GoesPast f j l
goes_as f i j k l bytes nodes h = rw (bytes, nodes) h

pub reaches_end : (f : Parser (Unit {0})) (i k : ℕ) → Reaches f (give tt) i k → GoesPast f i k
unfolding give
reaches_end f i k h = h

pub node_goes : GoesPast node_here 0 1
unfolding node give
node_goes p zero b there left = absurd (omega arith)
node_goes p (suc m) b there left =
    let place : p + 0 ≡ p = omega arith in
    let nodes : suc m - 1 ≡ m = omega arith in
    rw (place, nodes) refl

-- ---- sequences of values

module _ (f : Parser (Unit {0})) (i k : ℕ) (goes : GoesPast f i k) where
  item_reaches : (n : ℕ) → Reaches (items_here skipping f (suc n)) (items_here skipping f n) i k
  unfolding items_here chain
  item_reaches n p m b there left = rw (goes p m b there left) (bare (items_here skipping f n (p + i) (m - k) (drop i b)))

  pub items_reach : (n all : ℕ) → n ≤ all → Reaches (items_here skipping f all) (items_here skipping f (all - n)) (n * i) (n * k)
  items_reach zero all le =
      let bytes : 0 * i ≡ 0 = omega arith in
      let nodes : 0 * k ≡ 0 = omega arith in
      let left : all - 0 ≡ all = omega arith in
      rw (bytes, nodes, left) (reaches_here (items_here skipping f all))
  items_reach (suc n) zero le = absurd (omega arith)
  items_reach (suc n) (suc all) le =
      let bytes : suc n * i ≡ i + n * i = omega (arith, suc-mul n i) in
      let nodes : suc n * k ≡ k + n * k = omega (arith, suc-mul n k) in
      let left : suc all - suc n ≡ all - n = omega arith in
      rw (bytes, nodes, left) (reaches_on (items_here skipping f (suc all)) (items_here skipping f all) (items_here skipping f (all - n)) i (n * i) k (n * k) (item_reaches all) (items_reach n all (omega arith)))
