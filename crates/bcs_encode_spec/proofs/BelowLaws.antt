-- `Below` is a strict total order, and agrees with std's comparison of byte slices.
use Rattle.bcs_encode_spec.proofs.Prelude.{◌≡◌, ℕ, ◌<◌, true, false, List, [], ◌∷◌, refl, sym, ap, ap₂, ◌∙◌, arith, inl, inr, ◌⊎◌, ◌↔◌, IsTrue, nat_cmp, is_lt, Ordering, Less, Equal, Greater, slice_cmp, false≢true, cases_order, lt-ltb, le-ltb, eq-eqb, nat_tests, Below}

pub Below-irrefl : (a : List ℕ) → Below a a → ⊥
Below-irrefl [] h = h
Below-irrefl (x ∷ a) (inl lt) = omega arith
Below-irrefl (x ∷ a) (inr e) = Below-irrefl a e.1

pub Below-trans : (a b c : List ℕ) → Below a b → Below b c → Below a c
Below-trans [] [] c h g = absurd h
Below-trans [] (y ∷ b) [] h g = absurd g
Below-trans [] (y ∷ b) (z ∷ c) h g = tt
Below-trans (x ∷ a) [] c h g = absurd h
Below-trans (x ∷ a) (y ∷ b) [] h g = absurd g
Below-trans (x ∷ a) (y ∷ b) (z ∷ c) (inl lt) (inl gt) = inl (omega arith)
Below-trans (x ∷ a) (y ∷ b) (z ∷ c) (inl lt) (inr e) = inl (let p : y ≡ z = e.0 in omega arith)
Below-trans (x ∷ a) (y ∷ b) (z ∷ c) (inr d) (inl gt) = inl (let p : x ≡ y = d.0 in omega arith)
Below-trans (x ∷ a) (y ∷ b) (z ∷ c) (inr d) (inr e) = inr (d.0 ∙ e.0, Below-trans a b c d.1 e.1)

-- two lists are equal, or one is below the other
pub order : (a b : List ℕ) → (a ≡ b) ⊎ (Below a b ⊎ Below b a)
order [] [] = inl refl
order [] (y ∷ b) = inr (inl tt)
order (x ∷ a) [] = inr (inr tt)
order (x ∷ a) (y ∷ b) =
    elim (cases_order x y) [
      | inl e ↦ elim (order a b) [
        | inl d ↦ inl (ap₂ (λ (z : ℕ) (zs : List ℕ). z ∷ zs) e d)
        | inr (inl lt) ↦ inr (inl (inr (e, lt)))
        | inr (inr gt) ↦ inr (inr (inr (sym e, gt)))
      ]
      | inr (inl lt) ↦ inr (inl (inl lt))
      | inr (inr gt) ↦ inr (inr (inl gt))
    ]

-- ---- std's comparison

cmp_less : (x y : ℕ) → x < y → nat_cmp x y ≡ Less
cmp_less x y h = rw (lt-ltb x y h) refl

cmp_same : (x y : ℕ) → x ≡ y → nat_cmp x y ≡ Equal
cmp_same x y h = rw (le-ltb x y (omega arith), eq-eqb x y h) refl

cmp_more : (x y : ℕ) → y < x → nat_cmp x y ≡ Greater
cmp_more x y h = grind (arith, nat_tests)

pub same_equal : (a : List ℕ) → slice_cmp nat_cmp a a ≡ Equal
same_equal [] = refl
same_equal (x ∷ a) = rw (cmp_same x x refl) (same_equal a)

pub below_less : (a b : List ℕ) → Below a b → slice_cmp nat_cmp a b ≡ Less
below_less [] [] h = elim h [ ]
below_less [] (y ∷ b) h = refl
below_less (x ∷ a) [] h = elim h [ ]
below_less (x ∷ a) (y ∷ b) (inl lt) = rw (cmp_less x y lt) refl
below_less (x ∷ a) (y ∷ b) (inr e) = rw (cmp_same x y e.0) (below_less a b e.1)

pub below_greater : (a b : List ℕ) → Below b a → slice_cmp nat_cmp a b ≡ Greater
below_greater [] [] h = elim h [ ]
below_greater [] (y ∷ b) h = elim h [ ]
below_greater (x ∷ a) [] h = refl
below_greater (x ∷ a) (y ∷ b) (inl gt) = rw (cmp_more x y gt) refl
below_greater (x ∷ a) (y ∷ b) (inr e) = rw (cmp_same x y (sym e.0)) (below_greater a b e.1)

pub less_below : (a b : List ℕ) → slice_cmp nat_cmp a b ≡ Less → Below a b
less_below [] [] h = absurd cc
less_below [] (y ∷ b) h = tt
less_below (x ∷ a) [] h = absurd cc
less_below (x ∷ a) (y ∷ b) h =
    elim (cases_order x y) [
      | inl e ↦ inr (e, less_below a b (rw (cmp_same x y e) at h))
      | inr (inl lt) ↦ inl lt
      | inr (inr gt) ↦ (let g = rw (cmp_more x y gt) at h in absurd cc)
    ]

is_less : (o : Ordering) → is_lt o ≡ true → o ≡ Less
is_less Less e = refl
is_less Equal e = absurd cc
is_less Greater e = absurd cc

-- `a.cmp(b).is_lt()`
pub Below-is_lt : (a b : List ℕ) → IsTrue (is_lt (slice_cmp nat_cmp a b)) ↔ Below a b
Below-is_lt a b = (λ h. less_below a b (is_less (slice_cmp nat_cmp a b) h), λ h. ap is_lt (below_less a b h))

pub not_below : (a b : List ℕ) → is_lt (slice_cmp nat_cmp a b) ≡ false → Below a b → ⊥
not_below a b h lt = let k : is_lt (slice_cmp nat_cmp a b) ≡ true = ap is_lt (below_less a b lt) in absurd (false≢true (sym h ∙ k))
