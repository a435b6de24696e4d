-- Laws of ULEB128. Only the first two unfold `uleb`.
use Rattle.bcs_num.proofs.Prelude.{◌≡◌, ℕ, zero, suc, ◌+◌, ◌/◌, ◌%◌, ◌<◌, ◌≤◌, List, [], ◌∷◌, ◌++◌, refl, sym, ap, ◌∙◌, arith, inl, inr, cases_lt, le-ltb, lt-ltb, groups, uleb}

groups_low : (k n : ℕ) → n < 128 → groups k n ≡ n ∷ []
groups_low zero n h = refl
groups_low (suc k) n h = rw (lt-ltb n 128 h) refl

groups_more : (k n : ℕ) → 128 ≤ n → groups (suc k) n ≡ (128 + n % 128) ∷ groups k (n / 128)
groups_more k n h = rw (le-ltb n 128 h) refl

-- every sufficient bound gives the same bytes
groups_alike : (k m n : ℕ) → n ≤ k → n ≤ m → groups k n ≡ groups m n
groups_alike zero m n h g = groups_low zero n (omega arith) ∙ sym (groups_low m n (omega arith))
groups_alike (suc k) zero n h g = groups_low (suc k) n (omega arith) ∙ sym (groups_low zero n (omega arith))
groups_alike (suc k) (suc m) n h g = elim (cases_lt n 128) [
  | inl low ↦ groups_low (suc k) n low ∙ sym (groups_low (suc m) n low)
  | inr high ↦ groups_more k n high
      ∙ ap (λ (x : List ℕ). (128 + n % 128) ∷ x) (groups_alike k m (n / 128) (omega arith) (omega arith))
      ∙ sym (groups_more m n high)
]

pub uleb-low : (n : ℕ) → n < 128 → uleb n ≡ n ∷ []
unfolding uleb
uleb-low n h = groups_low n n h

pub uleb-more : (n : ℕ) → 128 ≤ n → uleb n ≡ (128 + n % 128) ∷ uleb (n / 128)
unfolding uleb
uleb-more zero h = absurd (omega arith)
uleb-more (suc n) h = groups_more n (suc n) h
    ∙ ap (λ (x : List ℕ). (128 + suc n % 128) ∷ x) (groups_alike n (suc n / 128) (suc n / 128) (omega arith) (omega arith))

-- induction over groups: prove a law for numbers below 128, and for larger n from the law for n / 128
pub uleb_by_groups : (P : ℕ → Type 0) → ((n : ℕ) → n < 128 → P n) → ((n : ℕ) → 128 ≤ n → P (n / 128) → P n) → (n : ℕ) → P n
uleb_by_groups P one more n = within n n (omega arith)
  where
    within : (k n : ℕ) → n ≤ k → P n
    within zero n h = one n (omega arith)
    within (suc k) n h = elim (cases_lt n 128) [
      | inl low ↦ one n low
      | inr high ↦ more n high (within k (n / 128) (omega arith))
    ]

-- ---- no encoding is a prefix of another

low_head : (m n : ℕ) (r s : List ℕ) → m < 128 → 128 ≤ n → uleb m ++ r ≡ uleb n ++ s → ⊥
low_head m n r s low high e =
    let h : m ∷ r ≡ (128 + n % 128) ∷ (uleb (n / 128) ++ s) = rw (uleb-low m low, uleb-more n high) at e in
    let k : m ≡ 128 + n % 128 = cc in
    omega arith

low_free : (m n : ℕ) (r s : List ℕ) → m < 128 → uleb m ++ r ≡ uleb n ++ s → (m ≡ n) × (r ≡ s)
low_free m n r s low e = elim (cases_lt n 128) [
  | inl low2 ↦
      (let h : m ∷ r ≡ n ∷ s = rw (uleb-low m low, uleb-low n low2) at e in
      let p : m ≡ n = cc in
      let q : r ≡ s = cc in
      (p, q))
  | inr high ↦ absurd (low_head m n r s low high e)
]

pub uleb_prefix_free : (m n : ℕ) (r s : List ℕ) → uleb m ++ r ≡ uleb n ++ s → (m ≡ n) × (r ≡ s)
uleb_prefix_free = uleb_by_groups (λ m. (n : ℕ) (r s : List ℕ) → uleb m ++ r ≡ uleb n ++ s → (m ≡ n) × (r ≡ s))
    low_free_at
    more_free
  where
    low_free_at : (m : ℕ) → m < 128 → (n : ℕ) (r s : List ℕ) → uleb m ++ r ≡ uleb n ++ s → (m ≡ n) × (r ≡ s)
    low_free_at m low n r s e = low_free m n r s low e

    more_free : (m : ℕ) → 128 ≤ m → ((n : ℕ) (r s : List ℕ) → uleb (m / 128) ++ r ≡ uleb n ++ s → (m / 128 ≡ n) × (r ≡ s)) → (n : ℕ) (r s : List ℕ) → uleb m ++ r ≡ uleb n ++ s → (m ≡ n) × (r ≡ s)
    more_free m high free n r s e = elim (cases_lt n 128) [
      | inl low ↦ absurd (low_head n m s r low high (sym e))
      | inr high2 ↦
          (let h : (128 + m % 128) ∷ (uleb (m / 128) ++ r) ≡ (128 + n % 128) ∷ (uleb (n / 128) ++ s) = rw (uleb-more m high, uleb-more n high2) at e in
          let heads : 128 + m % 128 ≡ 128 + n % 128 = cc in
          let tails : uleb (m / 128) ++ r ≡ uleb (n / 128) ++ s = cc in
          let i = free (n / 128) r s tails in
          (omega (arith, i.0, heads), i.1))
    ]
