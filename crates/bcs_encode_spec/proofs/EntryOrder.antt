-- Lists of entries in ascending order of their keys, whatever belongs to the keys.
use Rattle.bcs_encode_spec.proofs.Prelude.{◌≡◌, ℕ, ◌+◌, ◌≤◌, true, cond, List, [], ◌∷◌, refl, sym, ap₂, subst, ◌∙◌, arith, inl, inr, ◌⊎◌, All, sum_by, IsPermutation, bytes_eq, cases_Bool, All-nil, All-cons, All-head, All-tail, All-weaker, All-permutation, sum_by-IsPermutation, sum_by-cons, bytes-same, bytes-refl, Below, Keyed, EntriesRiseFrom, EntriesRise, HasEqualNeighbours}
use Rattle.bcs_encode_spec.proofs.BelowLaws.{Below-irrefl, Below-trans}

module _ {V : Type 0} where
  -- ---- how often a key occurs
  abbrev pub one : List ℕ → Keyed V → ℕ
  one b e = cond (bytes_eq b e.0) 1 0

  -- no key occurs twice
  unfoldable pub Once : List (Keyed V) → Type 0
  Once es = (b : List ℕ) → sum_by (one b) es ≤ 1

  pub one_same : (b c : List ℕ) (v : V) → b ≡ c → one b (c, v) ≡ 1
  one_same b c v e = rw (subst (λ (x : List ℕ). bytes_eq b x ≡ true) e (bytes-refl b)) refl

  one_other : (b c : List ℕ) (v : V) → (b ≡ c → ⊥) → one b (c, v) ≡ 0
  one_other b c v h = elim (cases_Bool (bytes_eq b c)) [ inl is ↦ absurd (h (bytes-same b c is)) | inr isnt ↦ rw isnt refl ]

  none_above : (es : List (Keyed V)) (a b : List ℕ) → EntriesRiseFrom a es → (b ≡ a) ⊎ Below b a → sum_by (one b) es ≡ 0
  none_above [] a b h g = refl
  none_above (e ∷ es) a b h g =
      let lt : Below b e.0 = elim g [ inl is ↦ subst (λ (x : List ℕ). Below x e.0) (sym is) h.0 | inr less ↦ Below-trans b a e.0 less h.0 ] in
      let here : one b e ≡ 0 = one_other b e.0 e.1 (λ is. Below-irrefl e.0 (subst (λ (x : List ℕ). Below x e.0) is lt)) in
      let there : sum_by (one b) es ≡ 0 = none_above es e.0 b h.1 (inr lt) in
      sum_by-cons (one b) e es ∙ rw (here, there) refl

  rest_rises : (es : List (Keyed V)) (a : List ℕ) → EntriesRiseFrom a es → EntriesRise es
  rest_rises [] a h = tt
  rest_rises (e ∷ es) a h = h.1

  pub rising_once : (es : List (Keyed V)) → EntriesRise es → Once es
  unfolding Once
  rising_once [] h b = omega arith
  rising_once (e ∷ es) h b =
      let c : sum_by (one b) (e ∷ es) ≡ one b e + sum_by (one b) es = sum_by-cons (one b) e es in
      elim (cases_Bool (bytes_eq b e.0)) [
        | inl is ↦
            (let k : one b e ≡ 1 = rw is refl in
            let n : sum_by (one b) es ≡ 0 = none_above es e.0 b h (inl (bytes-same b e.0 is)) in
            omega arith)
        | inr isnt ↦
            (let k : one b e ≡ 0 = rw isnt refl in
            let n : sum_by (one b) es ≤ 1 = rising_once es (rest_rises es e.0 h) b in
            omega arith)
      ]

  pub equal_neighbours_twice : (es : List (Keyed V)) → HasEqualNeighbours es → Once es → ⊥
  unfolding Once
  equal_neighbours_twice [] h g = h
  equal_neighbours_twice (e ∷ []) h g = h
  equal_neighbours_twice (e ∷ d ∷ es) (inl is) g =
      let c : sum_by (one e.0) (e ∷ d ∷ es) ≡ one e.0 e + sum_by (one e.0) (d ∷ es) = sum_by-cons (one e.0) e (d ∷ es) in
      let f : sum_by (one e.0) (d ∷ es) ≡ one e.0 d + sum_by (one e.0) es = sum_by-cons (one e.0) d es in
      let p : one e.0 e ≡ 1 = one_same e.0 e.0 e.1 refl in
      let q : one e.0 d ≡ 1 = one_same e.0 d.0 d.1 is in
      let k : sum_by (one e.0) (e ∷ d ∷ es) ≤ 1 = g e.0 in
      omega arith
  equal_neighbours_twice (e ∷ d ∷ es) (inr more) g = equal_neighbours_twice (d ∷ es) more
      (λ b. let c : sum_by (one b) (e ∷ d ∷ es) ≡ one b e + sum_by (one b) (d ∷ es) = sum_by-cons (one b) e (d ∷ es) in
      let k : sum_by (one b) (e ∷ d ∷ es) ≤ 1 = g b in
      omega arith)

  pub once_moved : (xs ys : List (Keyed V)) → IsPermutation xs ys → Once ys → Once xs
  unfolding Once
  once_moved xs ys h g = λ b. let k : sum_by (one b) ys ≤ 1 = g b in let e : sum_by (one b) ys ≡ sum_by (one b) xs = sum_by-IsPermutation (one b) xs ys h in omega arith

  -- ---- ascending lists with the same entries are equal

  abbrev pub In : Keyed V → List (Keyed V) → Type 0
  In e [] = ⊥
  In e (d ∷ es) = (e ≡ d) ⊎ In e es

  all_in : (es : List (Keyed V)) → All (λ e. In e es) es
  all_in [] = All-nil (λ e. In e [])
  all_in (e ∷ es) = All-cons (λ d. In d (e ∷ es)) e es (inl refl) (All-weaker (λ d. In d es) (λ d. In d (e ∷ es)) (λ d h. inr h) es (all_in es))

  in_all : (xs ys : List (Keyed V)) → All (λ e. In e ys) xs → (e : Keyed V) → In e xs → In e ys
  in_all [] ys h e m = absurd m
  in_all (x ∷ xs) ys h e (inl is) = subst (λ (d : Keyed V). In d ys) (sym is) (All-head (λ d. In d ys) x xs h)
  in_all (x ∷ xs) ys h e (inr m) = in_all xs ys (All-tail (λ d. In d ys) x xs h) e m

  pub moved : (xs ys : List (Keyed V)) → IsPermutation xs ys → (e : Keyed V) → In e ys → In e xs
  moved xs ys h e m = in_all ys xs (All-permutation (λ d. In d xs) xs ys h (all_in xs)) e m

  above : (es : List (Keyed V)) (b : List ℕ) → EntriesRiseFrom b es → (e : Keyed V) → In e es → Below b e.0
  above [] b h e m = absurd m
  above (d ∷ es) b h e (inl is) = subst (λ (x : Keyed V). Below b x.0) (sym is) h.0
  above (d ∷ es) b h e (inr m) = Below-trans b d.0 e.0 h.0 (above es d.0 h.1 e m)

  pub rising_alike : (xs ys : List (Keyed V)) → EntriesRise xs → EntriesRise ys → ((e : Keyed V) → In e xs → In e ys) → ((e : Keyed V) → In e ys → In e xs) → xs ≡ ys
  rising_alike [] [] h g to back = refl
  rising_alike [] (y ∷ ys) h g to back = absurd (back y (inl refl))
  rising_alike (x ∷ xs) [] h g to back = absurd (to x (inl refl))
  rising_alike (x ∷ xs) (y ∷ ys) h g to back =
      elim (to x (inl refl)) [
        | inl e ↦
            (let i = rising_alike xs ys (rest_rises xs x.0 h) (rest_rises ys y.0 g)
            (λ d m. elim (to d (inr m)) [ inl is ↦ absurd (Below-irrefl x.0 (subst (λ (z : Keyed V). Below x.0 z.0) (is ∙ sym e) (above xs x.0 h d m))) | inr k ↦ k ])
            (λ d m. elim (back d (inr m)) [ inl is ↦ absurd (Below-irrefl y.0 (subst (λ (z : Keyed V). Below y.0 z.0) (is ∙ e) (above ys y.0 g d m))) | inr k ↦ k ]) in
            ap₂ (λ (z : Keyed V) (zs : List (Keyed V)). z ∷ zs) e i)
        | inr a ↦ elim (back y (inl refl)) [
          | inl e ↦ absurd (Below-irrefl y.0 (subst (λ (z : Keyed V). Below y.0 z.0) (sym e) (above ys y.0 g x a)))
          | inr b ↦ absurd (Below-irrefl x.0 (Below-trans x.0 y.0 x.0 (above xs x.0 h y b) (above ys y.0 g x a)))
        ]
      ]
