-- Keys, compared as the bytes that were read.
use Rattle.bcs_decode_spec.proofs.Prelude.{◌≡◌, ℕ, ◌+◌, ◌-◌, List, [], ◌++◌, length, take, Option, Some, None, Ok, Err, refl, sym, ap, ap₂, subst, ◌∙◌, arith, inl, inr, ◌⊎◌, nat_cmp, match_ordering, Ordering, Less, Equal, Greater, slice_cmp, append-nil, take_at, Shape, Entries, of, Tree, nodes, plain, Below, same_equal, below_less, below_greater, less_below, order, Reason, KeyOrder, KeyRepeated, Read, Parser, chain, give, fail, key_after, key_here, Stopping, Follows, Misplaced, AreBytes, Reads, Exact}
use Rattle.bcs_decode_spec.proofs.Combine.{exact_give, exact_fail, exact_from, exact_chain, exact_same, GiveReads, NoStop, ThenReads, ThenStop}
use Rattle.bcs_decode_spec.proofs.Items.{Says}

-- ---- the order of keys

greater_below : (a b : List ℕ) → slice_cmp nat_cmp a b ≡ Greater → Below b a
greater_below a b h = elim (order a b) [
  | inl same ↦ absurd (let k = ap (λ (x : List ℕ). slice_cmp nat_cmp x b) same ∙ same_equal b in cc)
  | inr (inl lt) ↦ absurd (let k = below_less a b lt in cc)
  | inr (inr gt) ↦ gt
]

is_unit : (u : Unit {0}) → u ≡ tt
is_unit tt = refl

module _ (registry : Entries) where
  abbrev AfterReads : Option (List ℕ) → List ℕ → Reads (Unit {0})
  AfterReads last key u w s = Follows last key × (w ≡ 0) × (s ≡ [])

  abbrev AfterStop : Option (List ℕ) → List ℕ → ℕ → Stopping
  AfterStop last key n p m b e o = Misplaced last key e × (o ≡ n)

  exact_after : (last : Option (List ℕ)) (key : List ℕ) (n : ℕ) → Exact (AfterReads last key) (AfterStop last key n) (key_after last key n)
  unfolding key_after
  exact_after None key n =
      exact_same (exact_give tt) (λ u w s g. (tt, g.1, g.2)) (λ u w s g. (is_unit u, g.1, g.2)) (λ p m b e o s. absurd s) (λ p m b e o s. absurd (s.0))
  exact_after (Some last) key n = at (slice_cmp nat_cmp last key) refl
    where
      less_not : (r : Ordering) → slice_cmp nat_cmp last key ≡ r → Below last key → r ≡ Less
      less_not r h k = sym h ∙ below_less last key k

      equal_not : (r : Ordering) → slice_cmp nat_cmp last key ≡ r → last ≡ key → r ≡ Equal
      equal_not r h k = sym h ∙ ap (λ (z : List ℕ). slice_cmp nat_cmp z key) k ∙ same_equal key

      greater_not : (r : Ordering) → slice_cmp nat_cmp last key ≡ r → Below key last → r ≡ Greater
      greater_not r h k = sym h ∙ below_greater last key k

      at : (r : Ordering) → slice_cmp nat_cmp last key ≡ r
          → Exact (AfterReads (Some last) key) (AfterStop (Some last) key n) (match_ordering r (give tt) (fail KeyRepeated n) (fail KeyOrder n))
      at Less h =
          exact_same (exact_give tt) (λ u w s g. (less_below last key h, g.1, g.2)) (λ u w s g. (is_unit u, g.1, g.2)) (λ p m b e o s. absurd s)
          (λ p m b e o s. elim (s.0) [ inl k ↦ absurd (let z = equal_not Less h k.0 in cc) | inr k ↦ absurd (let z = greater_not Less h k.0 in cc) ])
      at Equal h =
          exact_same (exact_fail KeyRepeated n) (λ u w s g. absurd g) (λ u w s g. absurd (let z = less_not Equal h g.0 in cc)) (λ p m b e o s. (inl (same, s.0), s.1))
          (λ p m b e o s. elim (s.0) [ inl k ↦ (k.1, s.1) | inr k ↦ absurd (let z = greater_not Equal h k.0 in cc) ])
        where
          same : last ≡ key
          same = elim (order last key) [ inl k ↦ k | inr (inl k) ↦ absurd (let z = less_not Equal h k in cc) | inr (inr k) ↦ absurd (let z = greater_not Equal h k in cc) ]
      at Greater h =
          exact_same (exact_fail KeyOrder n) (λ u w s g. absurd g) (λ u w s g. absurd (let z = less_not Greater h g.0 in cc)) (λ p m b e o s. (inr (greater_below last key h, s.0), s.1))
          (λ p m b e o s. elim (s.0) [ inl k ↦ absurd (let z = equal_not Greater h k.0 in cc) | inr k ↦ (k.1, s.1) ])

-- ---- a key

module _ (registry : Entries) (f : Shape) (Good : Tree → Type 0) (S : Stopping) (parser : Parser Tree) (ex : Exact (Says registry (of f) Good) S parser) where
  abbrev bytes_of : Tree → List ℕ
  bytes_of t = plain registry t (of f)

  abbrev pub KeyReads : Option (List ℕ) → Reads (Tree × List ℕ)
  KeyReads last a w s = (Good a.0 × Follows last (bytes_of a.0)) × (a.1 ≡ bytes_of a.0) × (w ≡ nodes a.0) × (s ≡ bytes_of a.0)

  abbrev pub KeyStop : Option (List ℕ) → Stopping
  KeyStop last p m b e o =
      S p m b e o
      ⊎ ((a : Tree) × (c : List ℕ) × (l : ℕ) × Good a × (b ≡ bytes_of a ++ c) × (m ≡ nodes a + l) × Misplaced last (bytes_of a) e × (o ≡ p))

  abbrev Here : Reads Tree
  Here = Says registry (of f) Good

  -- the same, with the bytes recomputed from the key
  placed : Option (List ℕ) → ℕ → Tree → Parser (Tree × List ℕ)
  placed last p a = chain (key_after last (bytes_of a) p) (λ _. give {A = Tree × List ℕ} (a, bytes_of a))

  made : Option (List ℕ) → Parser (Tree × List ℕ)
  made last p = chain parser (placed last p) p

  PlacedReads : Option (List ℕ) → Tree → Reads (Tree × List ℕ)
  PlacedReads last a = ThenReads (AfterReads registry last (bytes_of a)) (λ _. GiveReads {A = Tree × List ℕ} (a, bytes_of a))

  PlacedStop : Option (List ℕ) → ℕ → Tree → Stopping
  PlacedStop last n a = ThenStop (AfterReads registry last (bytes_of a)) (AfterStop registry last (bytes_of a) n) (λ _ _. NoStop)

  key_to : (last : Option (List ℕ)) (a : Tree × List ℕ) (w : ℕ) (s : List ℕ) → ThenReads Here (PlacedReads last) a w s → KeyReads last a w s
  unfolding PlacedReads
  key_to last y w s (a, v, u, r, z, h, (i, v2, u2, r2, z2, h2, i2, e2, d2), e, d) =
      subst (λ (x : Tree × List ℕ). KeyReads last x w s) (sym i2.0)
      ((h.0, h2.0), refl, omega (arith, e, e2, i2.1, h.1, h2.1), d ∙ ap₂ (λ (x y : List ℕ). x ++ y) h.2 (d2 ∙ ap₂ (λ (x y : List ℕ). x ++ y) h2.2 i2.2) ∙ append-nil (bytes_of a))

  key_from : (last : Option (List ℕ)) (a : Tree × List ℕ) (w : ℕ) (s : List ℕ) → KeyReads last a w s → ThenReads Here (PlacedReads last) a w s
  unfolding PlacedReads
  key_from last a w s h =
      let same : a ≡ (a.0, bytes_of a.0) = ap (λ (x : List ℕ). (a.0, x)) h.1 in
      (a.0, nodes a.0, 0, bytes_of a.0, [], (h.0.0, refl, refl), (tt, 0, 0, [], [], (h.0.1, refl, refl), (same, refl, refl), refl, refl), omega (arith, h.2), h.3 ∙ sym (append-nil (bytes_of a.0)))

  key_on : (last : Option (List ℕ)) (p m : ℕ) (b : List ℕ) (e : Reason) (o : ℕ) → ThenStop Here S (PlacedStop last) p m b e o → KeyStop last p m b e o
  unfolding PlacedStop
  key_on last p m b e o (inl s) = inl s
  key_on last p m b e o (inr (a, v, r, c, l, h, d, k, inl s)) =
      inr (a, c, l, h.0, d ∙ ap (λ (x : List ℕ). x ++ c) h.2, omega (arith, k, h.1), s.0, s.1)
  key_on last p m b e o (inr (a, v, r, c, l, h, d, k, inr (i, v2, r2, c2, l2, h2, d2, k2, s))) = absurd s

  key_back : (last : Option (List ℕ)) (p m : ℕ) (b : List ℕ) (e : Reason) (o : ℕ) → KeyStop last p m b e o
      → ThenStop Here S (PlacedStop last) p m b e o
  unfolding PlacedStop
  key_back last p m b e o (inl s) = inl s
  key_back last p m b e o (inr (a, c, l, h, d, k, i, j)) = inr (a, nodes a, bytes_of a, c, l, (h, refl, refl), d, k, inl (i, j))

  exact_made : (last : Option (List ℕ)) → Exact (KeyReads last) (KeyStop last) (made last)
  unfolding made placed PlacedReads PlacedStop
  exact_made last =
      exact_same (exact_from {Q = PlacedReads last} {T = PlacedStop last} {k = placed last} ex (λ p a v r h. exact_chain (exact_after registry last (bytes_of a) p) (λ _ u z i. exact_give (a, bytes_of a))))
      (key_to last) (key_from last) (key_on last) (key_back last)

  -- both agree if the bytes that were read are those of the key
  same_ok : (last : Option (List ℕ)) (p m : ℕ) (b : List ℕ) (x : Tree × ℕ × ℕ × List ℕ) → parser p m b ≡ Ok x → take (x.1 - p) b ≡ bytes_of x.0
      → key_here parser last p m b ≡ made last p m b
  unfolding key_here made placed chain
  same_ok last p m b x h k = rw (h, k) refl

  same_err : (last : Option (List ℕ)) (p m : ℕ) (b : List ℕ) (e : Reason × ℕ) → parser p m b ≡ Err e → key_here parser last p m b ≡ made last p m b
  unfolding key_here made placed chain
  same_err last p m b e h = rw h refl

  gone_past : (p q : ℕ) (b s c : List ℕ) (t : Tree) → b ≡ s ++ c → q ≡ p + length s → s ≡ bytes_of t → take (q - p) b ≡ bytes_of t
  gone_past p q b s c t d i e = let n : length s ≡ q - p = omega (arith, i) in ap (take (q - p)) d ∙ take_at s c (q - p) n ∙ e

  of_bytes : (last : Option (List ℕ)) (p m : ℕ) (b : List ℕ) → AreBytes b → key_here parser last p m b ≡ made last p m b
  of_bytes last p m b k = at (parser p m b) refl
    where
      at : (r : Read Tree) → parser p m b ≡ r → key_here parser last p m b ≡ made last p m b
      at (Ok x) h = let t = ex.ok p m b x.0 x.1 x.2 x.3 k h in same_ok last p m b x h (gone_past p x.1 b t.1 x.3 x.0 t.3 t.4 t.2.2)
      at (Err e) h = same_err last p m b e h

  of_key : (last : Option (List ℕ)) (p m : ℕ) (t : Tree) (c : List ℕ) → Good t
      → key_here parser last p (nodes t + m) (bytes_of t ++ c) ≡ made last p (nodes t + m) (bytes_of t ++ c)
  of_key last p m t c h =
      same_ok last p (nodes t + m) (bytes_of t ++ c) (t, p + length (bytes_of t), m, c) (ex.again p m t (nodes t) (bytes_of t) c (h, refl, refl))
      (gone_past p (p + length (bytes_of t)) (bytes_of t ++ c) (bytes_of t) c t refl refl refl)

  pub exact_key : (last : Option (List ℕ)) → Exact (KeyReads last) (KeyStop last) (key_here parser last)
  exact_key last = record {
    ok = λ p m b x q l c k e. (exact_made last).ok p m b x q l c k (sym (of_bytes last p m b k) ∙ e);
    again = again;
    stop = λ p m b e o k h. (exact_made last).stop p m b e o k (sym (of_bytes last p m b k) ∙ h);
    stops = stops;
  }
    where
      again : (p m : ℕ) (x : Tree × List ℕ) (w : ℕ) (s c : List ℕ) → KeyReads last x w s
          → key_here parser last p (w + m) (s ++ c) ≡ Ok (x, p + length s, m, c)
      again p m x w s c g =
          subst (λ (z : ℕ × List ℕ). key_here parser last p (z.0 + m) (z.1 ++ c) ≡ made last p (z.0 + m) (z.1 ++ c)) (ap₂ (λ (y : ℕ) (z : List ℕ). (y, z)) (sym g.2) (sym g.3)) (of_key last p m x.0 c g.0.0)
          ∙ (exact_made last).again p m x w s c g

      stops : (p m : ℕ) (b : List ℕ) (e : Reason) (o : ℕ) → KeyStop last p m b e o → key_here parser last p m b ≡ Err (e, o)
      stops p m b e o (inl s) = same_err last p m b (e, o) (ex.stops p m b e o s) ∙ (exact_made last).stops p m b e o (inl s)
      stops p m b e o (inr (a, c, l, h, d, k, i, j)) =
          subst (λ (z : ℕ × List ℕ). key_here parser last p z.0 z.1 ≡ made last p z.0 z.1) (ap₂ (λ (y : ℕ) (z : List ℕ). (y, z)) (sym k) (sym d)) (of_key last p l a c h)
          ∙ (exact_made last).stops p m b e o (inr (a, c, l, h, d, k, i, j))
