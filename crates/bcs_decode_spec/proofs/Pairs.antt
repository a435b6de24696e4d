-- Lists of entries with ascending keys.
use Rattle.bcs_decode_spec.proofs.Prelude.{◌≡◌, ℕ, zero, suc, ◌+◌, List, [], ◌++◌, length, Option, Some, refl, sym, ap, ap₂, subst, ◌∙◌, append_assoc, arith, inl, inr, length-append, append-nil, Shape, Entries, of, Tree, Pairs, no_pairs, pair, pair_count, nodes, pairs_nodes, plain, plain_pairs, Reason, Parser, pairs_here, building, Stopping, AllRise, last_key, EntryStop, PairsStop, Reads, Exact}
use Rattle.bcs_decode_spec.proofs.Combine.{exact_give, exact_chain, exact_same, GiveReads, NoStop, ThenReads, ThenStop}
use Rattle.bcs_decode_spec.proofs.Items.{Says, moved}
use Rattle.bcs_decode_spec.proofs.Keys.{KeyReads, KeyStop, exact_key}

abbrev pub PairsReads : Entries → Shape → Shape → (Tree → Type 0) → (Tree → Type 0) → Option (List ℕ) → ℕ → Reads Pairs
PairsReads registry f g Key Value last n ps w s =
    (pair_count ps ≡ n) × AllRise registry f Key Value last ps × (w ≡ pairs_nodes ps) × (s ≡ plain_pairs registry ps f g)

module _ (registry : Entries) (f g : Shape) (Key Value : Tree → Type 0) (KS VS : Stopping) (key value : Parser Tree)
    (ek : Exact (Says registry (of f) Key) KS key) (ev : Exact (Says registry (of g) Value) VS value) where
  abbrev key_bytes : Tree → List ℕ
  key_bytes t = plain registry t (of f)

  abbrev value_bytes : Tree → List ℕ
  value_bytes t = plain registry t (of g)

  abbrev all_bytes : Pairs → List ℕ
  all_bytes ps = plain_pairs registry ps f g

  abbrev KeyHere : Option (List ℕ) → Reads (Tree × List ℕ)
  KeyHere last = KeyReads registry f Key KS key ek last

  abbrev KeyStops : Option (List ℕ) → Stopping
  KeyStops last = KeyStop registry f Key KS key ek last

  abbrev ValueHere : Reads Tree
  ValueHere = Says registry (of g) Value

  abbrev Row : Option (List ℕ) → ℕ → Reads Pairs
  Row = PairsReads registry f g Key Value

  abbrev RowStop : Option (List ℕ) → ℕ → Stopping
  RowStop = PairsStop registry f g Key Value KS VS

  abbrev Entry : Option (List ℕ) → Stopping
  Entry = EntryStop registry f Key KS VS

  LastReads : ℕ → Tree × List ℕ → Tree → Reads Pairs
  LastReads n a b = ThenReads (Row (Some a.1) n) (λ ps. GiveReads (pair a.0 b ps))

  LastStop : ℕ → Tree × List ℕ → Stopping
  LastStop n a = ThenStop (Row (Some a.1) n) (RowStop (Some a.1) n) (λ _ _. NoStop)

  NextReads : Option (List ℕ) → ℕ → Reads Pairs
  NextReads last n = ThenReads (KeyHere last) (λ a. ThenReads ValueHere (LastReads n a))

  NextStop : Option (List ℕ) → ℕ → Stopping
  NextStop last n = ThenStop (KeyHere last) (KeyStops last) (λ _ a. ThenStop ValueHere VS (λ _ _. LastStop n a))

  none_to : (last : Option (List ℕ)) (ps : Pairs) (w : ℕ) (s : List ℕ) → GiveReads no_pairs ps w s → Row last 0 ps w s
  none_to last ps w s h = subst (λ (us : Pairs). Row last 0 us w s) (sym h.0) (refl, tt, h.1, h.2)

  none_from : (last : Option (List ℕ)) (ps : Pairs) (w : ℕ) (s : List ℕ) → Row last 0 ps w s → GiveReads no_pairs ps w s
  none_from last no_pairs w s h = (refl, h.2, h.3)
  none_from last (pair a b ps) w s h = absurd (let e = h.0 in cc)

  rise_to : (a : Tree × List ℕ) (ps : Pairs) → a.1 ≡ key_bytes a.0 → AllRise registry f Key Value (Some a.1) ps
      → AllRise registry f Key Value (Some (key_bytes a.0)) ps
  rise_to a ps h r = subst (λ (x : List ℕ). AllRise registry f Key Value (Some x) ps) h r

  to : (last : Option (List ℕ)) (n : ℕ) (ps : Pairs) (w : ℕ) (s : List ℕ) → NextReads last n ps w s → Row last (suc n) ps w s
  unfolding NextReads LastReads
  to last n y w s (a, v, u, r, z, h, (b, v1, u1, r1, z1, h1, (ps, v2, u2, r2, z2, h2, i2, e2, d2), e1, d1), e, d) =
      let whole : z1 ≡ all_bytes ps = d2 ∙ ap₂ (λ (x y : List ℕ). x ++ y) h2.3 i2.2 ∙ append-nil (all_bytes ps) in
      subst (λ (us : Pairs). Row last (suc n) us w s) (sym i2.0)
      (ap suc h2.0, (h.0.0, h.0.1, h1.0, rise_to a ps h.1 h2.1), omega (arith, e, e1, e2, i2.1, h.2, h1.1, h2.2), d ∙ ap₂ (λ (x y : List ℕ). x ++ y) h.3 (d1 ∙ ap₂ (λ (x y : List ℕ). x ++ y) h1.2 whole))

  from : (last : Option (List ℕ)) (n : ℕ) (ps : Pairs) (w : ℕ) (s : List ℕ) → Row last (suc n) ps w s → NextReads last n ps w s
  unfolding NextReads LastReads
  from last n no_pairs w s h = absurd (let e = h.0 in cc)
  from last n (pair a b ps) w s h =
      let k : pair_count ps ≡ n = (let e = h.0 in cc) in (
        (a, key_bytes a),
        nodes a,
        nodes b + pairs_nodes ps,
        key_bytes a,
        value_bytes b ++ all_bytes ps,
        ((h.1.0, h.1.1), refl, refl, refl),
        (b, nodes b, pairs_nodes ps, value_bytes b, all_bytes ps, (h.1.2, refl, refl), (ps, pairs_nodes ps, 0, all_bytes ps, [], (k, h.1.3, refl, refl), (refl, refl, refl), omega arith, sym (append-nil (all_bytes ps))), refl, refl),
        omega (arith, h.2),
        h.3,
      )

  on : (last : Option (List ℕ)) (n p m : ℕ) (b : List ℕ) (e : Reason) (o : ℕ) → NextStop last n p m b e o → RowStop last (suc n) p m b e o
  unfolding NextStop LastStop
  on last n p m b e o (inl (inl s)) =
      (no_pairs, b, m, omega arith, tt, refl, omega arith, inl (moved KS (let z : p ≡ p + 0 = omega arith in z) refl refl s))
  on last n p m b e o (inl (inr (a, c, l, h, d, k, i, j))) =
      (no_pairs, b, m, omega arith, tt, refl, omega arith, inr (a, c, l, h, d, k, inl (i, omega (arith, j))))
  on last n p m b e o (inr (a, v, r, c, l, h, d, k, inl s)) =
      (no_pairs, b, m, omega arith, tt, refl, omega arith, inr (a.0, c, l, h.0.0, d ∙ ap (λ (x : List ℕ). x ++ c) h.3, omega (arith, k, h.2), inr (h.0.1, moved VS (let z : p + length r ≡ (p + 0) + length (key_bytes a.0) = omega (arith, ap length h.3) in z) refl refl s)))
  on last n p m b e o (inr (a, v, r, c, l, h, d, k, inr (x, v1, r1, c1, l1, h1, d1, k1, inl (ps, c2, l2, lt, all, d2, k2, s)))) =
      let whole : b ≡ (key_bytes a.0 ++ (value_bytes x ++ all_bytes ps)) ++ c2 = d ∙ ap₂ (λ (x y : List ℕ). x ++ y) h.3 (d1 ∙ ap₂ (λ (x y : List ℕ). x ++ y) h1.2 d2 ∙ sym (append_assoc (value_bytes x) (all_bytes ps) c2)) ∙ sym (append_assoc (key_bytes a.0) (value_bytes x ++ all_bytes ps) c2) in (
        pair a.0 x ps,
        c2,
        l2,
        omega (arith, lt),
        (h.0.0, h.0.1, h1.0, rise_to a ps h.1 all),
        whole,
        omega (arith, k, k1, k2, h.2, h1.1),
        moved (Entry (last_key registry f (Some (key_bytes a.0)) ps))
            (let z : ((p + length r) + length r1) + length (all_bytes ps) ≡ p + length (key_bytes a.0 ++ (value_bytes x ++ all_bytes ps)) = omega (arith, ap length h.3, ap length h1.2, length-append (key_bytes a.0) (value_bytes x ++ all_bytes ps), length-append (value_bytes x) (all_bytes ps)) in z) refl refl
            (subst (λ (y : List ℕ). Entry (last_key registry f (Some y) ps) (((p + length r) + length r1) + length (all_bytes ps)) l2 c2 e o) h.1 s),
      )
  on last n p m b e o (inr (a, v, r, c, l, h, d, k, inr (x, v1, r1, c1, l1, h1, d1, k1, inr (ps, v2, r2, c2, l2, h2, d2, k2, s)))) = absurd s

  back : (last : Option (List ℕ)) (n p m : ℕ) (b : List ℕ) (e : Reason) (o : ℕ) → RowStop last (suc n) p m b e o → NextStop last n p m b e o
  unfolding NextStop LastStop
  back last n p m b e o (no_pairs, c, l, lt, all, d, k, inl s) =
      inl (inl (moved KS (let z : p + 0 ≡ p = omega arith in z) (let z : l ≡ m = omega (arith, k) in z) (sym d) s))
  back last n p m b e o (no_pairs, c, l, lt, all, d, k, inr (a, c1, l1, h, d1, k1, inl (i, j))) =
      inl (inr (a, c1, l1, h, d ∙ d1, omega (arith, k, k1), i, omega (arith, j)))
  back last n p m b e o (no_pairs, c, l, lt, all, d, k, inr (a, c1, l1, h, d1, k1, inr (i, s))) =
      inr ((a, key_bytes a), nodes a, key_bytes a, c1, l1, ((h, i), refl, refl, refl), d ∙ d1, omega (arith, k, k1), inl (moved VS (let z : (p + 0) + length (key_bytes a) ≡ p + length (key_bytes a) = omega arith in z) refl refl s))
  back last n p m b e o (pair a x ps, c, l, lt, all, d, k, s) =
      inr (
        (a, key_bytes a),
        nodes a,
        key_bytes a,
        (value_bytes x ++ all_bytes ps) ++ c,
        (nodes x + pairs_nodes ps) + l,
        ((all.0, all.1), refl, refl, refl),
        d ∙ append_assoc (key_bytes a) (value_bytes x ++ all_bytes ps) c,
        omega (arith, k),
        inr (
          x,
          nodes x,
          value_bytes x,
          all_bytes ps ++ c,
          pairs_nodes ps + l,
          (all.2, refl, refl),
          append_assoc (value_bytes x) (all_bytes ps) c,
          omega arith,
          inl (
            ps,
            c,
            l,
            omega (arith, lt),
            all.3,
            refl,
            refl,
            moved (Entry (last_key registry f (Some (key_bytes a)) ps)) (let z : p + length (key_bytes a ++ (value_bytes x ++ all_bytes ps)) ≡ ((p + length (key_bytes a)) + length (value_bytes x)) + length (all_bytes ps) = omega (arith, length-append (key_bytes a) (value_bytes x ++ all_bytes ps), length-append (value_bytes x) (all_bytes ps)) in z) refl refl s,
          ),
        ),
      )

  pub exact_pairs : (n : ℕ) (last : Option (List ℕ)) → Exact (Row last n) (RowStop last n) (pairs_here building key value last n)
  unfolding pairs_here NextReads NextStop LastReads LastStop
  exact_pairs zero last =
      exact_same (exact_give no_pairs) (none_to last) (none_from last) (λ p m b e o s. absurd s) (λ p m b e o s. absurd (let lt = s.3 in omega arith))
  exact_pairs (suc n) last =
      exact_same (exact_chain (exact_key registry f Key KS key ek last) (λ a v r h. exact_chain ev (λ b u z i. exact_chain (exact_pairs n (Some a.1)) (λ ps y x j. exact_give (pair a.0 b ps))))) (to last n) (from last n) (on last n) (back last n)
