-- Each input has exactly one verdict.
use Rattle.bcs_decode_spec.proofs.Prelude.{◌≡◌, ℕ, ◌+◌, ◌-◌, List, ◌++◌, length, take, drop, Ok, Err, refl, sym, ap, subst, ◌∙◌, arith, inl, inr, ◌⊎◌, cases_lt, length-append, length-take, take-append-drop, take_at, Shape, Entries, of, Tree, nodes, Bounds, plain, Reason, TrailingBytes, Accepts, Read, read_value, skip_value, Stops, StopsAll, AreBytes, SomeVerdict, NoTwoVerdicts, AcceptsOnce, StopsOnce, SomeVerdictOfAll, NoTwoVerdictsOfAll, StopsAllOnce}
use Rattle.bcs_decode_spec.proofs.Combine.{parts, fault_parts}
use Rattle.bcs_decode_spec.proofs.Decodable.{decodable}
use Rattle.bcs_decode_spec.proofs.Skipped.{mapped, forget, skip_is_read}
use Rattle.bcs_decode_spec.proofs.Values.{exact_value}

module _ (registry : Entries) (limits : Bounds) (s : Shape) where
  -- what is accepted is read
  pub accepts_reads : (b : List ℕ) (n : ℕ) (c : Tree) → Accepts registry limits s b n c
      → read_value registry limits s b ≡ Ok (c, n, limits.nodes - nodes c, drop n b)
  accepts_reads b n c h =
      let whole : plain registry c (of s) ++ drop n b ≡ b = ap (λ (x : List ℕ). x ++ drop n b) (sym h.is) ∙ take-append-drop n b in
      let long : 0 + length (plain registry c (of s)) ≡ n = omega (arith, ap length h.is, length-take n b, h.within) in
      let left : nodes c + (limits.nodes - nodes c) ≡ limits.nodes = (let k = h.sound.nodes_hold in omega (arith, k)) in
      let good = decodable registry limits.depth (of s) c h.sound.fit h.canonical h.sound.depth_holds h.sound.lengths in
      let e = (exact_value registry limits.depth s).again 0 (limits.nodes - nodes c) c (nodes c) (plain registry c (of s)) (drop n b) (good, refl, refl) in
      rw (whole, long, left) at e

  -- what is read is accepted
  pub reads_accepts : (b : List ℕ) (c : Tree) (n l : ℕ) (t : List ℕ) → AreBytes b → read_value registry limits s b ≡ Ok (c, n, l, t)
      → Accepts registry limits s b n c
  reads_accepts b c n l t h e =
      let r = (exact_value registry limits.depth s).ok 0 limits.nodes b c n l t h e in
      let long : length r.1 ≡ n = omega (arith, r.4) in
      let good = r.2.0 in
      record {
        sound = record {
          fit = good.sound.fit;
          distinct = good.sound.distinct;
          depth_holds = good.sound.depth_holds;
          nodes_hold = omega (arith, r.5, r.2.1);
          lengths = good.sound.lengths;
        };
        canonical = good.canonical;
        within = omega (arith, ap length r.3, length-append r.1 t, r.4);
        is = ap (take n) r.3 ∙ take_at r.1 t n long ∙ r.2.2;
      }

  pub stops_reads : (b : List ℕ) (e : Reason) (o : ℕ) → Stops registry limits s b e o → read_value registry limits s b ≡ Err (e, o)
  stops_reads b e o h = (exact_value registry limits.depth s).stops 0 limits.nodes b e o h

  pub reads_stops : (b : List ℕ) (e : Reason) (o : ℕ) → AreBytes b → read_value registry limits s b ≡ Err (e, o) → Stops registry limits s b e o
  reads_stops b e o h k = (exact_value registry limits.depth s).stop 0 limits.nodes b e o h k

  -- ---- the same for skipping a value

  pub accepts_skips : (b : List ℕ) (n : ℕ) (c : Tree) → Accepts registry limits s b n c
      → skip_value registry limits s b ≡ Ok (tt, n, limits.nodes - nodes c, drop n b)
  accepts_skips b n c h = skip_is_read registry limits s b ∙ ap (mapped forget) (accepts_reads b n c h)

  pub stops_skips : (b : List ℕ) (e : Reason) (o : ℕ) → Stops registry limits s b e o → skip_value registry limits s b ≡ Err (e, o)
  stops_skips b e o h = skip_is_read registry limits s b ∙ ap (mapped forget) (stops_reads b e o h)

  pub skips_accepts : (b : List ℕ) (n l : ℕ) (t : List ℕ) → AreBytes b → skip_value registry limits s b ≡ Ok (tt, n, l, t)
      → (c : Tree) × Accepts registry limits s b n c
  skips_accepts b n l t h e = at (read_value registry limits s b) refl (sym (skip_is_read registry limits s b) ∙ e)
    where
      at : (r : Read Tree) → read_value registry limits s b ≡ r → mapped forget r ≡ Ok (tt, n, l, t) → (c : Tree) × Accepts registry limits s b n c
      at (Ok x) i k =
          let same : x.1 ≡ n = (parts {A = Unit {0}} tt tt x.1 n x.2 l x.3 t k).1 in
          (x.0, subst (λ (y : ℕ). Accepts registry limits s b y x.0) same (reads_accepts b x.0 x.1 x.2 x.3 h i))
      at (Err x) i k = absurd cc

  pub skips_stops : (b : List ℕ) (e : Reason) (o : ℕ) → AreBytes b → skip_value registry limits s b ≡ Err (e, o) → Stops registry limits s b e o
  skips_stops b e o h i = at (read_value registry limits s b) refl (sym (skip_is_read registry limits s b) ∙ i)
    where
      at : (r : Read Tree) → read_value registry limits s b ≡ r → mapped forget r ≡ Err (e, o) → Stops registry limits s b e o
      at (Ok x) j k = absurd cc
      at (Err x) j k = let same : x ≡ (e, o) = cc in reads_stops b e o h (j ∙ ap (λ (y : Reason × ℕ). Err y) same)

-- ---- the laws

pub some_verdict_is : SomeVerdict
some_verdict_is = λ registry limits s b h. at registry limits s b h (read_value registry limits s b) refl
  where
    at : (registry : Entries) (limits : Bounds) (s : Shape) (b : List ℕ) → AreBytes b → (r : Read Tree) → read_value registry limits s b ≡ r
        → ((n : ℕ) × (c : Tree) × Accepts registry limits s b n c) ⊎ ((e : Reason) × (o : ℕ) × Stops registry limits s b e o)
    at registry limits s b h (Ok x) e = inl (x.1, x.0, reads_accepts registry limits s b x.0 x.1 x.2 x.3 h e)
    at registry limits s b h (Err x) e = inr (x.0, x.1, reads_stops registry limits s b x.0 x.1 h e)

pub no_two_verdicts_are : NoTwoVerdicts
no_two_verdicts_are = λ registry limits s b n c e o a k. (let f = accepts_reads registry limits s b n c a in let g = stops_reads registry limits s b e o k in absurd cc)

pub accepts_once_is : AcceptsOnce
accepts_once_is = λ registry limits s b n k c t a d.
    (let p = parts c t n k (limits.nodes - nodes c) (limits.nodes - nodes t) (drop n b) (drop k b) (sym (accepts_reads registry limits s b n c a) ∙ accepts_reads registry limits s b k t d) in (p.1, p.0))

pub stops_once_is : StopsOnce
stops_once_is = λ registry limits s b e g o i h k. fault_parts (read_value registry limits s b) e g o i (stops_reads registry limits s b e o h) (stops_reads registry limits s b g i k)

pub some_verdict_of_all_is : SomeVerdictOfAll
some_verdict_of_all_is = λ registry limits s b h.
    elim (some_verdict_is registry limits s b h) [
      | inl a ↦ elim (cases_lt a.0 (length b)) [
        | inl lt ↦ inr (TrailingBytes, a.0, inr (a.0, a.1, a.2, lt, refl, refl))
        | inr ge ↦ inl (a.1, (let k = a.2.within in subst (λ (n : ℕ). Accepts registry limits s b n a.1) (omega (arith, ge, k)) a.2))
      ]
      | inr k ↦ inr (k.0, k.1, inl k.2)
    ]

pub no_two_verdicts_of_all_are : NoTwoVerdictsOfAll
no_two_verdicts_of_all_are = λ registry limits s b c e o a k.
    elim k [
      | inl h ↦ no_two_verdicts_are registry limits s b (length b) c e o a h
      | inr (n, t, d, lt, i, j) ↦ (let same = (accepts_once_is registry limits s b (length b) n c t a d).0 in omega (arith, same, lt))
    ]

pub stops_all_once_is : StopsAllOnce
stops_all_once_is = λ registry limits s b e g o i h k. at registry limits s b e g o i h k
  where
    at : (registry : Entries) (limits : Bounds) (s : Shape) (b : List ℕ) (e g : Reason) (o i : ℕ)
        → StopsAll registry limits s b e o → StopsAll registry limits s b g i → (e ≡ g) × (o ≡ i)
    at registry limits s b e g o i (inl h) (inl k) = stops_once_is registry limits s b e g o i h k
    at registry limits s b e g o i (inl h) (inr (n, t, d, lt, x, y)) = absurd (no_two_verdicts_are registry limits s b n t e o d h)
    at registry limits s b e g o i (inr (n, t, d, lt, x, y)) (inl k) = absurd (no_two_verdicts_are registry limits s b n t g i d k)
    at registry limits s b e g o i (inr (n, t, d, lt, x, y)) (inr (n2, t2, d2, lt2, x2, y2)) =
        (x ∙ sym x2, y ∙ (accepts_once_is registry limits s b n n2 t t2 d d2).0 ∙ sym y2)
