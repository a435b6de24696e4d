-- Combinations of exact parsers.
use Rattle.bcs_decode_spec.proofs.Prelude.{◌≡◌, ℕ, zero, suc, ◌+◌, ◌<◌, List, [], ◌∷◌, ◌++◌, length, Ok, Err, refl, sym, ap, subst, ◌∙◌, append_assoc, arith, inl, inr, ◌⊎◌, length-append, All-tail, Reason, TooManyNodes, Read, Parser, follow, chain, give, fail, fail_here, node, Stopping, NodeStop, FailStop, AreBytes, Reads, Exact}

abbrev pub done : {A : Type 0} → A → ℕ → ℕ → List ℕ → Read A
done x p m b = Ok (x, p, m, b)

abbrev pub halted : {A : Type 0} → Reason → ℕ → Read A
halted e o = Err (e, o)

pub parts : {A : Type 0} (x y : A) (p q m l : ℕ) (b c : List ℕ) → done x p m b ≡ done y q l c → (x ≡ y) × (p ≡ q) × (m ≡ l) × (b ≡ c)
parts {A} x y p q m l b c e =
    let t : (x, p, m, b) ≡ (y, q, l, c) = cc in (ap (λ (z : A × ℕ × ℕ × List ℕ). z.0) t, ap (λ (z : A × ℕ × ℕ × List ℕ). z.1) t, ap (λ (z : A × ℕ × ℕ × List ℕ). z.2) t, ap (λ (z : A × ℕ × ℕ × List ℕ). z.3) t)

pub fault_parts : {A : Type 0} (r : Read A) (e d : Reason) (o m : ℕ) → r ≡ Err (e, o) → r ≡ Err (d, m) → (e ≡ d) × (o ≡ m)
fault_parts r e d o m h k = let t : (e, o) ≡ (d, m) = cc in (ap (λ (z : Reason × ℕ). z.0) t, ap (λ (z : Reason × ℕ). z.1) t)

pub follow_ok : {A B : Type 0} (r : Read A) (k : A → Parser B) (y : B × ℕ × ℕ × List ℕ) → follow r k ≡ Ok y
    → (x : A × ℕ × ℕ × List ℕ) × (r ≡ Ok x) × (k x.0 x.1 x.2 x.3 ≡ Ok y)
follow_ok (Ok x) k y e = (x, refl, e)
follow_ok (Err d) k y e = absurd cc

pub follow_err : {A B : Type 0} (r : Read A) (k : A → Parser B) (e : Reason × ℕ) → follow r k ≡ Err e
    → (r ≡ Err e) ⊎ ((x : A × ℕ × ℕ × List ℕ) × (r ≡ Ok x) × (k x.0 x.1 x.2 x.3 ≡ Err e))
follow_err (Ok x) k e h = inr (x, refl, h)
follow_err (Err d) k e h = let t : d ≡ e = cc in inl (ap (λ (z : Reason × ℕ). Err z) t)

pub rest_bytes : (s c : List ℕ) → AreBytes (s ++ c) → AreBytes c
rest_bytes [] c h = h
rest_bytes (x ∷ s) c h = rest_bytes s c (All-tail (λ y. y < 256) x (s ++ c) h)

pub bytes_left : (b s c : List ℕ) → AreBytes b → b ≡ s ++ c → AreBytes c
bytes_left b s c h e = rest_bytes s c (subst AreBytes e h)

-- ---- reading nothing

abbrev pub GiveReads : {A : Type 0} → A → Reads A
GiveReads x y w s = (y ≡ x) × (w ≡ 0) × (s ≡ [])

abbrev pub NoStop : Stopping
NoStop p m b e o = ⊥

pub exact_give : {A : Type 0} (x : A) → Exact (GiveReads x) NoStop (give x)
unfolding give
exact_give {A} x = record {
  ok = λ p m b y q l c h e. (let t = parts x y p q m l b c e in (0, [], (sym t.0, refl, refl), t.3, omega (arith, t.1), omega (arith, t.2)));
  again = again;
  stop = λ p m b e o h k. absurd cc;
  stops = λ p m b e o k. absurd k;
}
  where
    again : (p m : ℕ) (y : A) (w : ℕ) (s c : List ℕ) → GiveReads x y w s → done x p (w + m) (s ++ c) ≡ done y (p + length s) m c
    again p m y w s c g = let z : p + 0 ≡ p = omega arith in let y0 : 0 + m ≡ m = omega arith in rw (g.0, g.1, g.2, z, y0) refl

abbrev pub NoReads : {A : Type 0} → Reads A
NoReads y w s = ⊥

abbrev pub FailAt : Reason → ℕ → Stopping
FailAt d n p m b e o = (e ≡ d) × (o ≡ n)

pub exact_fail : {A : Type 0} (d : Reason) (n : ℕ) → Exact {A = A} NoReads (FailAt d n) (fail d n)
unfolding fail
exact_fail {A} d n = record {
  ok = λ p m b y q l c h e. absurd cc;
  again = λ p m y w s c g. absurd g;
  stop = λ p m b e o h k. (let t = fault_parts {A = A} (Err (e, o)) e d o n refl (sym k) in t);
  stops = λ p m b e o k. rw (k.0, k.1) refl;
}

pub exact_fail_here : {A : Type 0} (d : Reason) → Exact {A = A} NoReads (FailStop d) (fail_here d)
unfolding fail_here
exact_fail_here {A} d = record {
  ok = λ p m b y q l c h e. absurd cc;
  again = λ p m y w s c g. absurd g;
  stop = λ p m b e o h k. (let t = fault_parts {A = A} (Err (e, o)) e d o p refl (sym k) in t);
  stops = λ p m b e o k. rw (k.0, k.1) refl;
}

-- ---- an equivalent relation

pub exact_same : {A : Type 0} {R Q : Reads A} {S T : Stopping} {f : Parser A} → Exact R S f
    → ((x : A) (w : ℕ) (s : List ℕ) → R x w s → Q x w s) → ((x : A) (w : ℕ) (s : List ℕ) → Q x w s → R x w s)
    → ((p m : ℕ) (b : List ℕ) (e : Reason) (o : ℕ) → S p m b e o → T p m b e o) → ((p m : ℕ) (b : List ℕ) (e : Reason) (o : ℕ) → T p m b e o → S p m b e o) → Exact Q T f
exact_same ex to from on back = record {
  ok = λ p m b x q l c h e. (let t = ex.ok p m b x q l c h e in (t.0, t.1, to x t.0 t.1 t.2, t.3, t.4, t.5));
  again = λ p m x w s c g. ex.again p m x w s c (from x w s g);
  stop = λ p m b e o h k. on p m b e o (ex.stop p m b e o h k);
  stops = λ p m b e o k. ex.stops p m b e o (back p m b e o k);
}

-- ---- a node

abbrev pub NodeReads : {A : Type 0} → Reads A → Reads A
NodeReads R x w s = (v : ℕ) × (w ≡ suc v) × R x v s

pub exact_node : {A : Type 0} {R : Reads A} {S : Stopping} {f : Parser A} → Exact R S f → Exact (NodeReads R) (NodeStop S) (node f)
unfolding node
exact_node {A} {R} {S} {f} ex = record { ok = ok; again = again; stop = stop; stops = stops }
  where
    ok : (p m : ℕ) (b : List ℕ) (x : A) (q l : ℕ) (c : List ℕ) → AreBytes b → node f p m b ≡ Ok (x, q, l, c)
        → (w : ℕ) × (s : List ℕ) × NodeReads R x w s × (b ≡ s ++ c) × (q ≡ p + length s) × (m ≡ w + l)
    ok p zero b x q l c h e = absurd cc
    ok p (suc m) b x q l c h e = let t = ex.ok p m b x q l c h e in (suc t.0, t.1, (t.0, refl, t.2), t.3, t.4, omega (arith, t.5))

    again : (p m : ℕ) (x : A) (w : ℕ) (s c : List ℕ) → NodeReads R x w s → node f p (w + m) (s ++ c) ≡ Ok (x, p + length s, m, c)
    again p m x w s c g = let n : w + m ≡ suc (g.0 + m) = omega (arith, g.1) in rw n (ex.again p m x g.0 s c g.2)

    stop : (p m : ℕ) (b : List ℕ) (e : Reason) (o : ℕ) → AreBytes b → node f p m b ≡ Err (e, o) → NodeStop S p m b e o
    stop p zero b e o h k = fault_parts {A = A} (Err (e, o)) e TooManyNodes o p refl (sym k)
    stop p (suc m) b e o h k = ex.stop p m b e o h k

    stops : (p m : ℕ) (b : List ℕ) (e : Reason) (o : ℕ) → NodeStop S p m b e o → node f p m b ≡ Err (e, o)
    stops p zero b e o k = rw (k.0, k.1) refl
    stops p (suc m) b e o k = ex.stops p m b e o k

joined : (b r c t d : List ℕ) → b ≡ r ++ c → c ≡ t ++ d → b ≡ (r ++ t) ++ d
joined b r c t d h k = h ∙ ap (λ (z : List ℕ). r ++ z) k ∙ sym (append_assoc r t d)

-- ---- one parser after another; the second one may depend on the place where the first started

abbrev pub ThenReads : {A B : Type 0} → Reads A → (A → Reads B) → Reads B
ThenReads {A} {B} R Q y w s = (a : A) × (v u : ℕ) × (r t : List ℕ) × R a v r × Q a y u t × (w ≡ v + u) × (s ≡ r ++ t)

abbrev pub ThenStop : {A : Type 0} → Reads A → Stopping → (ℕ → A → Stopping) → Stopping
ThenStop {A} R S T p m b e o =
    S p m b e o ⊎ ((a : A) × (v : ℕ) × (r c : List ℕ) × (l : ℕ) × R a v r × (b ≡ r ++ c) × (m ≡ v + l) × T p a (p + length r) l c e o)

pub exact_from : {A B : Type 0} {R : Reads A} {S : Stopping} {f : Parser A} {Q : A → Reads B} {T : ℕ → A → Stopping} {k : ℕ → A → Parser B}
    → Exact R S f
    → ((p : ℕ) (a : A) (v : ℕ) (r : List ℕ) → R a v r → Exact (Q a) (T p a) (k p a)) → Exact (ThenReads R Q) (ThenStop R S T) (λ p. chain f (k p) p)
unfolding chain
exact_from {A} {B} {R} {S} {f} {Q} {T} {k} ex next = record { ok = ok; again = again; stop = stop; stops = stops }
  where
    ok : (p m : ℕ) (b : List ℕ) (y : B) (q l : ℕ) (c : List ℕ) → AreBytes b → follow (f p m b) (k p) ≡ Ok (y, q, l, c)
        → (w : ℕ) × (s : List ℕ) × ThenReads R Q y w s × (b ≡ s ++ c) × (q ≡ p + length s) × (m ≡ w + l)
    ok p m b y q l c h e =
        let a = follow_ok (f p m b) (k p) (y, q, l, c) e in
        let g = ex.ok p m b a.0.0 a.0.1 a.0.2 a.0.3 h a.1 in
        let i = (next p a.0.0 g.0 g.1 g.2).ok a.0.1 a.0.2 a.0.3 y q l c (bytes_left b g.1 a.0.3 h g.3) a.2 in
        (g.0 + i.0, g.1 ++ i.1, (a.0.0, g.0, i.0, g.1, i.1, g.2, i.2, refl, refl), joined b g.1 a.0.3 i.1 c g.3 i.3, omega (arith, g.4, i.4, length-append g.1 i.1), omega (arith, g.5, i.5))

    again : (p m : ℕ) (y : B) (w : ℕ) (s c : List ℕ) → ThenReads R Q y w s → follow (f p (w + m) (s ++ c)) (k p) ≡ Ok (y, p + length s, m, c)
    again p m y w s c (a, v, u, r, t, g, i, e, d) =
        let n : w + m ≡ v + (u + m) = omega (arith, e) in
        let whole : s ++ c ≡ r ++ (t ++ c) = ap (λ (z : List ℕ). z ++ c) d ∙ append_assoc r t c in
        let place : (p + length r) + length t ≡ p + length s = omega (arith, ap length d, length-append r t) in
        rw (n, whole, ex.again p (u + m) a v r (t ++ c) g, ← place) ((next p a v r g).again (p + length r) m y u t c i)

    stop : (p m : ℕ) (b : List ℕ) (e : Reason) (o : ℕ) → AreBytes b → follow (f p m b) (k p) ≡ Err (e, o) → ThenStop R S T p m b e o
    stop p m b e o h j =
        elim (follow_err (f p m b) (k p) (e, o) j) [
          | inl s ↦ inl (ex.stop p m b e o h s)
          | inr a ↦
              (let g = ex.ok p m b a.0.0 a.0.1 a.0.2 a.0.3 h a.1 in
              let i = (next p a.0.0 g.0 g.1 g.2).stop a.0.1 a.0.2 a.0.3 e o (bytes_left b g.1 a.0.3 h g.3) a.2 in
              inr (a.0.0, g.0, g.1, a.0.3, a.0.2, g.2, g.3, g.5, subst (λ (q : ℕ). T p a.0.0 q a.0.2 a.0.3 e o) g.4 i))
        ]

    stops : (p m : ℕ) (b : List ℕ) (e : Reason) (o : ℕ) → ThenStop R S T p m b e o → follow (f p m b) (k p) ≡ Err (e, o)
    stops p m b e o (inl s) = rw (ex.stops p m b e o s) refl
    stops p m b e o (inr (a, v, r, c, l, g, d, n, i)) = rw (d, n, ex.again p l a v r c g) ((next p a v r g).stops (p + length r) l c e o i)

pub exact_chain : {A B : Type 0} {R : Reads A} {S : Stopping} {f : Parser A} {Q : A → Reads B} {T : A → Stopping} {k : A → Parser B} → Exact R S f
    → ((a : A) (v : ℕ) (r : List ℕ) → R a v r → Exact (Q a) (T a) (k a)) → Exact (ThenReads R Q) (ThenStop R S (λ _. T)) (chain f k)
exact_chain {k = k} ex next = exact_from {k = λ _. k} ex (λ p a v r g. next a v r g)
