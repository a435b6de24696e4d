-- Numbers, lengths, byte strings, strings and flags.
use Rattle.bcs_decode_spec.proofs.Prelude.{◌≡◌, ℕ, suc, ◌+◌, ◌-◌, ◌<◌, ◌≤◌, ◌^◌, ◌==◌, nat_lt, Bool, true, false, if◌then◌else◌, ℤ, List, [], ◌∷◌, ◌++◌, length, take, drop, Result, Ok, Err, refl, sym, ap, ap₂, subst, ◌∙◌, arith, inl, inr, and_parts, and_from, cases_lt, cases_Bool, cases_eq, le-ltb, lt-ltb, ltb-true, length-append, take-append-drop, length-take, take_at, drop_at, append-nil, All-nil, All-cons, All-head, All-tail, Width, byte_len, from_le_bytes, is_utf8, utf8_valid_len, NumFault, uleb, IsUnsigned, IsSigned, le, le_signed, unsigned_read, unsigned_written, signed_number, signed_read, signed_written, number_from, number_at, number_at_number, number_at_fault, number_at_is_number, number_at_is_fault, are_bytes, length_limit, truth_byte, Reason, EndOfInput, LongForm, NumberTooLarge, LengthTooLarge, BadUtf8, Parser, chain, give, fail, shifted, uleb_from, number_read, number_here, length_here, bytes_here, text_here, flag_here, unsigned_here, signed_here, Stopping, NumberStop, LengthStop, BytesStop, TextStop, FlagStop, AreBytes, Reads, Exact}
use Rattle.bcs_num.specs.declared.fault.NumFault.TheVariants as num
use Rattle.bcs_num.proofs.UlebReading as reading
use Rattle.bcs_decode_spec.proofs.Combine.{done, halted, parts, fault_parts, exact_give, exact_fail, exact_from, exact_chain, exact_same, GiveReads, NoStop, FailAt, ThenReads, ThenStop}

-- ---- numbers

shifted_is : (low worth len : ℕ) (r : Result (ℕ × ℕ) NumFault) → shifted low worth len r ≡ reading.shifted low worth len r
shifted_is low worth len (Ok x) = refl
shifted_is low worth len (Err e) = refl

pub uleb_is : (i : ℕ) (b : List ℕ) → uleb_from i b ≡ number_from i b
uleb_is i [] = refl
uleb_is i (x ∷ b) = rw (uleb_is (suc i) b, shifted_is (x - 128) 128 1 (number_from (suc i) b)) refl

abbrev pub NumberReads : Reads ℕ
NumberReads n w s = (n < 2 ^ 32) × (w ≡ 0) × (s ≡ uleb n)

pub exact_number : Exact NumberReads NumberStop number_here
unfolding number_here
exact_number = record { ok = ok; again = again; stop = stop; stops = stops }
  where
    at : (p m : ℕ) (b : List ℕ) (r : Result (ℕ × ℕ) NumFault) → number_at b ≡ r → number_read p m b (uleb_from 0 b) ≡ number_read p m b r
    at p m b r h = ap (number_read p m b) (uleb_is 0 b ∙ h)

    ok : (p m : ℕ) (b : List ℕ) (x q l : ℕ) (c : List ℕ) → AreBytes b → number_read p m b (uleb_from 0 b) ≡ Ok (x, q, l, c)
        → (w : ℕ) × (s : List ℕ) × NumberReads x w s × (b ≡ s ++ c) × (q ≡ p + length s) × (m ≡ w + l)
    ok p m b x q l c h e = from (number_at b) refl (sym (at p m b (number_at b) refl) ∙ e)
      where
        from : (r : Result (ℕ × ℕ) NumFault) → number_at b ≡ r → number_read p m b r ≡ Ok (x, q, l, c)
            → (w : ℕ) × (s : List ℕ) × NumberReads x w s × (b ≡ s ++ c) × (q ≡ p + length s) × (m ≡ w + l)
        from (Ok y) g i =
            let t = parts y.0 x (p + y.1) q m l (drop y.1 b) c i in
            let k = number_at_is_number b y.0 y.1 h g in
            let long : y.1 ≡ length (uleb y.0) = omega (arith, ap length k.is, length-take y.1 b, k.within) in (
              0,
              uleb x,
              (subst (λ (n : ℕ). n < 2 ^ 32) t.0 k.fits, refl, refl),
              sym (take-append-drop y.1 b) ∙ ap₂ (λ (u v : List ℕ). u ++ v) (k.is ∙ ap uleb t.0) t.3,
              sym t.1 ∙ ap (λ (n : ℕ). p + n) (long ∙ ap (λ (n : ℕ). length (uleb n)) t.0),
              omega (arith, t.2),
            )
        from (Err num.EndOfInput) g i = absurd cc
        from (Err num.LongForm) g i = absurd cc
        from (Err num.NumberTooLarge) g i = absurd cc

    again : (p m x w : ℕ) (s c : List ℕ) → NumberReads x w s → number_read p (w + m) (s ++ c) (uleb_from 0 (s ++ c)) ≡ Ok (x, p + length s, m, c)
    again p m x w s c g =
        let n : w + m ≡ m = omega (arith, g.1) in
        let d : drop (length (uleb x)) (uleb x ++ c) ≡ c = drop_at (uleb x) c (length (uleb x)) refl in
        let is : number_at (uleb x ++ c) ≡ Ok (x, length (uleb x)) = number_at_number (uleb x ++ c) x (length (uleb x)) (record {
          fits = g.0;
          within = omega (arith, length-append (uleb x) c);
          is = take_at (uleb x) c (length (uleb x)) refl;
        }) in
        rw (n, g.2) (at p m (uleb x ++ c) (Ok (x, length (uleb x))) is ∙ ap (λ (z : List ℕ). done x (p + length (uleb x)) m z) d)

    stop : (p m : ℕ) (b : List ℕ) (e : Reason) (o : ℕ) → AreBytes b → number_read p m b (uleb_from 0 b) ≡ Err (e, o) → NumberStop p m b e o
    stop p m b e o h k = from (number_at b) refl (sym (at p m b (number_at b) refl) ∙ k)
      where
        from : (r : Result (ℕ × ℕ) NumFault) → number_at b ≡ r → number_read p m b r ≡ Err (e, o) → NumberStop p m b e o
        from (Ok y) g i = absurd cc
        from (Err num.EndOfInput) g i =
            let t = fault_parts (halted e o) e EndOfInput o (p + length b) refl (sym i) in inl (number_at_is_fault b num.EndOfInput h g, t.0, t.1)
        from (Err num.LongForm) g i =
            let t = fault_parts (halted e o) e LongForm o p refl (sym i) in inr (inr (number_at_is_fault b num.LongForm h g, t.0, t.1))
        from (Err num.NumberTooLarge) g i =
            let t = fault_parts (halted e o) e NumberTooLarge o p refl (sym i) in inr (inl (number_at_is_fault b num.NumberTooLarge h g, t.0, t.1))

    stops : (p m : ℕ) (b : List ℕ) (e : Reason) (o : ℕ) → NumberStop p m b e o → number_read p m b (uleb_from 0 b) ≡ Err (e, o)
    stops p m b e o (inl k) = at p m b (Err num.EndOfInput) (number_at_fault b num.EndOfInput k.0) ∙ rw (k.1, k.2) refl
    stops p m b e o (inr (inl k)) = at p m b (Err num.NumberTooLarge) (number_at_fault b num.NumberTooLarge k.0) ∙ rw (k.1, k.2) refl
    stops p m b e o (inr (inr k)) = at p m b (Err num.LongForm) (number_at_fault b num.LongForm k.0) ∙ rw (k.1, k.2) refl

-- ---- a length

abbrev pub LengthReads : Reads ℕ
LengthReads n w s = (n ≤ length_limit) × (w ≡ 0) × (s ≡ uleb n)

abbrev SmallReads : ℕ → Reads ℕ
SmallReads n k w s = (n ≤ length_limit) × GiveReads n k w s

abbrev SmallStop : ℕ → ℕ → Stopping
SmallStop p n q m b e o = (length_limit < n) × FailAt LengthTooLarge p q m b e o

abbrev pick : {A : Type 0} → Bool → Parser A → Parser A → Parser A
pick h x y = if h then x else y

small : (p n : ℕ) → Exact (SmallReads n) (SmallStop p n) (pick (nat_lt length_limit n) (fail LengthTooLarge p) (give n))
small p n =
    elim (cases_lt length_limit n) [
      | inl lt ↦ rw (lt-ltb length_limit n lt) (exact_same (exact_fail LengthTooLarge p) (λ x w s r. absurd r) (λ x w s r. absurd (let le = r.0 in omega arith)) (λ q m b e o k. (lt, k)) (λ q m b e o k. k.1))
      | inr le ↦ rw (le-ltb length_limit n le) (exact_same (exact_give n) (λ x w s r. (le, r)) (λ x w s r. r.1) (λ q m b e o k. absurd k) (λ q m b e o k. absurd (let lt = k.0 in omega arith)))
    ]

pub exact_length : Exact LengthReads LengthStop length_here
unfolding length_here
exact_length = exact_same (exact_from {k = λ p n. pick (nat_lt length_limit n) (fail LengthTooLarge p) (give n)} exact_number (λ p n w s r. small p n)) to from on back
  where
    to : (x w : ℕ) (s : List ℕ) → ThenReads NumberReads SmallReads x w s → LengthReads x w s
    to x w s (a, v, u, r, t, g, i, e, d) =
        (subst (λ (n : ℕ). n ≤ length_limit) (sym i.1.0) i.0, omega (arith, e, g.1, i.1.1), d ∙ ap₂ (λ (y z : List ℕ). y ++ z) g.2 i.1.2 ∙ append-nil (uleb a) ∙ ap uleb (sym i.1.0))

    from : (x w : ℕ) (s : List ℕ) → LengthReads x w s → ThenReads NumberReads SmallReads x w s
    from x w s g = (x, 0, 0, uleb x, [], (let le = g.0 in omega arith, refl, refl), (g.0, (refl, refl, refl)), g.1, g.2 ∙ sym (append-nil (uleb x)))

    on : (p m : ℕ) (b : List ℕ) (e : Reason) (o : ℕ) → ThenStop NumberReads NumberStop SmallStop p m b e o → LengthStop p m b e o
    on p m b e o (inl k) = inl k
    on p m b e o (inr (a, v, r, c, l, g, d, n, i)) = inr (a, c, i.0, g.0, d ∙ ap (λ (z : List ℕ). z ++ c) g.2, i.1.0, i.1.1)

    back : (p m : ℕ) (b : List ℕ) (e : Reason) (o : ℕ) → LengthStop p m b e o → ThenStop NumberReads NumberStop SmallStop p m b e o
    back p m b e o (inl k) = inl k
    back p m b e o (inr (n, c, lt, low, d, k, i)) = inr (n, 0, uleb n, c, m, (low, refl, refl), d, omega arith, (lt, (k, i)))

-- ---- bytes

abbrev pub BytesReads : ℕ → Reads (List ℕ)
BytesReads n x w s = (length x ≡ n) × (w ≡ 0) × (s ≡ x)

pub exact_bytes : (n : ℕ) → Exact (BytesReads n) (BytesStop n) (bytes_here n)
unfolding bytes_here
exact_bytes n = record { ok = ok; again = again; stop = stop; stops = stops }
  where
    ok : (p m : ℕ) (b x : List ℕ) (q l : ℕ) (c : List ℕ) → AreBytes b → bytes_here n p m b ≡ Ok (x, q, l, c)
        → (w : ℕ) × (s : List ℕ) × BytesReads n x w s × (b ≡ s ++ c) × (q ≡ p + length s) × (m ≡ w + l)
    ok p m b x q l c h e =
        elim (cases_lt (length b) n) [
          | inl lt ↦ absurd (let g = rw (lt-ltb (length b) n lt) at e in cc)
          | inr le ↦
              (let t = parts (take n b) x (p + n) q m l (drop n b) c (rw (le-ltb (length b) n le) at e) in
              let k : length x ≡ n = ap length (sym t.0) ∙ omega (arith, length-take n b) in
              (0, x, (k, refl, refl), sym (take-append-drop n b) ∙ ap₂ (λ (y z : List ℕ). y ++ z) t.0 t.3, omega (arith, t.1, k), omega (arith, t.2)))
        ]

    again : (p m : ℕ) (x : List ℕ) (w : ℕ) (s c : List ℕ) → BytesReads n x w s → bytes_here n p (w + m) (s ++ c) ≡ Ok (x, p + length s, m, c)
    again p m x w s c g =
        let k : w + m ≡ m = omega (arith, g.1) in
        let long : nat_lt (length (x ++ c)) n ≡ false = le-ltb _ _ (omega (arith, g.0, length-append x c)) in
        rw (k, g.2, long, take_at x c n g.0, drop_at x c n g.0, g.0) refl

    stop : (p m : ℕ) (b : List ℕ) (e : Reason) (o : ℕ) → AreBytes b → bytes_here n p m b ≡ Err (e, o) → BytesStop n p m b e o
    stop p m b e o h k =
        elim (cases_lt (length b) n) [
          | inl lt ↦ (let t = fault_parts {A = List ℕ} (Err (e, o)) e EndOfInput o (p + length b) refl (sym (rw (lt-ltb (length b) n lt) at k)) in (lt, t.0, t.1))
          | inr le ↦ absurd (let g = rw (le-ltb (length b) n le) at k in cc)
        ]

    stops : (p m : ℕ) (b : List ℕ) (e : Reason) (o : ℕ) → BytesStop n p m b e o → bytes_here n p m b ≡ Err (e, o)
    stops p m b e o k = rw (lt-ltb (length b) n k.0, k.1, k.2) refl

-- ---- strings

abbrev pub TextReads : ℕ → Reads (List ℕ)
TextReads n x w s = (is_utf8 x ≡ true) × BytesReads n x w s

abbrev RightReads : List ℕ → Reads (List ℕ)
RightReads s x w t = (is_utf8 s ≡ true) × GiveReads s x w t

abbrev WrongStop : ℕ → List ℕ → Stopping
WrongStop p s q m b e o = (is_utf8 s ≡ false) × FailAt BadUtf8 (p + utf8_valid_len s) q m b e o

exact_right : (p : ℕ) (s : List ℕ) → Exact (RightReads s) (WrongStop p s) (pick (is_utf8 s) (give s) (fail BadUtf8 (p + utf8_valid_len s)))
exact_right p s =
    elim (cases_Bool (is_utf8 s)) [
      | inl right ↦ rw right (exact_same (exact_give s) (λ x w t r. (right, r)) (λ x w t r. r.1) (λ q m b e o k. absurd k) (λ q m b e o k. absurd (let g = k.0 in cc)))
      | inr wrong ↦ rw wrong (exact_same (exact_fail BadUtf8 (p + utf8_valid_len s)) (λ x w t r. absurd r) (λ x w t r. absurd (let g = r.0 in cc)) (λ q m b e o k. (wrong, k)) (λ q m b e o k. k.1))
    ]

pub exact_text : (n : ℕ) → Exact (TextReads n) (TextStop n) (text_here n)
unfolding text_here
exact_text n =
    exact_same (exact_from {k = λ p s. pick (is_utf8 s) (give s) (fail BadUtf8 (p + utf8_valid_len s))} (exact_bytes n) (λ p s w t r. exact_right p s)) to from on back
  where
    to : (x : List ℕ) (w : ℕ) (s : List ℕ) → ThenReads (BytesReads n) RightReads x w s → TextReads n x w s
    to x w s (a, v, u, r, t, g, i, e, d) =
        let same : a ≡ x = sym i.1.0 in
        (subst (λ (z : List ℕ). is_utf8 z ≡ true) same i.0, (subst (λ (z : List ℕ). length z ≡ n) same g.0, omega (arith, e, g.1, i.1.1), d ∙ ap₂ (λ (y z : List ℕ). y ++ z) g.2 i.1.2 ∙ append-nil a ∙ same))

    from : (x : List ℕ) (w : ℕ) (s : List ℕ) → TextReads n x w s → ThenReads (BytesReads n) RightReads x w s
    from x w s g = (x, 0, 0, x, [], (g.1.0, refl, refl), (g.0, (refl, refl, refl)), g.1.1, g.1.2 ∙ sym (append-nil x))

    on : (p m : ℕ) (b : List ℕ) (e : Reason) (o : ℕ) → ThenStop (BytesReads n) (BytesStop n) WrongStop p m b e o → TextStop n p m b e o
    on p m b e o (inl k) = inl k
    on p m b e o (inr (a, v, r, c, l, g, d, k, i)) = inr (a, c, g.0, d ∙ ap (λ (z : List ℕ). z ++ c) g.2, i.0, i.1.0, i.1.1)

    back : (p m : ℕ) (b : List ℕ) (e : Reason) (o : ℕ) → TextStop n p m b e o → ThenStop (BytesReads n) (BytesStop n) WrongStop p m b e o
    back p m b e o (inl k) = inl k
    back p m b e o (inr (s, c, long, d, wrong, k, i)) = inr (s, 0, s, c, m, (long, refl, refl), d, omega arith, (wrong, (k, i)))

-- ---- flags

abbrev pub FlagReads : Reads Bool
FlagReads x w s = (w ≡ 0) × (s ≡ truth_byte x ∷ [])

-- the byte of a flag
few : (x : ℕ) → x ≤ 1 → truth_byte (x == 1) ≡ x
few x le = elim (cases_eq x 1) [
  | inl one ↦ rw one refl
  | inr more ↦ (let none : x ≡ 0 = omega (arith, more) in rw none refl)
]

flag_back : (x : Bool) → (truth_byte x == 1) ≡ x
flag_back true = refl
flag_back false = refl

flag_low : (x : Bool) → nat_lt 1 (truth_byte x) ≡ false
flag_low true = refl
flag_low false = refl

pub exact_flag : (bad : Reason) → Exact FlagReads (FlagStop bad) (flag_here bad)
unfolding flag_here
exact_flag bad = record { ok = ok; again = again; stop = stop; stops = stops }
  where
    ok : (p m : ℕ) (b : List ℕ) (x : Bool) (q l : ℕ) (c : List ℕ) → AreBytes b → flag_here bad p m b ≡ Ok (x, q, l, c)
        → (w : ℕ) × (s : List ℕ) × FlagReads x w s × (b ≡ s ++ c) × (q ≡ p + length s) × (m ≡ w + l)
    ok p m [] x q l c h e = absurd cc
    ok p m (y ∷ b) x q l c h e =
        elim (cases_lt 1 y) [
          | inl lt ↦ absurd (let g = rw (lt-ltb 1 y lt) at e in cc)
          | inr le ↦
              (let t = parts (y == 1) x (p + 1) q m l b c (rw (le-ltb 1 y le) at e) in
              (0, truth_byte x ∷ [], (refl, refl), ap₂ (λ (u : ℕ) (v : List ℕ). u ∷ v) (sym (few y (omega arith)) ∙ ap truth_byte t.0) t.3, sym t.1, omega (arith, t.2)))
        ]

    again : (p m : ℕ) (x : Bool) (w : ℕ) (s c : List ℕ) → FlagReads x w s → flag_here bad p (w + m) (s ++ c) ≡ Ok (x, p + length s, m, c)
    again p m x w s c g = let n : w + m ≡ m = omega (arith, g.0) in rw (n, g.1, flag_low x, flag_back x) refl

    stop : (p m : ℕ) (b : List ℕ) (e : Reason) (o : ℕ) → AreBytes b → flag_here bad p m b ≡ Err (e, o) → FlagStop bad p m b e o
    stop p m [] e o h k = let t = fault_parts {A = Bool} (Err (e, o)) e EndOfInput o p refl (sym k) in inl (refl, t.0, t.1)
    stop p m (y ∷ b) e o h k =
        elim (cases_lt 1 y) [
          | inl lt ↦ (let t = fault_parts {A = Bool} (Err (e, o)) e bad o p refl (sym (rw (lt-ltb 1 y lt) at k)) in inr (y, b, lt, refl, t.0, t.1))
          | inr le ↦ absurd (let g = rw (le-ltb 1 y le) at k in cc)
        ]

    stops : (p m : ℕ) (b : List ℕ) (e : Reason) (o : ℕ) → FlagStop bad p m b e o → flag_here bad p m b ≡ Err (e, o)
    stops p m b e o (inl k) = rw (k.0, k.1, k.2) refl
    stops p m b e o (inr (x, c, lt, d, k, i)) = rw (d, lt-ltb 1 x lt, k, i) refl

-- ---- integers

front_bytes : (s c : List ℕ) → AreBytes (s ++ c) → AreBytes s
front_bytes [] c h = All-nil (λ y. y < 256)
front_bytes (x ∷ s) c h = All-cons (λ y. y < 256) x s (All-head (λ y. y < 256) x (s ++ c) h) (front_bytes s c (All-tail (λ y. y < 256) x (s ++ c) h))

-- bytes pass the test that `fits` uses
pub bytes_pass : (s : List ℕ) → AreBytes s → are_bytes s ≡ true
bytes_pass [] h = refl
bytes_pass (x ∷ s) h =
    and_from _ _ (lt-ltb x 256 (All-head (λ y. y < 256) x s h)) (bytes_pass s (All-tail (λ y. y < 256) x s h))

pub pass_bytes : (s : List ℕ) → are_bytes s ≡ true → AreBytes s
pass_bytes [] h = All-nil (λ y. y < 256)
pass_bytes (x ∷ s) h =
    let p = and_parts (nat_lt x 256) (are_bytes s) h in
    All-cons (λ y. y < 256) x s (ltb-true x 256 p.0) (pass_bytes s p.1)

abbrev pub ByteReads : {A : Type 0} → Reads A → Reads A
ByteReads R x w s = AreBytes s × R x w s

-- results read from bytes have bytes
pub exact_of_bytes : {A : Type 0} {R : Reads A} {S : Stopping} {f : Parser A} → Exact R S f → Exact (ByteReads R) S f
exact_of_bytes ex = record {
  ok = λ p m b x q l c h e. (let t = ex.ok p m b x q l c h e in (t.0, t.1, (front_bytes t.1 c (subst AreBytes t.3 h), t.2), t.3, t.4, t.5));
  again = λ p m x w s c g. ex.again p m x w s c g.1;
  stop = λ p m b e o h k. ex.stop p m b e o h k;
  stops = λ p m b e o k. ex.stops p m b e o k;
}

-- a number built from n bytes
module _ {A : Type 0} (n : ℕ) (number : List ℕ → A) (Is : A → Type 0) (bytes_of : A → List ℕ) (read : (s : List ℕ) → AreBytes s → length s ≡ n → Is (number s) × (s ≡ bytes_of (number s)))
    (written : (x : A) → Is x → AreBytes (bytes_of x) × (length (bytes_of x) ≡ n) × (number (bytes_of x) ≡ x)) where
  abbrev pub WholeReads : Reads A
  WholeReads x w s = Is x × (w ≡ 0) × (s ≡ bytes_of x)

  abbrev Parts : Reads A
  Parts = ThenReads (ByteReads (BytesReads n)) (λ s. GiveReads (number s))

  to : (x : A) (w : ℕ) (s : List ℕ) → Parts x w s → WholeReads x w s
  to x w s (a, v, u, r, t, g, i, e, d) =
      let k = read a (subst AreBytes g.1.2 g.0) g.1.0 in
      subst (λ (y : A). WholeReads y w s) (sym i.0) (k.0, omega (arith, e, g.1.1, i.1), d ∙ ap₂ (λ (y z : List ℕ). y ++ z) g.1.2 i.2 ∙ append-nil a ∙ k.1)

  from : (x : A) (w : ℕ) (s : List ℕ) → WholeReads x w s → Parts x w s
  from x w s g =
      let k = written x g.0 in
      (bytes_of x, 0, 0, bytes_of x, [], (k.0, (k.1, refl, refl)), (sym k.2, refl, refl), g.1, g.2 ∙ sym (append-nil (bytes_of x)))

  on : (p m : ℕ) (b : List ℕ) (e : Reason) (o : ℕ) → ThenStop (ByteReads (BytesReads n)) (BytesStop n) (λ _ _. NoStop) p m b e o
      → BytesStop n p m b e o
  on p m b e o (inl k) = k
  on p m b e o (inr (a, v, r, c, l, g, d, i, k)) = absurd k

  back : (p m : ℕ) (b : List ℕ) (e : Reason) (o : ℕ) → BytesStop n p m b e o
      → ThenStop (ByteReads (BytesReads n)) (BytesStop n) (λ _ _. NoStop) p m b e o
  back p m b e o k = inl k

  pub exact_whole : Exact WholeReads (BytesStop n) (chain (bytes_here n) (λ s. give (number s)))
  exact_whole = exact_same (exact_chain (exact_of_bytes (exact_bytes n)) (λ s v r g. exact_give (number s))) to from on back

abbrev pub UnsignedReads : Width → Reads ℕ
UnsignedReads w x v s = IsUnsigned w x × (v ≡ 0) × (s ≡ le w x)

pub exact_unsigned : (w : Width) → Exact (UnsignedReads w) (BytesStop (byte_len w)) (unsigned_here w)
unfolding unsigned_here
exact_unsigned w = exact_whole (byte_len w) (from_le_bytes w) (IsUnsigned w) (le w) (unsigned_read w) (unsigned_written w)

abbrev pub SignedReads : Width → Reads ℤ
SignedReads w x v s = IsSigned w x × (v ≡ 0) × (s ≡ le_signed w x)

pub exact_signed : (w : Width) → Exact (SignedReads w) (BytesStop (byte_len w)) (signed_here w)
unfolding signed_here
exact_signed w = exact_whole (byte_len w) (signed_number w) (IsSigned w) (le_signed w) (signed_read w) (signed_written w)
