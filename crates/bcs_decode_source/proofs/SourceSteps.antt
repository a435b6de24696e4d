-- Steps over a source, one after another.
use Rattle.bcs_decode_source.proofs.Prelude.{◌≡◌, ℕ, ◌+◌, ◌-◌, ◌≤◌, Bool, true, false, List, ◌++◌, length, take, drop, replicate, length-take, take-take, take_all, length-drop, take-add, Option, Some, None, Result, Ok, Err, refl, sym, ap, subst, ◌∙◌, arith, append_assoc, Consumes, length-replicate, take_at, drop_at, drop-drop, append-nil, Reason, DecodeFault, Stop, ReadFault, OutOfMemory, Progress, Parser, Validates, is_told, rest_of, FindsFault, Sees, Left, Records, Along, AlongMap, Goes, GaveFront, Halts}
use Rattle.std.proofs.lemmas.List.{length-append}

-- ---- one after another

pub front_length : (xs ys : List ℕ) → take (length xs) ys ≡ xs → length xs ≤ length ys
front_length xs ys h = omega (arith, ap length (sym h), length-take (length xs) ys)

front_then : (xs ys zs : List ℕ) → take (length xs) ys ≡ xs → take (length ys) zs ≡ ys → take (length xs) zs ≡ xs
front_then xs ys zs h k =
    let few : length xs ≤ length ys = front_length xs ys h in
    sym (take-take (length xs) (length ys) zs few) ∙ ap (take (length xs)) k ∙ h

pub Along-then : {c d e : Option (List ℕ)} {p q r : Progress} → Along c p d q → Along d q e r → Along c p e r
Along-then {c} {d} {e} {p} {q} {r} h k = record {
  gone = λ b l. k.gone b (h.gone b l);
  later = let x = h.later in let y = k.later in omega arith;
  same = k.same ∙ h.same;
  front = front_then p.kept.items q.kept.items r.kept.items h.front k.front;
  unrecorded = λ no. k.unrecorded (h.same ∙ no) ∙ h.unrecorded no;
  recorded = λ yes b base from l s. k.recorded (h.same ∙ yes) b base from (h.gone b l) (h.recorded yes b base from l s);
}

pub Along-none : (c : Option (List ℕ)) (p : Progress) → Along c p c p
Along-none c p = record {
  gone = λ b l. l;
  later = omega arith;
  same = refl;
  front = take_all (length p.kept.items) p.kept.items (omega arith);
  unrecorded = λ no. refl;
  recorded = λ yes b base from l s. s;
}

-- counts nodes, and reads nothing
pub Along-nodes : (c : Option (List ℕ)) (p : Progress) (m : ℕ) → Along c p c (record p { nodes = m })
Along-nodes c p m = record {
  gone = λ b l. l;
  later = omega arith;
  same = refl;
  front = take_all (length p.kept.items) p.kept.items (omega arith);
  unrecorded = λ no. refl;
  recorded = λ yes b base from l s. record { begun = s.begun; is = s.is };
}

pub Halts-after : (x : DecodeFault) (c d e : Option (List ℕ)) (p q r : Progress) → ((b : List ℕ) → Left b p.place c → Left b q.place d) → p.place ≤ q.place → Halts x d q e r → Halts x c p e r
Halts-after (Stop s) c d e p q r gone later k = (λ b l. k.0 b (gone b l), k.1)
Halts-after ReadFault c d e p q r gone later k = λ b l. (let m = k b (gone b l) in (m.0, (let far = m.1 in omega arith), m.2))
Halts-after OutOfMemory c d e p q r gone later k = λ b l. (let m = k b (gone b l) in (m.0, (let far = m.1 in omega arith), m.2))

pub Halts-then : (x : DecodeFault) (c d e : Option (List ℕ)) (p q r : Progress) → Along c p d q → Halts x d q e r → Halts x c p e r
Halts-then x c d e p q r h k = Halts-after x c d e p q r h.gone h.later k

-- what was skipped is a prefix
pub Along-gave : {c d : Option (List ℕ)} {p q : Progress} → Along c p d q → GaveFront c p d
Along-gave {c} {d} {p} {q} h b l = (q.place, h.later, h.gone b l)

pub Goes-then : {X : Type 0} (r : Result X DecodeFault) (c d e : Option (List ℕ)) (p q s : Progress) → Along c p d q → Goes r d q e s → Goes r c p e s
Goes-then (Ok x) c d e p q s h k = Along-then h k
Goes-then (Err x) c d e p q s h k = Halts-then x c d e p q s h k

-- the first bytes of `kept` are the same through all parts of a map
pub AlongMap-then : (n m : ℕ) (c d e : Option (List ℕ)) (p q r : Progress) → AlongMap n c p d q → n ≡ m → AlongMap m d q e r → AlongMap n c p e r
AlongMap-then n m c d e p q r h same next = record {
  gone = λ b l. next.gone b (h.gone b l);
  later = let x = h.later in let y = next.later in omega arith;
  same = next.same ∙ h.same;
  front = ap (λ i. take i r.kept.items) same ∙ next.front ∙ ap (λ i. take i q.kept.items) (sym same) ∙ h.front;
  recorded = λ yes b base from l s. next.recorded (h.same ∙ yes) b base from (h.gone b l) (h.recorded yes b base from l s);
}

-- a value within a map
pub AlongMap-value : (n : ℕ) (c d : Option (List ℕ)) (p q : Progress) → n ≤ length p.kept.items → Along c p d q → AlongMap n c p d q
AlongMap-value n c d p q few h = record {
  gone = h.gone;
  later = h.later;
  same = h.same;
  front = sym (take-take n (length p.kept.items) q.kept.items few) ∙ ap (take n) h.front;
  recorded = h.recorded;
}

-- a map, after its keys have been dropped
pub Along-map : (c d : Option (List ℕ)) (p q r : Progress) → AlongMap (length p.kept.items) c p d q → r.place ≡ q.place → r.is_in_key ≡ q.is_in_key
    → (q.is_in_key ≡ true → r.kept.items ≡ q.kept.items) → (q.is_in_key ≡ false → r.kept.items ≡ take (length p.kept.items) q.kept.items) → Along c p d r
Along-map c d p q r h place inside stays cut = record {
  gone = λ b l. subst (λ (i : ℕ). Left b i d) (sym place) (h.gone b l);
  later = let x = h.later in omega (arith, place);
  same = inside ∙ h.same;
  front = front_of q.is_in_key refl;
  unrecorded = λ outside. unchanged (h.same ∙ outside);
  recorded = λ yes b base from l s. (let t = h.recorded yes b base from l s in record { begun = let x = t.begun in omega (arith, place); is = stays (h.same ∙ yes) ∙ t.is ∙ ap (λ i. base ++ take (i - from) (drop from b)) (sym place) });
}
  where
    whole : take (length p.kept.items) p.kept.items ≡ p.kept.items
    whole = take_all (length p.kept.items) p.kept.items (omega arith)

    unchanged : q.is_in_key ≡ false → r.kept.items ≡ p.kept.items
    unchanged outside = cut outside ∙ h.front ∙ whole

    front_of : (key : Bool) → q.is_in_key ≡ key → take (length p.kept.items) r.kept.items ≡ p.kept.items
    front_of true within = ap (take (length p.kept.items)) (stays within) ∙ h.front ∙ whole
    front_of false outside = ap (take (length p.kept.items)) (unchanged outside) ∙ whole

-- a key was read, and became the last key
pub AlongMap-key : (n : ℕ) (c d : Option (List ℕ)) (p v q : Progress) → n ≤ length p.kept.items → Along c (record p { is_in_key = true }) d v → q.place ≡ v.place → q.is_in_key ≡ p.is_in_key
    → (p.is_in_key ≡ true → q.kept.items ≡ v.kept.items) → take n q.kept.items ≡ take n v.kept.items → AlongMap n c p d q
AlongMap-key n c d p v q few h place inside stays front = record {
  gone = λ b l. subst (λ (i : ℕ). Left b i d) (sym place) (h.gone b l);
  later = let x = h.later in omega (arith, place);
  same = inside;
  front = front ∙ sym (take-take n (length p.kept.items) v.kept.items few) ∙ ap (take n) h.front;
  recorded = λ yes b base from l s.
      (let start : Records b base from (record p { is_in_key = true }) = record { begun = s.begun; is = s.is } in
      let t = h.recorded refl b base from l start in
      record { begun = let x = t.begun in omega (arith, place); is = stays yes ∙ t.is ∙ ap (λ i. base ++ take (i - from) (drop from b)) (sym place) });
}

-- a stop in a later part is a stop of the whole
pub FindsFault-whole : {A B : Type 0} (x : DecodeFault) (c d : Option (List ℕ)) (p q : Progress) (f : Parser A) (h : Parser B)
    → (is_told c ≡ true → is_told d ≡ true)
    → ((e : Reason) (o : ℕ) → is_told c ≡ true → h q.place q.nodes (rest_of d) ≡ Err (e, o) → f p.place p.nodes (rest_of c) ≡ Err (e, o))
    → FindsFault x d q h → FindsFault x c p f
FindsFault-whole (Stop s) c d p q f h told whole k = λ t. whole s.reason s.place t (k (told t))
FindsFault-whole ReadFault c d p q f h told whole k = tt
FindsFault-whole OutOfMemory c d p q f h told whole k = tt

-- replaces a parser by an equal one
pub Sees-as : {X A : Type 0} (view : X → A) (r : Result X DecodeFault) (c : Option (List ℕ)) (p : Progress) (f h : Parser A) (q : Progress) (d : Option (List ℕ))
    → ((o m : ℕ) (b : List ℕ) → f o m b ≡ h o m b) → Sees view r c p h q d → Sees view r c p f q d
Sees-as view (Ok x) c p f h q d same k = λ told. (same p.place p.nodes (rest_of c) ∙ (k told).0, (k told).1)
Sees-as view (Err (Stop s)) c p f h q d same k = λ told. (same p.place p.nodes (rest_of c) ∙ k told)
Sees-as view (Err ReadFault) c p f h q d same k = tt
Sees-as view (Err OutOfMemory) c p f h q d same k = tt

-- a fault of a check is a fault of the whole
pub FindsFault-validated : {A : Type 0} (x : DecodeFault) (c : Option (List ℕ)) (p : Progress) (f : Parser A) (h : Parser (Unit {0})) (at : ℕ)
    → ((e : Reason) (o : ℕ) → is_told c ≡ true → ((i j : ℕ) (r : List ℕ) → h i j r ≡ Err (e, o)) → f p.place p.nodes (rest_of c) ≡ Err (e, o))
    → Validates (Err x) h at → FindsFault x c p f
FindsFault-validated (Stop s) c p f h at whole k = λ told. whole s.reason s.place told k.1
FindsFault-validated ReadFault c p f h at whole k = absurd k
FindsFault-validated OutOfMemory c p f h at whole k = absurd k

-- ---- bytes that were taken

drop_more : (m n : ℕ) (b x t : List ℕ) → m ≤ length b → drop m b ≡ x ++ t → length x ≡ n → (m + n ≤ length b) × (t ≡ drop (m + n) b) × (x ≡ take n (drop m b))
drop_more m n b x t le h l = (
  omega (arith, ap length h, length-append x t, length-drop m b),
  sym (drop_at x t n l) ∙ ap (drop n) (sym h) ∙ drop-drop n m b,
  sym (take_at x t n l) ∙ ap (take n) (sym h),
)

pub Left-after : (b : List ℕ) (p n : ℕ) (c d : Option (List ℕ)) (x : List ℕ) → Consumes c d x → length x ≡ n → Left b p c → Left b (p + n) d × (x ≡ take n (drop p b))
Left-after b p n None d x h l k = absurd (let e = k.told in cc)
Left-after b p n (Some s) None x h l k = absurd h
Left-after b p n (Some s) (Some t) x h l k =
    let m = drop_more p n b x t k.within (sym k.is ∙ h) l in
    (record { told = refl; within = m.0; is = m.1 }, m.2)

-- the source gave a prefix
pub gave_taken : (c d : Option (List ℕ)) (p : Progress) (x : List ℕ) → Consumes c d x → GaveFront c p d
gave_taken c d p x h b l = (p.place + length x, omega arith, (Left-after b p.place (length x) c d x h refl l).0)

-- the bytes recorded so far, followed by the new ones
Records-after : (b base : List ℕ) (from n : ℕ) (x : List ℕ) (p q : Progress) → x ≡ take n (drop p.place b) → q.place ≡ p.place + n → q.kept.items ≡ p.kept.items ++ x → Records b base from p → Records b base from q
Records-after b base from n x p q is far kept r =
    let begun = r.begun in
    let far_from : q.place - from ≡ (p.place - from) + n = omega arith in
    let start : from + (p.place - from) ≡ p.place = omega arith in
    record {
      begun = omega arith;
      is = kept ∙ ap (λ l. l ++ x) r.is ∙ append_assoc base (take (p.place - from) (drop from b)) x
          ∙ ap (λ l. base ++ l) (
          ap (λ l. take (p.place - from) (drop from b) ++ l) (is ∙ ap (take n) (ap (λ i. drop i b) (sym start) ∙ sym (drop-drop (p.place - from) from b)))
          ∙ sym (take-add (p.place - from) n (drop from b))
          ∙ ap (λ i. take i (drop from b)) (sym far_from));
    }

-- while a key is open, the bytes that were taken are recorded
pub Along-taken : (c d : Option (List ℕ)) (x : List ℕ) (n : ℕ) (p q : Progress) → Consumes c d x → length x ≡ n → q.place ≡ p.place + n → q.is_in_key ≡ p.is_in_key
    → (p.is_in_key ≡ false → q.kept.items ≡ p.kept.items) → (p.is_in_key ≡ true → q.kept.items ≡ p.kept.items ++ x) → Along c p d q
Along-taken c d x n p q h l far same unrecorded recorded = record {
  gone = λ b k. subst (λ (i : ℕ). Left b i d) (sym far) (Left-after b p.place n c d x h l k).0;
  later = omega arith;
  same = same;
  front = front;
  unrecorded = unrecorded;
  recorded = λ yes b base from k r. Records-after b base from n x p q (Left-after b p.place n c d x h l k).1 far (recorded yes) r;
}
  where
    front_of : (inside : Bool) → p.is_in_key ≡ inside → take (length p.kept.items) q.kept.items ≡ p.kept.items
    front_of true h = ap (take (length p.kept.items)) (recorded h) ∙ take_at p.kept.items x (length p.kept.items) refl
    front_of false h = ap (take (length p.kept.items)) (unrecorded h) ∙ take_all (length p.kept.items) p.kept.items (omega arith)

    front : take (length p.kept.items) q.kept.items ≡ p.kept.items
    front = front_of p.is_in_key refl

-- the bytes recorded while a key was read are those that were taken
pub recorded_key : (c d : Option (List ℕ)) (p q : Progress) → is_told c ≡ true → p.is_in_key ≡ true → Along c p d q → drop (length p.kept.items) q.kept.items ≡ take (q.place - p.place) (rest_of c)
recorded_key c d p q told inside h =
    let gap = replicate p.place 0 in
    let b = gap ++ rest_of c in
    let size : length gap ≡ p.place = length-replicate p.place 0 in
    let rest : drop p.place b ≡ rest_of c = drop_at gap (rest_of c) p.place size in
    let left : Left b p.place c = record { told = told; within = omega (arith, size, length-append gap (rest_of c)); is = sym rest } in
    let start : Records b p.kept.items p.place p = record { begun = omega arith; is = sym (ap (λ n. p.kept.items ++ take n (drop p.place b)) (let none : p.place - p.place ≡ 0 = omega arith in none) ∙ append-nil p.kept.items) } in
    let r = h.recorded inside b p.kept.items p.place left start in
    ap (drop (length p.kept.items)) r.is ∙ drop_at p.kept.items (take (q.place - p.place) (drop p.place b)) (length p.kept.items) refl ∙ ap (take (q.place - p.place)) rest
