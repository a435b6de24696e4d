-- A map whose entries are appended one by one: each span is recorded, or each key is above the one before.
use Rattle.bcs_encode_impl.proofs.Prelude.{◌≡◌, ℕ, ◌+◌, ◌≤◌, List, [], ◌∷◌, ◌++◌, length, take, drop, map, Bool, true, inl, inr, Ok, Err, Option, Some, None, refl, sym, ap, ap₂, subst, ◌∙◌, append_assoc, append-nil, length-append, arith, Result, flat_map, and_parts, and_from, drop-append_seam, take-append_seam, IsPermutation-refl, Entries, Content, of, Shape, Tree, Pairs, no_pairs, pair, Entry, entry_bytes, part, span, span_entry, is_below, keys_rise, Verdict, chain, entries_written, sorted_entries_written, written, Span, EncodeFault, RepeatedKey, HeldBytes, Appends, Keeps, is_told, is_complete, rises_after, told, Output, Extent, Rising, Sorting, Repeated, Incomplete}
use Rattle.bcs_encode_impl.proofs.EntryArranging.{keys_rise_up, sorted_written}
use Rattle.bcs_encode_impl.proofs.LayingLaws.{after, part_between, spans_entries, spans_from, spans_within, written_behind}
use Rattle.bcs_encode_impl.proofs.AppendsLaws.{is_whole_told, repeated_told, same_whole, told_cases, whole_told}

-- ---- the span of one more entry

abbrev pub last_of : List Span → Option Span
last_of [] = None
last_of (z ∷ []) = Some z
last_of (z ∷ y ∷ zs) = last_of (y ∷ zs)

last_pushed : (zs : List Span) (z : Span) → last_of (zs ++ (z ∷ [])) ≡ Some z
last_pushed [] z = refl
last_pushed (y ∷ []) z = refl
last_pushed (y ∷ x ∷ zs) z = last_pushed (x ∷ zs) z

spans_pushed : (n : ℕ) (es : List Entry) (a w : List ℕ)
    → spans_from n (es ++ ((a, w) ∷ [])) ≡ spans_from n es ++ (span (n + length (flat_map entry_bytes es)) ((n + length (flat_map entry_bytes es)) + length a) (((n + length (flat_map entry_bytes es)) + length a) + length w) ∷ [])
spans_pushed n [] a w =
    let same : n ≡ n + 0 = omega arith in
    ap (λ (k : ℕ). span k (k + length a) ((k + length a) + length w) ∷ []) same
spans_pushed n (e ∷ es) a w =
    let m : ℕ = (n + length e.0) + length e.1 in
    let same : m + length (flat_map entry_bytes es) ≡ n + length ((e.0 ++ e.1) ++ flat_map entry_bytes es) =
    omega (arith, length-append (e.0 ++ e.1) (flat_map entry_bytes es), length-append e.0 e.1) in
    ap (λ (zs : List Span). span n (n + length e.0) m ∷ zs) (spans_pushed m es a w)
    ∙ ap (λ (k : ℕ). span n (n + length e.0) m ∷ (spans_from m es ++ (span k (k + length a) ((k + length a) + length w) ∷ []))) same

flat_pushed : (es : List Entry) (a w : List ℕ) → flat_map entry_bytes (es ++ ((a, w) ∷ [])) ≡ flat_map entry_bytes es ++ (a ++ w)
flat_pushed [] a w = append-nil (a ++ w)
flat_pushed (e ∷ es) a w = ap (λ (x : List ℕ). (e.0 ++ e.1) ++ x) (flat_pushed es a w) ∙ sym (append_assoc (e.0 ++ e.1) (flat_map entry_bytes es) (a ++ w))

-- ---- ascending keys

abbrev above : List Entry → Entry → Bool
above [] x = true
above (e ∷ []) x = is_below e.0 x.0
above (e ∷ d ∷ es) x = above (d ∷ es) x

rise_pushed : (es : List Entry) (x : Entry) → keys_rise es ≡ true → above es x ≡ true → keys_rise (es ++ (x ∷ [])) ≡ true
rise_pushed [] x up next = refl
rise_pushed (e ∷ []) x up next = and_from (is_below e.0 x.0) true next refl
rise_pushed (e ∷ d ∷ es) x up next =
    let p = and_parts (is_below e.0 d.0) (keys_rise (d ∷ es)) up in
    and_from (is_below e.0 d.0) (keys_rise (d ∷ (es ++ (x ∷ [])))) p.0 (rise_pushed (d ∷ es) x p.1 next)

rises_above : (bytes : List ℕ) (zs : List Span) (z : Span) → rises_after bytes (last_of zs) z ≡ above (map (span_entry bytes) zs) (span_entry bytes z)
rises_above bytes [] z = refl
rises_above bytes (y ∷ []) z = refl
rises_above bytes (y ∷ x ∷ zs) z = rises_above bytes (x ∷ zs) z

above_key : (es : List Entry) (x y : Entry) → x.0 ≡ y.0 → above es x ≡ above es y
above_key [] x y same = refl
above_key (e ∷ []) x y same = ap (is_below e.0) same
above_key (e ∷ d ∷ es) x y same = above_key (d ∷ es) x y same

-- ---- one more entry

record Grown (registry : Entries) (t : Tree) (f : Content) (b c : List ℕ) : Type 0 where
  own : List ℕ
  alone : written registry t f [] ≡ Ok own
  bytes : c ≡ b ++ own

grown : (registry : Entries) (t : Tree) (f : Content) (b c : List ℕ) → written registry t f b ≡ Ok c → Grown registry t f b c
grown registry t f b c h = found (written registry t f []) refl (sym (written_behind registry t f b) ∙ h)
  where
    found : (v : Verdict) → written registry t f [] ≡ v → after b v ≡ Ok c → Grown registry t f b c
    found (Ok a) is e = record { own = a; alone = is; bytes = cc }
    found (Err k) is e = absurd cc

one_entry : (registry : Entries) (k v : Shape) (l w : Tree) (ps : Pairs) (es : List Entry) (a c : List ℕ) → written registry l (of k) [] ≡ Ok a → written registry w (of v) [] ≡ Ok c
    → entries_written registry (pair l w ps) k v es ≡ entries_written registry ps k v (es ++ ((a, c) ∷ []))
one_entry registry k v l w ps es a c key value =
    ap (λ (u : Verdict). chain u (λ x. chain (written registry w (of v) []) (λ y. entries_written registry ps k v (es ++ ((x, y) ∷ []))))) key
    ∙ ap (λ (u : Verdict). chain u (λ y. entries_written registry ps k v (es ++ ((a, y) ∷ [])))) value

no_entry : (registry : Entries) (k v : Shape) (l w : Tree) (ps : Pairs) (es : List Entry) (b : List ℕ) (e : EncodeFault) → chain (written registry l (of k) b) (written registry w (of v)) ≡ Err e
    → entries_written registry (pair l w ps) k v es ≡ Err e
no_entry registry k v l w ps es b e h = first (written registry l (of k) []) refl (ap (λ (u : Verdict). chain u (written registry w (of v))) (sym (written_behind registry l (of k) b)) ∙ h)
  where
    second : (a : List ℕ) (y : Verdict) → written registry w (of v) [] ≡ y → after (b ++ a) y ≡ Err e → written registry l (of k) [] ≡ Ok a → entries_written registry (pair l w ps) k v es ≡ Err e
    second a (Ok c) is g key = absurd cc
    second a (Err f) is g key =
        let same : f ≡ e = cc in
        ap (λ (u : Verdict). chain u (λ x. chain (written registry w (of v) []) (λ y. entries_written registry ps k v (es ++ ((x, y) ∷ []))))) key
        ∙ ap (λ (u : Verdict). chain u (λ y. entries_written registry ps k v (es ++ ((a, y) ∷ [])))) is
        ∙ ap (λ (f : EncodeFault). Err f) same

    first : (x : Verdict) → written registry l (of k) [] ≡ x → chain (after b x) (written registry w (of v)) ≡ Err e → entries_written registry (pair l w ps) k v es ≡ Err e
    first (Ok a) is g = second a (written registry w (of v) []) refl (sym (written_behind registry w (of v) (b ++ a)) ∙ g) is
    first (Err f) is g =
        let same : f ≡ e = cc in
        ap (λ (u : Verdict). chain u (λ x. chain (written registry w (of v) []) (λ y. entries_written registry ps k v (es ++ ((x, y) ∷ []))))) is
        ∙ ap (λ (f : EncodeFault). Err f) same

-- ---- the entries so far

-- what is written for a map after its length
abbrev pub pairs_written : Entries → Pairs → Shape → Shape → List ℕ → Verdict
pairs_written registry ps k v c = chain (entries_written registry ps k v []) (λ es. sorted_entries_written es c)

pub record Entered (registry : Entries) (k v : Shape) (all rest : Pairs) (first now : Output) (before : Option Span) : Type 0 where
  pub es : List Entry
  pub own : entries_written registry all k v [] ≡ entries_written registry rest k v es
  pub bytes : now.bytes.items ≡ first.bytes.items ++ flat_map entry_bytes es
  pub last : before ≡ last_of (spans_from (length first.bytes.items) es)
  pub noted : now.extent ≡ Sorting → now.spans.items ≡ first.spans.items ++ spans_from (length first.bytes.items) es
  pub rising : now.extent ≡ Rising → (now.spans.items ≡ first.spans.items) × (keys_rise es ≡ true)

-- if the output is complete or has found a repeated key: the entries before `rest` follow the bytes of `first`, or the
-- map does repeat a key
abbrev pub Enters : Entries → Shape → Shape → Pairs → Pairs → Output → Output → Option Span → Type 0
Enters registry k v all rest first now before = is_told now.extent ≡ true
    → (is_told first.extent ≡ true)
    × ((is_complete now.extent ≡ true → (now.extent ≡ first.extent) × Entered registry k v all rest first now before)
    × (now.extent ≡ Repeated → chain (told first) (pairs_written registry all k v) ≡ Err RepeatedKey))

pub at_first : (registry : Entries) (k v : Shape) (all : Pairs) (first : Output) → Enters registry k v all all first first None
at_first registry k v all first = λ is. (
  is,
  (
    λ _. (
      refl,
      record {
        es = [];
        own = refl;
        bytes = sym (append-nil first.bytes.items);
        last = refl;
        noted = λ _. sym (append-nil first.spans.items);
        rising = λ _. (refl, refl);
      },
    ),
    λ repeated. ap (λ (u : Verdict). chain u (pairs_written registry all k v)) (repeated_told first repeated),
  ),
)

-- the contract of `end_entry`
abbrev pub Ended : Output → Output → Option Span → Span → Type 0
Ended old new before z = is_told new.extent ≡ true → (new.extent ≡ old.extent) × (new.bytes ≡ old.bytes)
    × (old.extent ≡ Sorting → new.spans.items ≡ old.spans.items ++ (z ∷ []))
    × (old.extent ≡ Rising → (new.spans.items ≡ old.spans.items) × (rises_after old.bytes.items before z ≡ true))

module _ (registry : Entries) (k v : Shape) (all : Pairs) (l w : Tree) (ps : Pairs) (first o p q r : Output) (before : Option Span) where
  -- the span of the entry
  abbrev entry : Span
  entry = span (length o.bytes.items) (length p.bytes.items) (length q.bytes.items)

  -- the whole entry has been appended
  grows : (x : Entered registry k v all (pair l w ps) first o before) → o.extent ≡ first.extent → written registry l (of k) o.bytes.items ≡ Ok p.bytes.items → written registry w (of v) p.bytes.items ≡ Ok q.bytes.items
      → q.extent ≡ o.extent → q.spans.items ≡ o.spans.items → r.extent ≡ q.extent → r.bytes ≡ q.bytes
      → (q.extent ≡ Sorting → r.spans.items ≡ q.spans.items ++ (entry ∷ []))
      → (q.extent ≡ Rising → (r.spans.items ≡ q.spans.items) × (rises_after q.bytes.items before entry ≡ true))
      → Entered registry k v all ps first r (Some entry)
  grows x from key value ext spans rext rbytes sorts rises =
      let a = grown registry l (of k) o.bytes.items p.bytes.items key in
      let c = grown registry w (of v) p.bytes.items q.bytes.items value in
      let fs : List Entry = x.es ++ ((a.own, c.own) ∷ []) in
      let flat : List ℕ = flat_map entry_bytes x.es in
      let n : ℕ = length first.bytes.items in
      let whole : q.bytes.items ≡ o.bytes.items ++ (a.own ++ c.own) = c.bytes ∙ ap (λ (b : List ℕ). b ++ c.own) a.bytes ∙ append_assoc o.bytes.items a.own c.own in
      let behind : q.bytes.items ≡ first.bytes.items ++ (flat ++ (a.own ++ c.own)) = whole ∙ ap (λ (b : List ℕ). b ++ (a.own ++ c.own)) x.bytes ∙ append_assoc first.bytes.items flat (a.own ++ c.own) in
      let start : length o.bytes.items ≡ n + length flat = ap length x.bytes ∙ length-append first.bytes.items flat in
      let middle : length p.bytes.items ≡ (n + length flat) + length a.own = ap length a.bytes ∙ length-append o.bytes.items a.own ∙ ap (λ (i : ℕ). i + length a.own) start in
      let end : length q.bytes.items ≡ ((n + length flat) + length a.own) + length c.own = ap length c.bytes ∙ length-append p.bytes.items c.own ∙ ap (λ (i : ℕ). i + length c.own) middle in
      let entry_is : span (n + length flat) ((n + length flat) + length a.own) (((n + length flat) + length a.own) + length c.own) ≡ entry =
      ap₂ (λ (i j : ℕ). span i j (((n + length flat) + length a.own) + length c.own)) (sym start) (sym middle) ∙ ap (λ (i : ℕ). span (length o.bytes.items) (length p.bytes.items) i) (sym end) in
      let more : spans_from n fs ≡ spans_from n x.es ++ (entry ∷ []) = spans_pushed n x.es a.own c.own ∙ ap (λ (z : Span). spans_from n x.es ++ (z ∷ [])) entry_is in
      let up : q.extent ≡ Rising → keys_rise fs ≡ true = λ (is : q.extent ≡ Rising).
      let others : map (span_entry q.bytes.items) (spans_from n x.es) ≡ x.es =
      ap (λ (b : List ℕ). map (span_entry b) (spans_from n x.es)) behind ∙ spans_within x.es first.bytes.items (a.own ++ c.own) in
      let length_is : length p.bytes.items ≡ length o.bytes.items + length a.own = ap length a.bytes ∙ length-append o.bytes.items a.own in
      let key_is : part q.bytes.items (length o.bytes.items) (length p.bytes.items) ≡ a.own =
      ap₂ (λ (b : List ℕ) (i : ℕ). part b (length o.bytes.items) i) whole length_is ∙ part_between o.bytes.items a.own c.own in
      rise_pushed x.es (a.own, c.own) (x.rising (sym ext ∙ is)).1
      (above_key x.es (a.own, c.own) (span_entry q.bytes.items entry) (sym key_is)
      ∙ ap (λ (es : List Entry). above es (span_entry q.bytes.items entry)) (sym others)
      ∙ sym (rises_above q.bytes.items (spans_from n x.es) entry)
      ∙ ap (λ (z : Option Span). rises_after q.bytes.items z entry) (sym x.last)
      ∙ (rises is).1) in
      record {
        es = fs;
        own = x.own ∙ one_entry registry k v l w ps x.es a.own c.own a.alone c.alone;
        bytes = ap (λ (h : HeldBytes). h.items) rbytes ∙ behind ∙ ap (λ (b : List ℕ). first.bytes.items ++ b) (sym (flat_pushed x.es a.own c.own));
        last = sym (ap last_of more ∙ last_pushed (spans_from n x.es) entry);
        noted = λ is. sorts (sym rext ∙ is) ∙ ap (λ (zs : List Span). zs ++ (entry ∷ [])) (spans ∙ x.noted (sym ext ∙ sym rext ∙ is))
            ∙ append_assoc first.spans.items (spans_from n x.es) (entry ∷ []) ∙ ap (λ (zs : List Span). first.spans.items ++ zs) (sym more);
        rising = λ is. ((rises (sym rext ∙ is)).0 ∙ spans ∙ (x.rising (sym ext ∙ sym rext ∙ is)).0, up (sym rext ∙ is));
      }

  pub one_more : Enters registry k v all (pair l w ps) first o before → Appends o p (written registry l (of k)) → Appends p q (written registry w (of v)) → Ended q r before entry
      → Enters registry k v all ps first r (Some entry)
  one_more h f g e = λ is.
      let d = e is in
      let at_q : is_told q.extent ≡ true = subst (λ (x : Extent). is_told x ≡ true) d.0 is in
      let second = g at_q in
      let one = f second.1.0 in
      let x = h one.1.0 in (
        x.0,
        (
          λ whole.
              let q_whole = same_whole r.extent q.extent d.0 whole in
              let by_second = second.1.1 q_whole in
              let p_whole = same_whole q.extent p.extent by_second.0 q_whole in
              let by_first = one.1.1 p_whole in
              let o_whole = same_whole p.extent o.extent by_first.0 p_whole in
              let t = x.1.0 o_whole in
              let key : written registry l (of k) o.bytes.items ≡ Ok p.bytes.items =
              ap (λ (u : Verdict). chain u (written registry l (of k))) (sym (whole_told o o_whole)) ∙ one.0 ∙ whole_told p p_whole in
              let value : written registry w (of v) p.bytes.items ≡ Ok q.bytes.items =
              ap (λ (u : Verdict). chain u (written registry w (of v))) (sym (whole_told p p_whole)) ∙ second.0 ∙ whole_told q q_whole in
              (d.0 ∙ by_second.0 ∙ by_first.0 ∙ t.0, grows t.1 t.0 key value (by_second.0 ∙ by_first.0) (by_second.1 ∙ by_first.1) d.0 d.1 d.2 d.3),
          λ repeated.
              let ends : chain (chain (told o) (written registry l (of k))) (written registry w (of v)) ≡ Err RepeatedKey =
              ap (λ (u : Verdict). chain u (written registry w (of v))) one.0 ∙ second.0 ∙ repeated_told q (sym d.0 ∙ repeated) in
              elim (told_cases o.extent one.1.0) [
                | inr again ↦ x.1.1 again
                | inl o_whole ↦
                    let t = x.1.0 o_whole in
                    let first_whole = same_whole o.extent first.extent t.0 o_whole in
                    let none = no_entry registry k v l w ps t.1.es o.bytes.items RepeatedKey
                    (ap (λ (u : Verdict). chain (chain u (written registry l (of k))) (written registry w (of v))) (sym (whole_told o o_whole)) ∙ ends) in
                    ap (λ (u : Verdict). chain u (pairs_written registry all k v)) (whole_told first first_whole)
                    ∙ ap (λ (u : Result (List Entry) EncodeFault). chain u (λ es. sorted_entries_written es first.bytes.items)) (t.1.own ∙ none)
              ],
        ),
      )

-- ---- the end of the map

module _ (registry : Entries) (k v : Shape) (all : Pairs) (first now : Output) (before : Option Span) where
  module _ (n start : ℕ) (n_is : n ≡ length first.spans.items) (start_is : start ≡ length first.bytes.items) (h : Enters registry k v all no_pairs first now before) where
    record Sorted (es : List Entry) : Type 0 where
      spans : drop n now.spans.items ≡ spans_from (length first.bytes.items) es
      below : take n now.spans.items ≡ first.spans.items
      long : n ≤ length now.spans.items
      front : take start now.bytes.items ≡ first.bytes.items
      entries : map (span_entry now.bytes.items) (drop n now.spans.items) ≡ es

    entered_at : is_complete now.extent ≡ true → (now.extent ≡ first.extent) × Entered registry k v all no_pairs first now before
    entered_at whole = (h (is_whole_told now whole)).1.0 whole

    sorted_at : (x : Entered registry k v all no_pairs first now before) → now.extent ≡ Sorting → Sorted x.es
    sorted_at x is =
        let zs : List Span = spans_from (length first.bytes.items) x.es in
        let noted = x.noted is in
        let spans : drop n now.spans.items ≡ zs = ap₂ (λ (i : ℕ) (ys : List Span). drop i ys) n_is noted ∙ drop-append_seam first.spans.items zs in
        record {
          spans = spans;
          below = ap₂ (λ (i : ℕ) (ys : List Span). take i ys) n_is noted ∙ take-append_seam first.spans.items zs;
          long = omega (arith, n_is, ap length noted, length-append first.spans.items zs);
          front = ap₂ (λ (i : ℕ) (b : List ℕ). take i b) start_is x.bytes ∙ take-append_seam first.bytes.items (flat_map entry_bytes x.es);
          entries = ap₂ (λ (b : List ℕ) (ys : List Span). map (span_entry b) ys) x.bytes spans ∙ spans_entries x.es first.bytes.items;
        }

    sorting_is_whole : now.extent ≡ Sorting → is_complete now.extent ≡ true
    sorting_is_whole is = same_whole Sorting now.extent (sym is) refl

    pub spans_stand : now.extent ≡ Sorting → n ≤ length now.spans.items
    spans_stand is = (sorted_at (entered_at (sorting_is_whole is)).1 is).long

    pub bytes_stand : now.extent ≡ Sorting → take start now.bytes.items ++ flat_map entry_bytes (map (span_entry now.bytes.items) (drop n now.spans.items)) ≡ now.bytes.items
    bytes_stand is =
        let x = (entered_at (sorting_is_whole is)).1 in
        let s = sorted_at x is in
        ap₂ (λ (b : List ℕ) (es : List Entry). b ++ flat_map entry_bytes es) s.front s.entries ∙ sym x.bytes

    pub bytes_fill : now.extent ≡ Sorting → start + length (flat_map entry_bytes (map (span_entry now.bytes.items) (drop n now.spans.items))) ≡ length now.bytes.items
    bytes_fill is =
        let x = (entered_at (sorting_is_whole is)).1 in
        let s = sorted_at x is in
        ap₂ (λ (i : ℕ) (es : List Entry). i + length (flat_map entry_bytes es)) start_is s.entries
        ∙ sym (ap length x.bytes ∙ length-append first.bytes.items (flat_map entry_bytes x.es))

    pub map_ends : (new : Output)
        → (now.extent ≡ Sorting → is_told new.extent ≡ true
        → (told new ≡ sorted_entries_written (map (span_entry now.bytes.items) (drop n now.spans.items)) (take start now.bytes.items))
        × (is_complete new.extent ≡ true → (new.extent ≡ Sorting) × (new.spans.items ≡ take n now.spans.items)))
        → ((now.extent ≡ Sorting → ⊥) → (new.extent ≡ now.extent) × (new.bytes ≡ now.bytes) × (new.spans.items ≡ now.spans.items))
        → Appends first new (pairs_written registry all k v)
    map_ends new sorts others = λ is. by now.extent refl is
      where
        written_is : (x : Entered registry k v all no_pairs first now before) → is_complete first.extent ≡ true → chain (told first) (pairs_written registry all k v) ≡ sorted_entries_written x.es first.bytes.items
        written_is x whole =
            ap (λ (u : Verdict). chain u (pairs_written registry all k v)) (whole_told first whole)
            ∙ ap (λ (u : Result (List Entry) EncodeFault). chain u (λ es. sorted_entries_written es first.bytes.items)) x.own

        by : (x : Extent) → now.extent ≡ x → is_told new.extent ≡ true → (chain (told first) (pairs_written registry all k v) ≡ told new) × Keeps first new
        by Sorting ext is =
            let t = entered_at (sorting_is_whole ext) in
            let s = sorted_at t.1 ext in
            let d = sorts ext is in (
              written_is t.1 (same_whole now.extent first.extent t.0 (sorting_is_whole ext))
                  ∙ sym (ap₂ (λ (es : List Entry) (b : List ℕ). sorted_entries_written es b) s.entries s.front) ∙ sym d.0,
              ((h (is_whole_told now (sorting_is_whole ext))).0, λ whole. let e = d.1 whole in (e.0 ∙ sym ext ∙ t.0, e.1 ∙ s.below)),
            )
        by Rising ext is =
            let now_whole : is_complete now.extent ≡ true = same_whole Rising now.extent (sym ext) refl in
            let t = entered_at now_whole in
            let x = t.1 in
            let up = x.rising ext in
            let d = others (λ (e : now.extent ≡ Sorting). let bad : Rising ≡ Sorting = sym ext ∙ e in absurd cc) in
            let new_whole : is_complete new.extent ≡ true = same_whole now.extent new.extent (sym d.0) now_whole in (
              written_is x (same_whole now.extent first.extent t.0 now_whole)
                  ∙ sorted_written x.es x.es first.bytes.items (IsPermutation-refl x.es) (keys_rise_up x.es up.1)
                  ∙ ap (λ (b : List ℕ). Ok b) (sym x.bytes ∙ sym (ap (λ (h : HeldBytes). h.items) d.1)) ∙ sym (whole_told new new_whole),
              ((h (is_whole_told now now_whole)).0, λ whole. (d.0 ∙ t.0, d.2 ∙ up.0)),
            )
        by Repeated ext is =
            let now_told : is_told now.extent ≡ true = subst (λ (x : Extent). is_told x ≡ true) (sym ext) refl in
            let t = h now_told in
            let d = others (λ (e : now.extent ≡ Sorting). let bad : Repeated ≡ Sorting = sym ext ∙ e in absurd cc) in (
              t.1.1 ext ∙ sym (repeated_told new (d.0 ∙ ext)),
              (t.0, λ whole. let bad : is_complete Repeated ≡ true = same_whole new.extent Repeated (d.0 ∙ ext) whole in absurd cc),
            )
        by Incomplete ext is =
            let d = others (λ (e : now.extent ≡ Sorting). let bad : Incomplete ≡ Sorting = sym ext ∙ e in absurd cc) in
            let bad : is_told Incomplete ≡ true = subst (λ (x : Extent). is_told x ≡ true) (d.0 ∙ ext) is in
            absurd cc
