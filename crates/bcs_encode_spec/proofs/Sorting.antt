-- What an encoder must show if it sorts the entries of a map by the bytes of their keys.
use Rattle.bcs_encode_spec.proofs.Prelude.{◌≡◌, ℕ, suc, ◌+◌, ◌≤◌, Bool, true, false, not, ◌&&◌, List, [], ◌∷◌, ◌++◌, map, refl, sym, ap, ap₂, subst, ◌∙◌, append_assoc, get_or, arith, inl, inr, ◌⊎◌, sum_by, flat_map, IsPermutation, IsSortedBy, IsSortedByKey, IsStrictWeakOrder, Called, ComparesAs, Bor, Mut, always_returns_same, nat_cmp, is_lt, Ordering, Less, Equal, Greater, slice_cmp, nat_list_cmp_total, and_parts, and_from, cases_Bool, false_from_ne_true, IsPermutation-sym, ranks_by, sum_by-cons, uleb, Shape, Entries, Content, of, Tree, pairs, Pairs, no_pairs, pair, fits, pairs_fit, same, all_pairs, distinct, pairs_distinct, same-sym, same-trans, plain, plain_pairs, Rises, RisesFrom, EncodesWithoutLimits, Entry, entry_bytes, EntriesOf, EntriesRiseFrom, EntriesRise, HasEqualNeighbours, SortedEntries, EqualNeighboursRepeat}
use Rattle.bcs_registry_model.specs.Shape as shape
use Rattle.bcs_encode_spec.proofs.BelowLaws.{order, not_below}
use Rattle.bcs_encode_spec.proofs.EntryOrder.{one, one_same, Once, rising_once, equal_neighbours_twice, once_moved, In, moved, rising_alike}
use Rattle.bcs_encode_spec.proofs.UniqueForms.{canonical_same}
use Rattle.bcs_encode_spec.proofs.CanonicalForm.{form_of, pairs_form, place, insert}
use Rattle.bcs_encode_spec.proofs.FormOf.{insert_fold, same-form_of, fits-form_of, pair_count-pairs_form, form_is_canonical, pairs_form_is_canonical}
use Rattle.bcs_encode_spec.proofs.FormLaws.{form_of_is_form, form_is_form_of}

module _ (registry : Entries) where
  -- the encoded entries, in the given order
  abbrev written : Pairs → Shape → Shape → List Entry
  written no_pairs f g = []
  written (pair k v ps) f g = (plain registry k (of f), plain registry v (of g)) ∷ written ps f g

  -- the encoded entries of the canonical forms of keys and values, in the order of the pairs
  abbrev pub form_entries : Pairs → Shape → Shape → List Entry
  form_entries no_pairs f g = []
  form_entries (pair k v ps) f g = (plain registry (form_of registry k (of f)) (of f), plain registry (form_of registry v (of g)) (of g)) ∷ form_entries ps f g

  written_bytes : (ps : Pairs) (f g : Shape) → flat_map entry_bytes (written ps f g) ≡ plain_pairs registry ps f g
  written_bytes no_pairs f g = refl
  written_bytes (pair k v ps) f g =
      append_assoc (plain registry k (of f)) (plain registry v (of g)) (flat_map entry_bytes (written ps f g))
      ∙ ap (λ (x : List ℕ). plain registry k (of f) ++ (plain registry v (of g) ++ x)) (written_bytes ps f g)

  written_rise_from : (ps : Pairs) (b : List ℕ) (f g : Shape) → RisesFrom registry b ps f → EntriesRiseFrom b (written ps f g)
  written_rise_from no_pairs b f g h = tt
  written_rise_from (pair k v ps) b f g h = (h.0, written_rise_from ps (plain registry k (of f)) f g h.1)

  written_rise : (ps : Pairs) (f g : Shape) → Rises registry ps f → EntriesRise (written ps f g)
  written_rise no_pairs f g h = tt
  written_rise (pair k v ps) f g h = written_rise_from ps (plain registry k (of f)) f g h

  -- how often a key occurs, before and after sorting
  counted : (b : List ℕ) (ps : Pairs) (f g : Shape) → sum_by (one b) (written (pairs_form registry ps f g) f g) ≡ sum_by (one b) (form_entries ps f g)
  counted b no_pairs f g = refl
  counted b (pair k v ps) f g =
      insert_fold registry (λ qs. sum_by (one b) (written qs f g)) (λ l w x. one b (plain registry l (of f), plain registry w (of g)) + x)
      (λ l w qs. sum_by-cons (one b) (plain registry l (of f), plain registry w (of g)) (written qs f g))
      (λ l w m x y. omega arith)
      f (form_of registry k (of f)) (form_of registry v (of g)) (pairs_form registry ps f g)
      ∙ sum_by-cons (one b) (plain registry (form_of registry k (of f)) (of f), plain registry (form_of registry v (of g)) (of g)) (written (pairs_form registry ps f g) f g)
      ∙ ap (λ (x : ℕ). one b (plain registry (form_of registry k (of f)) (of f), plain registry (form_of registry v (of g)) (of g)) + x) (counted b ps f g)
      ∙ sym (sum_by-cons (one b) (plain registry (form_of registry k (of f)) (of f), plain registry (form_of registry v (of g)) (of g)) (form_entries ps f g))

  -- ---- the same entries, before and after sorting
  in_insert : (e : Entry) (f g : Shape) (k v : Tree) (ps : Pairs) → In e (written (insert registry f k v ps) f g) → In e (written (pair k v ps) f g)
  in_insert e f g k v no_pairs h = h
  in_insert e f g k v (pair l w ps) h = placed (slice_cmp nat_cmp (plain registry k (of f)) (plain registry l (of f))) (λ m. in_insert e f g k v ps m) h
    where
      placed : (d : Ordering) → (In e (written (insert registry f k v ps) f g) → In e (written (pair k v ps) f g))
          → In e (written (place d k v l w ps (insert registry f k v ps)) f g) → In e (written (pair k v (pair l w ps)) f g)
      placed Equal next m = m
      placed Less next m = m
      placed Greater next (inl is) = inr (inl is)
      placed Greater next (inr m) = elim (next m) [ inl is ↦ inl is | inr k ↦ inr (inr k) ]

  into_insert : (e : Entry) (f g : Shape) (k v : Tree) (ps : Pairs) → In e (written (pair k v ps) f g) → In e (written (insert registry f k v ps) f g)
  into_insert e f g k v no_pairs h = h
  into_insert e f g k v (pair l w ps) h = placed (slice_cmp nat_cmp (plain registry k (of f)) (plain registry l (of f))) (λ m. into_insert e f g k v ps m) h
    where
      placed : (d : Ordering) → (In e (written (pair k v ps) f g) → In e (written (insert registry f k v ps) f g))
          → In e (written (pair k v (pair l w ps)) f g) → In e (written (place d k v l w ps (insert registry f k v ps)) f g)
      placed Equal next m = m
      placed Less next m = m
      placed Greater next (inl is) = inr (next (inl is))
      placed Greater next (inr (inl is)) = inl is
      placed Greater next (inr (inr m)) = inr (next (inr m))

  in_pairs_form : (e : Entry) (ps : Pairs) (f g : Shape) → In e (written (pairs_form registry ps f g) f g) → In e (form_entries ps f g)
  in_pairs_form e no_pairs f g h = h
  in_pairs_form e (pair k v ps) f g h =
      elim (in_insert e f g (form_of registry k (of f)) (form_of registry v (of g)) (pairs_form registry ps f g) h) [ inl is ↦ inl is | inr m ↦ inr (in_pairs_form e ps f g m) ]

  into_pairs_form : (e : Entry) (ps : Pairs) (f g : Shape) → In e (form_entries ps f g) → In e (written (pairs_form registry ps f g) f g)
  into_pairs_form e no_pairs f g h = h
  into_pairs_form e (pair k v ps) f g (inl is) = into_insert e f g (form_of registry k (of f)) (form_of registry v (of g)) (pairs_form registry ps f g) (inl is)
  into_pairs_form e (pair k v ps) f g (inr m) = into_insert e f g (form_of registry k (of f)) (form_of registry v (of g)) (pairs_form registry ps f g) (inr (into_pairs_form e ps f g m))

  -- ---- distinct keys, and encoded keys that occur once
  distinct_once : (ps : Pairs) (f g : Shape) → pairs_fit false registry ps f g ≡ true → pairs_distinct ps ≡ true → Once (form_entries ps f g)
  unfolding Once
  distinct_once ps f g h d = λ b.
      let k : sum_by (one b) (written (pairs_form registry ps f g) f g) ≤ 1 =
      rising_once (written (pairs_form registry ps f g) f g) (written_rise (pairs_form registry ps f g) f g (pairs_form_is_canonical registry ps f g h d).0) b in
      let e : sum_by (one b) (written (pairs_form registry ps f g) f g) ≡ sum_by (one b) (form_entries ps f g) = counted b ps f g in
      omega arith

  unlike : (k : Tree) (ps : Pairs) (f g : Shape) → fits false registry k (of f) ≡ true → distinct k ≡ true → pairs_fit false registry ps f g ≡ true
      → all_pairs (λ l w. distinct l && distinct w) ps ≡ true
      → sum_by (one (plain registry (form_of registry k (of f)) (of f))) (form_entries ps f g) ≡ 0 → all_pairs (λ l w. not (same k l)) ps ≡ true
  unlike k no_pairs f g h d j p n = refl
  unlike k (pair l w ps) f g h d j p n =
      let b : List ℕ = plain registry (form_of registry k (of f)) (of f) in
      let c : List ℕ = plain registry (form_of registry l (of f)) (of f) in
      let s : sum_by (one b) (form_entries (pair l w ps) f g) ≡ one b (c, plain registry (form_of registry w (of g)) (of g)) + sum_by (one b) (form_entries ps f g) = sum_by-cons (one b) (c, plain registry (form_of registry w (of g)) (of g)) (form_entries ps f g) in
      let here : one b (c, plain registry (form_of registry w (of g)) (of g)) ≡ 0 = omega arith in
      let there : sum_by (one b) (form_entries ps f g) ≡ 0 = omega arith in
      let js = and_parts (fits false registry l (of f) && fits false registry w (of g)) (pairs_fit false registry ps f g) j in
      let ja = and_parts (fits false registry l (of f)) (fits false registry w (of g)) js.0 in
      let q = and_parts (distinct l && distinct w) (all_pairs (λ l w. distinct l && distinct w) ps) p in
      let qa = and_parts (distinct l) (distinct w) q.0 in
      and_from _ _
      (elim (cases_Bool (same k l)) [
        | inl is ↦
            (let f1 : fits false registry (form_of registry k (of f)) (of f) ≡ true = fits-form_of registry k (of f) ∙ h in
            let f2 : fits false registry (form_of registry l (of f)) (of f) ≡ true = fits-form_of registry l (of f) ∙ ja.0 in
            let s1 = same-trans (form_of registry k (of f)) k (form_of registry l (of f)) (same-sym (form_of registry k (of f)) k ∙ same-form_of registry k (of f)) (same-trans k l (form_of registry l (of f)) is (same-form_of registry l (of f))) in
            let e = canonical_same registry (form_of registry k (of f)) (of f) (form_of registry l (of f)) f1 f2 (form_is_canonical registry k (of f) h d) (form_is_canonical registry l (of f) ja.0 qa.0) s1 in
            let o : one b (c, plain registry (form_of registry w (of g)) (of g)) ≡ 1 = one_same b c (plain registry (form_of registry w (of g)) (of g)) (ap (λ (t : Tree). plain registry t (of f)) e) in
            absurd (omega arith))
        | inr isnt ↦ rw isnt refl
      ])
      (unlike k ps f g h d js.1 q.1 there)

  once_distinct : (ps : Pairs) (f g : Shape) → pairs_fit false registry ps f g ≡ true → all_pairs (λ l w. distinct l && distinct w) ps ≡ true
      → Once (form_entries ps f g) → pairs_distinct ps ≡ true
  unfolding Once
  once_distinct no_pairs f g h p o = refl
  once_distinct (pair k v ps) f g h p o =
      let hs = and_parts (fits false registry k (of f) && fits false registry v (of g)) (pairs_fit false registry ps f g) h in
      let ha = and_parts (fits false registry k (of f)) (fits false registry v (of g)) hs.0 in
      let q = and_parts (distinct k && distinct v) (all_pairs (λ l w. distinct l && distinct w) ps) p in
      let qa = and_parts (distinct k) (distinct v) q.0 in
      let b : List ℕ = plain registry (form_of registry k (of f)) (of f) in
      let c : List ℕ = plain registry (form_of registry v (of g)) (of g) in
      let first : one b (b, c) ≡ 1 = one_same b b c refl in
      let all : sum_by (one b) (form_entries (pair k v ps) f g) ≤ 1 = o b in
      let s : sum_by (one b) (form_entries (pair k v ps) f g) ≡ one b (b, c) + sum_by (one b) (form_entries ps f g) = sum_by-cons (one b) (b, c) (form_entries ps f g) in
      let rest : sum_by (one b) (form_entries ps f g) ≡ 0 = omega arith in
      and_from _ _ q.0 (and_from _ _ (unlike k ps f g ha.0 qa.0 hs.1 q.1 rest)
      (once_distinct ps f g hs.1 q.1
      (λ x. let a : sum_by (one x) (form_entries (pair k v ps) f g) ≤ 1 = o x in
      let t : sum_by (one x) (form_entries (pair k v ps) f g) ≡ one x (b, c) + sum_by (one x) (form_entries ps f g) = sum_by-cons (one x) (b, c) (form_entries ps f g) in
      omega arith)))

  -- ---- what an encoder needs if it sorts the entries

  -- sorted entries are the bytes of the canonical map
  sorted_bytes : (ps : Pairs) (f g : Shape) (es : List Entry) → pairs_fit false registry ps f g ≡ true → pairs_distinct ps ≡ true
      → IsPermutation (form_entries ps f g) es → EntriesRise es → flat_map entry_bytes es ≡ plain_pairs registry (pairs_form registry ps f g) f g
  sorted_bytes ps f g es h d p up =
      let e = rising_alike es (written (pairs_form registry ps f g) f g) up (written_rise (pairs_form registry ps f g) f g (pairs_form_is_canonical registry ps f g h d).0)
      (λ x m. into_pairs_form x ps f g (moved (form_entries ps f g) es p x m))
      (λ x m. moved es (form_entries ps f g) (IsPermutation-sym (form_entries ps f g) es p) x (in_pairs_form x ps f g m)) in
      ap (flat_map entry_bytes) e ∙ written_bytes (pairs_form registry ps f g) f g

  -- if they ascend, no key is repeated
  sorted_distinct : (ps : Pairs) (f g : Shape) (es : List Entry) → pairs_fit false registry ps f g ≡ true → all_pairs (λ l w. distinct l && distinct w) ps ≡ true
      → IsPermutation (form_entries ps f g) es → EntriesRise es → pairs_distinct ps ≡ true
  sorted_distinct ps f g es h q p up = once_distinct ps f g h q (once_moved (form_entries ps f g) es p (rising_once es up))

  -- if two neighbours have equal keys, a key is repeated
  sorted_equal_neighbours : (ps : Pairs) (f g : Shape) (es : List Entry) → pairs_fit false registry ps f g ≡ true
      → IsPermutation (form_entries ps f g) es → HasEqualNeighbours es → pairs_distinct ps ≡ true → ⊥
  sorted_equal_neighbours ps f g es h p t d = equal_neighbours_twice es t (once_moved es (form_entries ps f g) (IsPermutation-sym (form_entries ps f g) es p) (distinct_once ps f g h d))

-- ---- the bytes of a canonical form

-- they are those of the form built by inserting
pub has_bytes_of_form : (registry : Entries) (f : Content) (t : Tree) (b : List ℕ) → EncodesWithoutLimits registry f t b → b ≡ plain registry (form_of registry t f) f
has_bytes_of_form registry f t b h = sym h.bytes ∙ ap (λ (c : Tree). plain registry c f) (form_is_form_of registry f t h.form h.fit h.distinct h.is_form)

pub form_has_bytes : (registry : Entries) (f : Content) (t : Tree) → fits false registry t f ≡ true → distinct t ≡ true
    → EncodesWithoutLimits registry f t (plain registry (form_of registry t f) f)
form_has_bytes registry f t h d = record { fit = h; distinct = d; form = form_of registry t f; is_form = form_of_is_form registry f t h d; bytes = refl }

-- ---- the entries of a map

entries_of_forms : (registry : Entries) (f g : Shape) (ps : Pairs) (es : List Entry) → EntriesOf registry f g ps es → es ≡ form_entries registry ps f g
entries_of_forms registry f g no_pairs [] h = refl
entries_of_forms registry f g no_pairs (e ∷ es) h = absurd h
entries_of_forms registry f g (pair k v ps) [] h = absurd h
entries_of_forms registry f g (pair k v ps) (e ∷ es) h =
    ap₂ (λ (z : Entry) (zs : List Entry). z ∷ zs)
    (ap₂ (λ (x y : List ℕ). (x, y)) (has_bytes_of_form registry (of f) k e.0 h.0) (has_bytes_of_form registry (of g) v e.1 h.1))
    (entries_of_forms registry f g ps es h.2)

pub entries_fit : (registry : Entries) (f g : Shape) (ps : Pairs) (es : List Entry) → EntriesOf registry f g ps es → pairs_fit false registry ps f g ≡ true
entries_fit registry f g no_pairs es h = refl
entries_fit registry f g (pair k v ps) [] h = absurd h
entries_fit registry f g (pair k v ps) (e ∷ es) h = and_from _ _ (and_from _ _ h.0.fit h.1.fit) (entries_fit registry f g ps es h.2)

entries_distinct : (registry : Entries) (f g : Shape) (ps : Pairs) (es : List Entry) → EntriesOf registry f g ps es
    → all_pairs (λ l w. distinct l && distinct w) ps ≡ true
entries_distinct registry f g no_pairs es h = refl
entries_distinct registry f g (pair k v ps) [] h = absurd h
entries_distinct registry f g (pair k v ps) (e ∷ es) h = and_from _ _ (and_from _ _ h.0.distinct h.1.distinct) (entries_distinct registry f g ps es h.2)

-- the law for sorted entries
pub sorted_entries : SortedEntries
sorted_entries = λ registry f g ps es rs h p up.
    let fit = entries_fit registry f g ps es h in
    let q : IsPermutation (form_entries registry ps f g) rs = subst (λ (x : List Entry). IsPermutation x rs) (entries_of_forms registry f g ps es h) p in
    let d = sorted_distinct registry ps f g rs fit (entries_distinct registry f g ps es h) q up in
    record {
      fit = fit;
      distinct = d;
      form = pairs (pairs_form registry ps f g);
      is_form = form_of_is_form registry (of (shape.map f g)) (pairs ps) fit d;
      bytes = ap₂ (λ (n : ℕ) (b : List ℕ). uleb n ++ b) (pair_count-pairs_form registry ps f g) (sym (sorted_bytes registry ps f g rs fit d q up));
    }

-- the law for neighbours with the same key
pub equal_neighbours_repeat : EqualNeighboursRepeat
equal_neighbours_repeat = λ registry f g ps es rs h p t.
    let fit = entries_fit registry f g ps es h in
    let q : IsPermutation (form_entries registry ps f g) rs = subst (λ (x : List Entry). IsPermutation x rs) (entries_of_forms registry f g ps es h) p in
    false_from_ne_true (distinct (pairs ps)) (sorted_equal_neighbours registry ps f g rs fit q t)

-- ---- the result of sorting by the bytes of the keys

-- the contract of `sort_by`, for a closure that compares the bytes of two keys
pub sorted_by_bytes : {X : Type 0} (key : X → List ℕ) {F : Type 0} {g : Mut F (Bor X × (Bor X × Unit {0})) Ordering} {f : F} (xs : List X)
    → ((lt : X → X → Bool) → IsStrictWeakOrder lt → ComparesAs g lt f → IsSortedBy lt xs)
    → ((a : Bor X × (Bor X × Unit {0})) (r : Ordering) (f' : F) → Called g f a r f' → (r ≡ slice_cmp nat_cmp (key a.0.now) (key a.1.0.now)) × (f' ≡ f))
    → IsSortedByKey key (slice_cmp nat_cmp) xs
sorted_by_bytes key {g = g} {f = f} xs up h = up (λ x y. is_lt (slice_cmp nat_cmp (key x) (key y))) (ranks_by nat_list_cmp_total key)
    (always_returns_same g (λ a r. is_lt r ≡ is_lt (slice_cmp nat_cmp (key a.0.now) (key a.1.0.now))) f (λ a r f' k. (ap is_lt (h a r f' k).0, (h a r f' k).1)))

module _ {X : Type 0} (entry : X → Entry) where
  sorted_rest : (x : X) (xs : List X) → IsSortedByKey (λ y. (entry y).0) (slice_cmp nat_cmp) (x ∷ xs) → IsSortedByKey (λ y. (entry y).0) (slice_cmp nat_cmp) xs
  sorted_rest x xs h k d low high =
      let q : suc k + 1 ≡ suc (k + 1) = omega arith in
      subst (λ (n : ℕ). is_lt (slice_cmp nat_cmp (entry (get_or (x ∷ xs) n d)).0 (entry (get_or xs k d)).0) ≡ false) q (h (suc k) d (omega arith) (omega arith))

  -- the sorted entries ascend, or two neighbours have the same key
  pub rise_or_equal_neighbours : (xs : List X) → IsSortedByKey (λ x. (entry x).0) (slice_cmp nat_cmp) xs → EntriesRise (map entry xs) ⊎ HasEqualNeighbours (map entry xs)
  rise_or_equal_neighbours [] h = inl tt
  rise_or_equal_neighbours (x ∷ []) h = inl tt
  rise_or_equal_neighbours (x ∷ y ∷ xs) h =
      elim (rise_or_equal_neighbours (y ∷ xs) (sorted_rest x (y ∷ xs) h)) [
        | inr equal_neighbours ↦ inr (inr equal_neighbours)
        | inl up ↦ elim (order (entry x).0 (entry y).0) [
          | inl is ↦ inr (inl is)
          | inr (inl lt) ↦ inl (lt, up)
          | inr (inr gt) ↦ absurd (not_below (entry y).0 (entry x).0 (h 0 x (omega arith) (omega arith)) gt)
        ]
      ]
