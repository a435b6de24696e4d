-- Sameness of maps and distinct keys, stated in terms of entries.
use Rattle.bcs_value_model.proofs.Prelude.{◌≡◌, ℕ, zero, suc, Some, Bool, true, false, true≢false, not, ◌&&◌, refl, sym, ap, subst, ◌∙◌, inl, inr, and_parts, and_from, or_cases, or_left, or_right, Tree, Pairs, no_pairs, pair, same, distinct, pairs_distinct, is_within, any_pair, all_pairs, Same, IsEntry, EachHasMatch, key_at, KeysDiffer, PartsHaveDistinctKeys, SameMaps, MapsWithDistinctKeys}
use Rattle.bcs_value_model.proofs.Equivalence.{same-sym, within-both}

-- ---- sameness

pub any_found : (test : Tree → Tree → Bool) (qs : Pairs) → any_pair test qs ≡ true → (l : Tree) × (w : Tree) × IsEntry l w qs × (test l w ≡ true)
any_found test no_pairs h = absurd (true≢false (sym h))
any_found test (pair l w qs) h = elim (or_cases (test l w) (any_pair test qs) h) [
  | inl t ↦ (l, w, inl (refl, refl), t)
  | inr r ↦ let m = any_found test qs r in (m.0, m.1, inr m.2, m.3)
]

any_from : (test : Tree → Tree → Bool) (qs : Pairs) (l w : Tree) → IsEntry l w qs → test l w ≡ true → any_pair test qs ≡ true
any_from test no_pairs l w m h = absurd m
any_from test (pair a b qs) l w (inl e) h = or_left _ _ (subst (λ (t : Tree). test a t ≡ true) e.1 (subst (λ (t : Tree). test t w ≡ true) e.0 h))
any_from test (pair a b qs) l w (inr m) h = or_right _ _ (any_from test qs l w m h)

each_from_within : (ps qs : Pairs) → is_within ps qs ≡ true → EachHasMatch ps qs
each_from_within no_pairs qs h k v m = absurd m
each_from_within (pair a b ps) qs h k v (inl e) =
    let p = and_parts (any_pair (λ l w. same a l && same b w) qs) (is_within ps qs) h in
    let r = any_found (λ l w. same a l && same b w) qs p.0 in
    let s = and_parts (same a r.0) (same b r.1) r.3 in
    (r.0, r.1, r.2, subst (λ (t : Tree). same t r.0 ≡ true) (sym e.0) s.0, subst (λ (t : Tree). same t r.1 ≡ true) (sym e.1) s.1)
each_from_within (pair a b ps) qs h k v (inr m) =
    let p = and_parts (any_pair (λ l w. same a l && same b w) qs) (is_within ps qs) h in
    each_from_within ps qs p.1 k v m

within_from_each : (ps qs : Pairs) → EachHasMatch ps qs → is_within ps qs ≡ true
within_from_each no_pairs qs h = refl
within_from_each (pair k v ps) qs h =
    let r = h k v (inl (refl, refl)) in
    and_from _ _ (any_from (λ l w. same k l && same v w) qs r.0 r.1 r.2 (and_from _ _ r.3 r.4)) (within_from_each ps qs (λ l w m. h l w (inr m)))

pub maps_in_words : SameMaps
maps_in_words = λ ps qs. (
  λ h. let p = and_parts (is_within ps qs) (is_within qs ps) (sym (within-both ps qs) ∙ h) in (each_from_within ps qs p.0, each_from_within qs ps p.1),
  λ h. within-both ps qs ∙ and_from _ _ (within_from_each ps qs h.0) (within_from_each qs ps h.1),
)

-- ---- distinct keys

not_true : (b : Bool) → not b ≡ true → b ≡ true → ⊥
not_true true h e = true≢false (sym h)
not_true false h e = true≢false (sym e)

not_from : (b : Bool) → (b ≡ true → ⊥) → not b ≡ true
not_from true h = absurd (h refl)
not_from false h = refl

-- no later key is the same
later_differ : (k : Tree) (ps : Pairs) → all_pairs (λ l w. not (same k l)) ps ≡ true → (j : ℕ) (l : Tree) → key_at ps j ≡ Some l → Same k l → ⊥
later_differ k no_pairs h j l e s = absurd cc
later_differ k (pair m w ps) h zero l e s =
    let p = and_parts (not (same k m)) (all_pairs (λ l w. not (same k l)) ps) h in
    let f : m ≡ l = cc in
    not_true (same k m) p.0 (subst (λ (t : Tree). same k t ≡ true) (sym f) s)
later_differ k (pair m w ps) h (suc j) l e s =
    let p = and_parts (not (same k m)) (all_pairs (λ l w. not (same k l)) ps) h in
    later_differ k ps p.1 j l e s

all_later : (k : Tree) (ps : Pairs) → ((j : ℕ) (l : Tree) → key_at ps j ≡ Some l → Same k l → ⊥) → all_pairs (λ l w. not (same k l)) ps ≡ true
all_later k no_pairs h = refl
all_later k (pair m w ps) h = and_from _ _ (not_from (same k m) (λ s. h zero m refl s)) (all_later k ps (λ j. h (suc j)))

differ : (ps : Pairs) → pairs_distinct ps ≡ true → KeysDiffer ps
differ no_pairs h i j k l e f s = absurd cc
differ (pair m w ps) h zero zero k l e f s = refl
differ (pair m w ps) h zero (suc j) k l e f s =
    let p = and_parts (distinct m && distinct w) _ h in
    let q = and_parts (all_pairs (λ l w. not (same m l)) ps) (pairs_distinct ps) p.1 in
    let g : m ≡ k = cc in
    absurd (later_differ m ps q.0 j l f (subst (λ (t : Tree). same t l ≡ true) (sym g) s))
differ (pair m w ps) h (suc i) zero k l e f s =
    let p = and_parts (distinct m && distinct w) _ h in
    let q = and_parts (all_pairs (λ l w. not (same m l)) ps) (pairs_distinct ps) p.1 in
    let g : m ≡ l = cc in
    absurd (later_differ m ps q.0 i k e (subst (λ (t : Tree). same t k ≡ true) (sym g) (same-sym l k ∙ s)))
differ (pair m w ps) h (suc i) (suc j) k l e f s =
    let p = and_parts (distinct m && distinct w) _ h in
    let q = and_parts (all_pairs (λ l w. not (same m l)) ps) (pairs_distinct ps) p.1 in
    ap suc (differ ps q.1 i j k l e f s)

parts : (ps : Pairs) → pairs_distinct ps ≡ true → PartsHaveDistinctKeys ps
parts no_pairs h k v m = absurd m
parts (pair a b ps) h k v (inl e) =
    let p = and_parts (distinct a && distinct b) _ h in
    let q = and_parts (distinct a) (distinct b) p.0 in
    (subst (λ (t : Tree). distinct t ≡ true) (sym e.0) q.0, subst (λ (t : Tree). distinct t ≡ true) (sym e.1) q.1)
parts (pair a b ps) h k v (inr m) =
    let p = and_parts (distinct a && distinct b) _ h in
    let q = and_parts (all_pairs (λ l w. not (same a l)) ps) (pairs_distinct ps) p.1 in
    parts ps q.1 k v m

distinct_from : (ps : Pairs) → KeysDiffer ps → PartsHaveDistinctKeys ps → pairs_distinct ps ≡ true
distinct_from no_pairs h g = refl
distinct_from (pair k v ps) h g =
    let p = g k v (inl (refl, refl)) in
    and_from _ _ (and_from _ _ p.0 p.1)
    (and_from _ _ (all_later k ps (λ j l e s. apart (h zero (suc j) k l refl e s)))
    (distinct_from ps (λ i j l m e f s. suc-same (h (suc i) (suc j) l m e f s)) (λ l w m. g l w (inr m))))
  where
    apart : {j : ℕ} → zero ≡ suc j → ⊥
    apart e = cc

    suc-same : {i j : ℕ} → suc i ≡ suc j → i ≡ j
    suc-same e = cc

pub keys_in_words : MapsWithDistinctKeys
keys_in_words = λ ps. (λ h. (differ ps h, parts ps h), λ h. distinct_from ps h.0 h.1)
