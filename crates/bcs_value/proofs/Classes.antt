-- The number of distinct entries of a map: if one map is within another with the same number, each is within the other.
use Rattle.bcs_value.proofs.Prelude.{◌≡◌, ℕ, List, length, suc, ◌≤◌, Bool, true, false, true≢false, cond, ◌&&◌, ◌||◌, refl, sym, ap, ◌∙◌, inl, inr, arith, cases_Bool, and_parts, and_from, or_cases, or_parts, or_left, or_right, Tree, Pairs, no_pairs, pair, pair_count, same, is_within, has_pair, all_pairs, has_repeated_entries, entries_pairs, Value, count_pairs, same-refl, same-sym, same-trans, covers}

abbrev same_entry : Tree → Tree → Tree → Tree → Bool
same_entry k v l w = same k l && same v w

same_entry-refl : (k v : Tree) → same_entry k v k v ≡ true
same_entry-refl k v = and_from _ _ (same-refl k) (same-refl v)

same_entry-sym : (k v l w : Tree) → same_entry k v l w ≡ true → same_entry l w k v ≡ true
same_entry-sym k v l w h = let p = and_parts (same k l) (same v w) h in and_from _ _ (same-sym l k ∙ p.0) (same-sym w v ∙ p.1)

same_entry-trans : (k v l w m x : Tree) → same_entry k v l w ≡ true → same_entry l w m x ≡ true → same_entry k v m x ≡ true
same_entry-trans k v l w m x h g =
    let p = and_parts (same k l) (same v w) h in
    let q = and_parts (same l m) (same w x) g in
    and_from _ _ (same-trans k l m p.0 q.0) (same-trans v w x p.1 q.1)

-- `has_pair` treats equal entries alike
had : (ps : Pairs) (k v l w : Tree) → same_entry k v l w ≡ true → has_pair ps k v ≡ true → has_pair ps l w ≡ true
had no_pairs k v l w t h = h
had (pair m x ps) k v l w t h = elim (or_cases (same m k && same x v) (has_pair ps k v) h) [
  | inl one ↦ or_left _ _ (same_entry-trans m x k v l w one t)
  | inr more ↦ or_right _ _ (had ps k v l w t more)
]

had_not : (ps : Pairs) (k v l w : Tree) → same_entry k v l w ≡ true → has_pair ps k v ≡ false → has_pair ps l w ≡ false
had_not ps k v l w t h = elim (has_pair ps l w) as (λ b. has_pair ps l w ≡ b → b ≡ false) [
  | true ↦ λ is. absurd (true≢false (sym (had ps l w k v (same_entry-sym k v l w t) is) ∙ h))
  | false ↦ λ is. refl
] refl

-- the number of distinct entries: those with no equal entry after them
abbrev classes : Pairs → ℕ
classes no_pairs = 0
classes (pair k v ps) = cond (has_pair ps k v) (classes ps) (suc (classes ps))

-- the map without the entries equal to this one
abbrev without : Tree → Tree → Pairs → Pairs
without k v no_pairs = no_pairs
without k v (pair l w qs) = cond (same_entry k v l w) (without k v qs) (pair l w (without k v qs))

not-same_entry : (k v l w : Tree) → same_entry k v l w ≡ false → same_entry l w k v ≡ false
not-same_entry k v l w h = elim (cases_Bool (same_entry l w k v)) [
  | inl t ↦ absurd (true≢false (sym (same_entry-sym l w k v t) ∙ h))
  | inr n ↦ n
]

classes-same_entry : (k v : Tree) (ps : Pairs) → has_pair ps k v ≡ true → classes (pair k v ps) ≡ classes ps
classes-same_entry k v ps h = ap (λ b. cond b (classes ps) (suc (classes ps))) h

classes-new : (k v : Tree) (ps : Pairs) → has_pair ps k v ≡ false → classes (pair k v ps) ≡ suc (classes ps)
classes-new k v ps h = ap (λ b. cond b (classes ps) (suc (classes ps))) h

without-same_entry : (k v l w : Tree) (qs : Pairs) → same_entry k v l w ≡ true → without k v (pair l w qs) ≡ without k v qs
without-same_entry k v l w qs h = ap (λ b. cond b (without k v qs) (pair l w (without k v qs))) h

without-other : (k v l w : Tree) (qs : Pairs) → same_entry k v l w ≡ false → without k v (pair l w qs) ≡ pair l w (without k v qs)
without-other k v l w qs h = ap (λ b. cond b (without k v qs) (pair l w (without k v qs))) h

-- other entries remain
kept : (qs : Pairs) (k v l w : Tree) → same_entry k v l w ≡ false → has_pair (without k v qs) l w ≡ has_pair qs l w
kept no_pairs k v l w n = refl
kept (pair m x qs) k v l w n = elim (cases_Bool (same_entry k v m x)) [
  | inl t ↦
      (let other : same_entry m x l w ≡ false = elim (cases_Bool (same_entry m x l w)) [
        | inl y ↦ absurd (true≢false (sym (same_entry-trans k v m x l w t y) ∙ n))
        | inr z ↦ z
      ] in
      ap (λ r. has_pair r l w) (without-same_entry k v m x qs t) ∙ kept qs k v l w n ∙ sym (ap (λ b. b || has_pair qs l w) other))
  | inr f ↦ ap (λ r. has_pair r l w) (without-other k v m x qs f) ∙ ap (λ b. same_entry m x l w || b) (kept qs k v l w n)
]

unchanged : (qs : Pairs) (k v : Tree) → has_pair qs k v ≡ false → without k v qs ≡ qs
unchanged no_pairs k v h = refl
unchanged (pair m x qs) k v h =
    let p = or_parts (same_entry m x k v) (has_pair qs k v) h in
    without-other k v m x qs (not-same_entry m x k v p.0) ∙ ap (pair m x) (unchanged qs k v p.1)

-- all entries equal to one count once
counted : (qs : Pairs) (k v : Tree) → has_pair qs k v ≡ true → classes qs ≡ suc (classes (without k v qs))
counted no_pairs k v h = absurd (true≢false (sym h))
counted (pair m x qs) k v h = elim (cases_Bool (same_entry k v m x)) [
  | inl t ↦ elim (cases_Bool (has_pair qs k v)) [
    | inl y ↦ classes-same_entry m x qs (had qs k v m x t y) ∙ counted qs k v y ∙ ap (λ r. suc (classes r)) (sym (without-same_entry k v m x qs t))
    | inr n ↦ classes-new m x qs (had_not qs k v m x t n) ∙ ap (λ r. suc (classes r)) (sym (unchanged qs k v n)) ∙ ap (λ r. suc (classes r)) (sym (without-same_entry k v m x qs t))
  ]
  | inr f ↦
      (let y : has_pair qs k v ≡ true = elim (or_cases (same_entry m x k v) (has_pair qs k v) h) [
        | inl t ↦ absurd (true≢false (sym (same_entry-sym m x k v t) ∙ f))
        | inr more ↦ more
      ] in
      elim (cases_Bool (has_pair qs m x)) [
        | inl z ↦ classes-same_entry m x qs z ∙ counted qs k v y ∙ ap suc (sym (classes-same_entry m x (without k v qs) (kept qs k v m x f ∙ z)) ∙ ap classes (sym (without-other k v m x qs f)))
        | inr z ↦ classes-new m x qs z ∙ ap suc (counted qs k v y) ∙ ap suc (sym (classes-new m x (without k v qs) (kept qs k v m x f ∙ z)) ∙ ap classes (sym (without-other k v m x qs f)))
      ])
]

narrowed : (ps qs : Pairs) (k v : Tree) → has_pair ps k v ≡ false → all_pairs (has_pair qs) ps ≡ true → all_pairs (has_pair (without k v qs)) ps ≡ true
narrowed no_pairs qs k v n h = refl
narrowed (pair l w ps) qs k v n h =
    let p = and_parts (has_pair qs l w) (all_pairs (has_pair qs) ps) h in
    let q = or_parts (same_entry l w k v) (has_pair ps k v) n in
    and_from _ _ (kept qs k v l w (not-same_entry l w k v q.0) ∙ p.0) (narrowed ps qs k v q.1 p.1)

widened : (k v : Tree) (ps rs : Pairs) → all_pairs (has_pair ps) rs ≡ true → all_pairs (has_pair (pair k v ps)) rs ≡ true
widened k v ps no_pairs h = refl
widened k v ps (pair l w rs) h =
    let p = and_parts (has_pair ps l w) (all_pairs (has_pair ps) rs) h in
    and_from _ _ (or_right _ _ p.0) (widened k v ps rs p.1)

back : (qs : Pairs) (k v : Tree) (ps : Pairs) → all_pairs (has_pair ps) (without k v qs) ≡ true → all_pairs (has_pair (pair k v ps)) qs ≡ true
back no_pairs k v ps h = refl
back (pair m x qs) k v ps h = elim (cases_Bool (same_entry k v m x)) [
  | inl t ↦ and_from _ _ (or_left _ _ t) (back qs k v ps (ap (all_pairs (has_pair ps)) (sym (without-same_entry k v m x qs t)) ∙ h))
  | inr f ↦
      (let p = and_parts (has_pair ps m x) (all_pairs (has_pair ps) (without k v qs)) (ap (all_pairs (has_pair ps)) (sym (without-other k v m x qs f)) ∙ h) in
      and_from _ _ (or_right _ _ p.0) (back qs k v ps p.1))
]

fewer : (ps qs : Pairs) → all_pairs (has_pair qs) ps ≡ true → classes ps ≤ classes qs
fewer no_pairs qs h = omega arith
fewer (pair k v ps) qs h =
    let p = and_parts (has_pair qs k v) (all_pairs (has_pair qs) ps) h in
    elim (cases_Bool (has_pair ps k v)) [
      | inl y ↦ omega (arith, classes-same_entry k v ps y, fewer ps qs p.1)
      | inr n ↦ omega (arith, classes-new k v ps n, counted qs k v p.0, fewer ps (without k v qs) (narrowed ps qs k v n p.1))
    ]

within_back : (ps qs : Pairs) → all_pairs (has_pair qs) ps ≡ true → classes ps ≡ classes qs → all_pairs (has_pair ps) qs ≡ true
within_back no_pairs no_pairs h e = refl
within_back no_pairs (pair m x qs) h e =
    let f = counted (pair m x qs) m x (or_left _ _ (same_entry-refl m x)) in
    absurd (omega (arith, e, f))
within_back (pair k v ps) qs h e =
    let p = and_parts (has_pair qs k v) (all_pairs (has_pair qs) ps) h in
    elim (cases_Bool (has_pair ps k v)) [
      | inl y ↦ widened k v ps qs (within_back ps qs p.1 (sym (classes-same_entry k v ps y) ∙ e))
      | inr n ↦
          (let f : classes ps ≡ classes (without k v qs) = omega (arith, e, classes-new k v ps n, counted qs k v p.0) in
          back qs k v ps (within_back ps (without k v qs) (narrowed ps qs k v n p.1) f))
    ]

few : (ps : Pairs) → classes ps ≤ pair_count ps
few no_pairs = omega arith
few (pair k v ps) = elim (cases_Bool (has_pair ps k v)) [
  | inl y ↦ omega (arith, classes-same_entry k v ps y, few ps)
  | inr n ↦ omega (arith, classes-new k v ps n, few ps)
]

all_differ : (ps : Pairs) → has_repeated_entries ps ≡ false → classes ps ≡ pair_count ps
all_differ no_pairs h = refl
all_differ (pair k v ps) h =
    let p = or_parts (has_pair ps k v) (has_repeated_entries ps) h in
    classes-new k v ps p.0 ∙ ap suc (all_differ ps p.1)

-- a map without repeated entries that is within another one of the same length
pub within_full : (xs ys : List (Value × Value)) → length xs ≡ length ys → has_repeated_entries (entries_pairs xs) ≡ false → is_within (entries_pairs xs) (entries_pairs ys) ≡ true
    → all_pairs (has_pair (entries_pairs xs)) (entries_pairs ys) ≡ true
within_full xs ys e n h =
    let w = covers (entries_pairs xs) (entries_pairs ys) ∙ h in
    let f = fewer (entries_pairs xs) (entries_pairs ys) w in
    within_back (entries_pairs xs) (entries_pairs ys) w
    (omega (arith, e, f, few (entries_pairs ys), all_differ (entries_pairs xs) n, count_pairs xs, count_pairs ys))
