-- `same` is an equivalence relation.
use Rattle.bcs_value_model.proofs.Prelude.{◌≡◌, ℕ, List, Bool, true, false, ◌&&◌, ◌||◌, ◌==◌, ℤ, refl, sym, ap, ◌∙◌, rules, inl, inr, bytes_eq, int_eq, comparing, false≢true, and_parts, and_from, or_cases, or_left, or_right, eqb-true, eq-eqb, Tree, unit, truth, unsigned, signed, text, bytes, absent, present, items, variant, pairs, named, Trees, no_trees, tree, Pairs, no_pairs, pair, same, all_same, is_within, has_pair, any_pair, all_pairs, both}

nat-refl : (m : ℕ) → (m == m) ≡ true
nat-refl m = eq-eqb m m refl

nat-sym : (m n : ℕ) → (m == n) ≡ (n == m)
nat-sym m n = search (comparing, rules)

pub nat-same : (m n : ℕ) → (m == n) ≡ true → m ≡ n
nat-same m n h = eqb-true m n h

pub bytes-refl : (s : List ℕ) → bytes_eq s s ≡ true
bytes-refl s = search (comparing, rules)

bytes-sym : (s t : List ℕ) → bytes_eq s t ≡ bytes_eq t s
bytes-sym s t = search (comparing, rules)

pub bytes-same : (s t : List ℕ) → bytes_eq s t ≡ true → s ≡ t
bytes-same s t h = search (comparing, rules)

int-refl : (z : ℤ) → int_eq z z ≡ true
int-refl z = search (comparing, rules)

int-sym : (m n : ℤ) → int_eq m n ≡ int_eq n m
int-sym m n = search (comparing, rules)

pub int-same : (m n : ℤ) → int_eq m n ≡ true → m ≡ n
int-same m n h = search (comparing, rules)

both-refl : (a : Bool) → both a a ≡ true
both-refl true = refl
both-refl false = refl

both-sym : (a b : Bool) → both a b ≡ both b a
both-sym true true = refl
both-sym true false = refl
both-sym false true = refl
both-sym false false = refl

pub both-same : (a b : Bool) → both a b ≡ true → a ≡ b
both-same true true h = refl
both-same true false h = absurd cc
both-same false true h = absurd cc
both-same false false h = refl

and-sym : (a b : Bool) → (a && b) ≡ (b && a)
and-sym true true = refl
and-sym true false = refl
and-sym false true = refl
and-sym false false = refl

pub and₂ : (a b c d : Bool) → a ≡ c → b ≡ d → (a && b) ≡ (c && d)
and₂ a b c d e f = rw (e, f) refl

or₂ : (a b c d : Bool) → a ≡ c → b ≡ d → (a || b) ≡ (c || d)
or₂ a b c d e f = rw (e, f) refl

pub both_ways : (a b : Bool) → (a ≡ true → b ≡ true) → (b ≡ true → a ≡ true) → a ≡ b
both_ways true b f g = sym (f refl)
both_ways false true f g = g refl
both_ways false false f g = refl

-- ---- reflexivity

-- for maps: ps is within qs if every test that holds for some pair of ps also holds for some pair of qs
mutual
  pub same-refl : (a : Tree) → same a a ≡ true
  same-refl unit = refl
  same-refl (truth b) = both-refl b
  same-refl (unsigned n) = nat-refl n
  same-refl (signed z) = int-refl z
  same-refl (text s) = bytes-refl s
  same-refl (bytes s) = bytes-refl s
  same-refl absent = refl
  same-refl (present a) = same-refl a
  same-refl (items ts) = all_same-refl ts
  same-refl (pairs ps) = and_from _ _ (within-refl ps ps (λ test h. h)) (having-refl ps ps (λ l w h. h))
  same-refl (variant n a) = and_from _ _ (nat-refl n) (same-refl a)
  same-refl (named a) = same-refl a

  pub all_same-refl : (ts : Trees) → all_same ts ts ≡ true
  all_same-refl no_trees = refl
  all_same-refl (tree t ts) = and_from _ _ (same-refl t) (all_same-refl ts)

  within-refl : (ps qs : Pairs) → ((test : Tree → Tree → Bool) → any_pair test ps ≡ true → any_pair test qs ≡ true) → is_within ps qs ≡ true
  within-refl no_pairs qs up = refl
  within-refl (pair k v ps) qs up =
      and_from _ _ (up (λ l w. same k l && same v w) (or_left _ _ (and_from _ _ (same-refl k) (same-refl v)))) (within-refl ps qs (λ test h. up test (or_right _ _ h)))

  having-refl : (ps qs : Pairs) → ((l w : Tree) → has_pair ps l w ≡ true → has_pair qs l w ≡ true) → all_pairs (has_pair qs) ps ≡ true
  having-refl no_pairs qs up = refl
  having-refl (pair k v ps) qs up =
      and_from _ _ (up k v (or_left _ _ (and_from _ _ (same-refl k) (same-refl v)))) (having-refl ps qs (λ l w h. up l w (or_right _ _ h)))

-- ---- symmetry

-- comparing an entry with each of the others gives the same result from either side
among : (k v : Tree) → ((l : Tree) → same k l ≡ same l k) → ((w : Tree) → same v w ≡ same w v) → (qs : Pairs) → any_pair (λ l w. same k l && same v w) qs ≡ has_pair qs k v
among k v h g no_pairs = refl
among k v h g (pair l w qs) = or₂ _ _ _ _ (and₂ _ _ _ _ (h l) (g w)) (among k v h g qs)

covered : (ps : Pairs) → ((l w : Tree) → has_pair ps l w ≡ any_pair (λ k v. same l k && same w v) ps) → (qs : Pairs) → all_pairs (has_pair ps) qs ≡ is_within qs ps
covered ps h no_pairs = refl
covered ps h (pair l w qs) = and₂ _ _ _ _ (h l w) (covered ps h qs)

mutual
  pub same-sym : (a b : Tree) → same a b ≡ same b a
  same-sym unit unit = refl
  same-sym (truth a) (truth b) = both-sym a b
  same-sym (unsigned m) (unsigned n) = nat-sym m n
  same-sym (signed m) (signed n) = int-sym m n
  same-sym (text s) (text t) = bytes-sym s t
  same-sym (bytes s) (bytes t) = bytes-sym s t
  same-sym absent absent = refl
  same-sym (present a) (present b) = same-sym a b
  same-sym (items ts) (items us) = all_same-sym ts us
  same-sym (pairs ps) (pairs qs) =
      and₂ _ _ _ _ (within-sym ps qs) (covered ps (λ l w. flip ps l w) qs) ∙ and-sym (all_pairs (has_pair qs) ps) (is_within qs ps)
  same-sym (variant m a) (variant n b) = and₂ _ _ _ _ (nat-sym m n) (same-sym a b)
  same-sym (named a) (named b) = same-sym a b
  same-sym _ _ = refl

  all_same-sym : (ts us : Trees) → all_same ts us ≡ all_same us ts
  all_same-sym no_trees no_trees = refl
  all_same-sym no_trees (tree u us) = refl
  all_same-sym (tree t ts) no_trees = refl
  all_same-sym (tree t ts) (tree u us) = and₂ _ _ _ _ (same-sym t u) (all_same-sym ts us)

  within-sym : (ps qs : Pairs) → is_within ps qs ≡ all_pairs (has_pair qs) ps
  within-sym no_pairs qs = refl
  within-sym (pair k v ps) qs = and₂ _ _ _ _ (among k v (λ l. same-sym k l) (λ w. same-sym v w) qs) (within-sym ps qs)

  flip : (ps : Pairs) (l w : Tree) → has_pair ps l w ≡ any_pair (λ k v. same l k && same w v) ps
  flip no_pairs l w = refl
  flip (pair k v ps) l w = or₂ _ _ _ _ (and₂ _ _ _ _ (same-sym k l) (same-sym v w)) (flip ps l w)

-- `is_within` in terms of `has_pair`
pub covers : (ps qs : Pairs) → all_pairs (has_pair qs) ps ≡ is_within ps qs
covers ps qs = covered qs (λ l w. flip qs l w) ps

-- so two maps are the same if each is within the other
pub within-both : (ps qs : Pairs) → same (pairs ps) (pairs qs) ≡ (is_within ps qs && is_within qs ps)
within-both ps qs = and₂ _ _ _ _ refl (covered ps (λ l w. flip ps l w) qs)

-- ---- transitivity

-- a test that holds for an entry carries over to the next map
carried : (test next : Tree → Tree → Bool) (qs rs : Pairs)
    → ((l w : Tree) → test l w ≡ true → (m x : Tree) → (same l m && same w x) ≡ true → next m x ≡ true)
    → is_within qs rs ≡ true → any_pair test qs ≡ true → any_pair next rs ≡ true
carried test next no_pairs rs step h g = absurd cc
carried test next (pair l w qs) rs step h g =
    let p = and_parts (any_pair (λ m x. same l m && same w x) rs) (is_within qs rs) h in
    elim (or_cases (test l w) (any_pair test qs) g) [
      | inl here ↦ found rs p.0 (step l w here)
      | inr there ↦ carried test next qs rs step p.1 there
    ]
  where
    found : (rs : Pairs) → any_pair (λ m x. same l m && same w x) rs ≡ true → ((m x : Tree) → (same l m && same w x) ≡ true → next m x ≡ true) → any_pair next rs ≡ true
    found no_pairs e to = absurd cc
    found (pair m x rs) e to = elim (or_cases (same l m && same w x) _ e) [ inl one ↦ or_left _ _ (to m x one) | inr more ↦ or_right _ _ (found rs more to) ]

-- and back: each entry of the last map is in the first
carried_back : (ps qs : Pairs)
    → ((l w m x : Tree) → has_pair ps l w ≡ true → (same l m && same w x) ≡ true → has_pair ps m x ≡ true)
    → all_pairs (has_pair ps) qs ≡ true → (rs : Pairs) → all_pairs (has_pair qs) rs ≡ true → all_pairs (has_pair ps) rs ≡ true
carried_back ps qs step h no_pairs g = refl
carried_back ps qs step h (pair m x rs) g =
    let p = and_parts (has_pair qs m x) (all_pairs (has_pair qs) rs) g in
    and_from _ _ (found qs h p.0) (carried_back ps qs step h rs p.1)
  where
    found : (qs : Pairs) → all_pairs (has_pair ps) qs ≡ true → has_pair qs m x ≡ true → has_pair ps m x ≡ true
    found no_pairs h e = absurd cc
    found (pair l w qs) h e =
        let p = and_parts (has_pair ps l w) (all_pairs (has_pair ps) qs) h in
        elim (or_cases (same l m && same w x) (has_pair qs m x) e) [ inl one ↦ step l w m x p.0 one | inr more ↦ found qs p.1 more ]

mutual
  pub same-trans : (a b c : Tree) → same a b ≡ true → same b c ≡ true → same a c ≡ true
  same-trans unit unit unit h g = refl
  same-trans (truth a) (truth b) (truth c) h g = ap (λ x. both x c) (both-same a b h) ∙ g
  same-trans (unsigned m) (unsigned n) (unsigned o) h g = eq-eqb m o (nat-same m n h ∙ nat-same n o g)
  same-trans (signed m) (signed n) (signed o) h g = ap (λ x. int_eq x o) (int-same m n h) ∙ g
  same-trans (text s) (text t) (text u) h g = ap (λ x. bytes_eq x u) (bytes-same s t h) ∙ g
  same-trans (bytes s) (bytes t) (bytes u) h g = ap (λ x. bytes_eq x u) (bytes-same s t h) ∙ g
  same-trans absent absent absent h g = refl
  same-trans (present a) (present b) (present c) h g = same-trans a b c h g
  same-trans (items ts) (items us) (items vs) h g = all_same-trans ts us vs h g
  same-trans (pairs ps) (pairs qs) (pairs rs) h g =
      let p = and_parts (is_within ps qs) (all_pairs (has_pair ps) qs) h in
      let q = and_parts (is_within qs rs) (all_pairs (has_pair qs) rs) g in
      and_from _ _ (within-trans ps qs rs p.0 q.0) (carried_back ps qs (λ l w m x e f. has-trans ps l w m x e f) p.1 rs q.1)
  same-trans (variant m a) (variant n b) (variant o c) h g =
      let p = and_parts (m == n) (same a b) h in
      let q = and_parts (n == o) (same b c) g in
      and_from _ _ (eq-eqb m o (nat-same m n p.0 ∙ nat-same n o q.0)) (same-trans a b c p.1 q.1)
  same-trans (named a) (named b) (named c) h g = same-trans a b c h g
  same-trans _ _ _ h g = absurd (search (false≢true))

  all_same-trans : (ts us vs : Trees) → all_same ts us ≡ true → all_same us vs ≡ true → all_same ts vs ≡ true
  all_same-trans no_trees no_trees vs h g = g
  all_same-trans (tree t ts) (tree u us) (tree v vs) h g =
      let p = and_parts (same t u) (all_same ts us) h in
      let q = and_parts (same u v) (all_same us vs) g in
      and_from _ _ (same-trans t u v p.0 q.0) (all_same-trans ts us vs p.1 q.1)
  all_same-trans _ _ _ h g = absurd cc

  within-trans : (ps qs rs : Pairs) → is_within ps qs ≡ true → is_within qs rs ≡ true → is_within ps rs ≡ true
  within-trans no_pairs qs rs h g = refl
  within-trans (pair k v ps) qs rs h g =
      let p = and_parts (any_pair (λ l w. same k l && same v w) qs) (is_within ps qs) h in
      and_from _ _
      (carried (λ l w. same k l && same v w) (λ m x. same k m && same v x) qs rs
      (λ l w e m x f.
      let d = and_parts (same k l) (same v w) e in
      let b = and_parts (same l m) (same w x) f in
      and_from _ _ (same-trans k l m d.0 b.0) (same-trans v w x d.1 b.1))
      g p.0)
      (within-trans ps qs rs p.1 g)

  has-trans : (ps : Pairs) (l w m x : Tree) → has_pair ps l w ≡ true → (same l m && same w x) ≡ true → has_pair ps m x ≡ true
  has-trans no_pairs l w m x e f = absurd cc
  has-trans (pair k v ps) l w m x e f =
      elim (or_cases (same k l && same v w) (has_pair ps l w) e) [
        | inl one ↦
            (let d = and_parts (same k l) (same v w) one in
            let b = and_parts (same l m) (same w x) f in
            or_left _ _ (and_from _ _ (same-trans k l m d.0 b.0) (same-trans v w x d.1 b.1)))
        | inr more ↦ or_right _ _ (has-trans ps l w m x more f)
      ]
