-- Reading lists of integers in blocks.
use Rattle.bcs_decode_source.proofs.Prelude.{◌≡◌, ℕ, zero, suc, ◌+◌, ◌-◌, ◌*◌, ◌<◌, ◌≤◌, true, List, [], ◌∷◌, ◌++◌, map, length, take, drop, Option, Ok, Err, inl, inr, refl, sym, ap, ◌∙◌, arith, length-drop, take-add, append_assoc, suc-mul, le-ltb, lt-ltb, cases_lt, drop-drop, take_at, drop_at, append-nil, map_push, byte_len, from_le_bytes, cast_signed, width_of, byte_len_within, whole_len, whole_shape, IntegerKind, Unsigned, Signed, Tree, Trees, tree_of, trees_of, items_trees, Value, DecodeFault, Stop, TooManyNodes, Progress, Parser, Read, follow, chain, give, node, bytes_here, unsigned_here, signed_here, items_here, building, number_of, numbers, is_told, rest_of, FindsFault, leaf_here}
use Rattle.std.proofs.lemmas.List.{length-take-le}
use Rattle.bcs_value_model.specs.Tree as tree
use Rattle.bcs_decode_source.proofs.SourceSteps.{FindsFault-whole}
use Rattle.bcs_decode_source.proofs.StreamedRows.{joined, items_before, before_none, ItemsSoFar, items_refused}

-- ---- lists, read one after the other

before_cons : (t : Tree) (ts : Trees) (r : Read Trees) → follow (items_before ts r) (λ us. give (tree.tree t us)) ≡ items_before (tree.tree t ts) r
unfolding give
before_cons t ts (Ok x) = refl
before_cons t ts (Err e) = refl

joined_append : (xs ys : List Tree) (us : Trees) → joined (trees_of xs) (joined (trees_of ys) us) ≡ joined (trees_of (xs ++ ys)) us
joined_append [] ys us = refl
joined_append (x ∷ xs) ys us = ap (tree.tree x) (joined_append xs ys us)

before_append : (xs ys : List Tree) (r : Read Trees) → items_before (trees_of xs) (items_before (trees_of ys) r) ≡ items_before (trees_of (xs ++ ys)) r
unfolding give
before_append xs ys (Ok x) = ap (λ (us : Trees). Ok (us, x.1, x.2, x.3)) (joined_append xs ys x.0)
before_append xs ys (Err e) = refl

-- ---- integers

made : {A B C : Type 0} (r : Read A) (f : A → B) (g : B → C) → follow (follow r (λ s. give (f s))) (λ n. give (g n)) ≡ follow r (λ s. give (g (f s)))
unfolding give
made (Ok x) f g = refl
made (Err e) f g = refl

number_read : (f : IntegerKind) (p m : ℕ) (b : List ℕ) → leaf_here (whole_shape f) p (suc m) b ≡ follow (bytes_here (whole_len f) p m b) (λ s. give (number_of f s))
unfolding node chain unsigned_here signed_here
number_read (Unsigned w) p m b = made (bytes_here (byte_len (width_of w)) p m b) (from_le_bytes (width_of w)) tree.unsigned
number_read (Signed w) p m b = made (bytes_here (byte_len (width_of w)) p m b) (λ s. cast_signed (width_of w) (from_le_bytes (width_of w) s)) tree.signed

number_none : (f : IntegerKind) (p m : ℕ) (b : List ℕ) → m ≡ 0 → leaf_here (whole_shape f) p m b ≡ Err (TooManyNodes, p)
unfolding node
number_none (Unsigned w) p m b h = rw h refl
number_none (Signed w) p m b h = rw h refl

-- ---- consecutive integers

abbrev row : IntegerKind → ℕ → Parser Trees
row f n = items_here building (leaf_here (whole_shape f)) n

-- the first `k` numbers have these bytes, and the others come after them
abbrev after : IntegerKind → ℕ → ℕ → List ℕ → Parser Trees
after f k n xs q l c = items_before (trees_of (numbers f k xs)) (row f (n - k) q l c)

none_read : (f : IntegerKind) (n p m : ℕ) (b : List ℕ) → row f n p m b ≡ follow (bytes_here (0 * whole_len f) p (m - 0) b) (after f 0 n)
unfolding bytes_here
none_read f n p m b =
    let no : 0 * whole_len f ≡ 0 = omega arith in
    let left : m - 0 ≡ m = omega arith in
    let all : n - 0 ≡ n = omega arith in
    let place : p + 0 ≡ p = omega arith in
    rw (no, left, le-ltb (length b) 0 (omega arith), place, all) (sym (before_none (row f n p m b)))

more_read : (f : IntegerKind) (j n p m : ℕ) (b : List ℕ)
    → ((q l : ℕ) (c : List ℕ) → j ≤ l → row f n q l c ≡ follow (bytes_here (j * whole_len f) q (l - j) c) (after f j n)) → j ≤ m
    → row f (suc n) p (suc m) b ≡ follow (bytes_here (suc j * whole_len f) p (suc m - suc j) b) (after f (suc j) (suc n))
unfolding items_here chain bytes_here give
more_read f j n p m b others le =
    let w = whole_len f in
    let more = suc-mul j w in
    let left : suc m - suc j ≡ m - j = omega arith in
    let rest : suc n - suc j ≡ n - j = omega arith in
    rw (number_read f p m b, left) (elim (cases_lt (length b) w) [
      | inl short ↦ rw (lt-ltb (length b) w short, lt-ltb (length b) (suc j * w) (omega (arith, more))) refl
      | inr long ↦
          let have = length-drop w b in
          rw (le-ltb (length b) w long, others (p + w) m (drop w b) le) (elim (cases_lt (length b) (suc j * w)) [
            | inl few ↦
                let place : p + w + length (drop w b) ≡ p + length b = omega arith in
                rw (lt-ltb (length b) (suc j * w) few, lt-ltb (length (drop w b)) (j * w) (omega (arith, more)), place) refl
            | inr all ↦
                let place : p + w + j * w ≡ p + suc j * w = omega (arith, more) in
                let same : suc j * w ≡ w + j * w = omega (arith, more) in
                let split : take (suc j * w) b ≡ take w b ++ take (j * w) (drop w b) = ap (λ i. take i b) same ∙ take-add w (j * w) b in
                let front : length (take w b) ≡ w = length-take-le w b long in
                let behind : drop (j * w) (drop w b) ≡ drop (suc j * w) b = drop-drop (j * w) w b ∙ ap (λ i. drop i b) (sym same) in
                rw (
                  le-ltb (length b) (suc j * w) all,
                  le-ltb (length (drop w b)) (j * w) (omega (arith, more)),
                  place,
                  behind,
                  rest,
                  split,
                  take_at (take w b) (take (j * w) (drop w b)) w front,
                  drop_at (take w b) (take (j * w) (drop w b)) w front,
                )
                (before_cons (number_of f (take w b)) (trees_of (numbers f j (take (j * w) (drop w b)))) (row f (n - j) (p + suc j * w) (m - j) (drop (suc j * w) b)))
          ])
    ])

numbers_split : (f : IntegerKind) (k n p m : ℕ) (b : List ℕ) → k ≤ n → k ≤ m → row f n p m b ≡ follow (bytes_here (k * whole_len f) p (m - k) b) (after f k n)
numbers_split f zero n p m b h g = none_read f n p m b
numbers_split f (suc k) zero p m b h g = absurd (omega arith)
numbers_split f (suc k) (suc n) p zero b h g = absurd (omega arith)
numbers_split f (suc k) (suc n) p (suc m) b h g = more_read f k n p m b (λ q l c le. numbers_split f k n q l c (omega arith) le) (omega arith)

-- ---- blocks of a list

module _ (f : IntegerKind) (n i k : ℕ) (c d : Option (List ℕ)) (p q s : Progress) (place : s.place ≡ q.place) (begun : s.nodes ≡ q.nodes - k) (few : k ≤ n - i) (nodes : k ≤ q.nodes) where
  -- a block has been read
  pub numbers_more : (vs us : List Value) (xs : List ℕ) (e : Option (List ℕ)) (r : Progress) → ItemsSoFar (leaf_here (whole_shape f)) n i vs c d p q
      → (is_told d ≡ true → (bytes_here (k * whole_len f) s.place s.nodes (rest_of d) ≡ Ok (xs, r.place, r.nodes, rest_of e)) × (is_told e ≡ true))
      → map tree_of us ≡ map tree_of vs ++ numbers f k xs → ItemsSoFar (leaf_here (whole_shape f)) n (i + k) us c e p r
  numbers_more vs us xs e r h j found told =
      let a = h told in
      let b = j a.1 in
      let left : n - i - k ≡ n - (i + k) = omega arith in
      let on : bytes_here (k * whole_len f) q.place (q.nodes - k) (rest_of d) ≡ Ok (xs, r.place, r.nodes, rest_of e) = rw (← place, ← begun) b.0 in (
        a.0
            ∙ ap (items_before (items_trees vs)) (numbers_split f k (n - i) q.place q.nodes (rest_of d) few nodes ∙ rw on refl)
            ∙ before_append (map tree_of vs) (numbers f k xs) (items_here building (leaf_here (whole_shape f)) (n - i - k) r.place r.nodes (rest_of e))
            ∙ rw (← found, left) refl,
        b.1,
      )

  -- reading a block fails, and with it the list
  pub numbers_refused : (x : DecodeFault) (vs : List Value) → ItemsSoFar (leaf_here (whole_shape f)) n i vs c d p q
      → FindsFault x d s (bytes_here (k * whole_len f)) → FindsFault x c p (items_here building (leaf_here (whole_shape f)) n)
  numbers_refused x vs h =
      FindsFault-whole x c d p s (items_here building (leaf_here (whole_shape f)) n) (bytes_here (k * whole_len f)) (λ told. (h told).1)
      (λ e o told stop.
      let on : bytes_here (k * whole_len f) q.place (q.nodes - k) (rest_of d) ≡ Err (e, o) = rw (← place, ← begun) stop in
      let ends : row f (n - i) q.place q.nodes (rest_of d) ≡ Err (e, o) = numbers_split f k (n - i) q.place q.nodes (rest_of d) few nodes ∙ rw on refl in
      (h told).0 ∙ ap (items_before (items_trees vs)) ends)

-- the node limit is reached
pub numbers_none : (f : IntegerKind) (n i : ℕ) (vs : List Value) (c d : Option (List ℕ)) (p q : Progress) → i < n → q.nodes ≡ 0 → ItemsSoFar (leaf_here (whole_shape f)) n i vs c d p q
    → FindsFault (Stop (record { reason = TooManyNodes; place = q.place })) c p (items_here building (leaf_here (whole_shape f)) n)
numbers_none f n i vs c d p q lt none h =
    items_refused (Stop (record { reason = TooManyNodes; place = q.place })) (leaf_here (whole_shape f)) n i vs c d p q lt h (λ told. number_none f q.place q.nodes (rest_of d) none)

-- ---- the numbers of a block

wide : (f : IntegerKind) → 0 < whole_len f
wide (Unsigned w) = (byte_len_within (width_of w)).0
wide (Signed w) = (byte_len_within (width_of w)).0

-- the numbers appended so far, followed by those in `rest`, are all numbers of the block
abbrev pub PushedSoFar : IntegerKind → List Value → List ℕ → List Tree → Type 0
PushedSoFar f vs rest all = (k : ℕ) × (length rest ≡ k * whole_len f) × (map tree_of vs ++ numbers f k rest ≡ all)

pub pushed_more : (f : IntegerKind) (vs : List Value) (rest : List ℕ) (all : List Tree) (v : Value) → whole_len f ≤ length rest → tree_of v ≡ number_of f (take (whole_len f) rest)
    → PushedSoFar f vs rest all → PushedSoFar f (vs ++ v ∷ []) (drop (whole_len f) rest) all
pushed_more f vs rest all v long is (zero, left, whole) = absurd (let none : 0 * whole_len f ≡ 0 = omega arith in omega (arith, none, wide f))
pushed_more f vs rest all v long is (suc k, left, whole) =
    let w = whole_len f in (
      k,
      omega (arith, length-drop w rest, suc-mul k w),
      ap (λ l. l ++ numbers f k (drop w rest)) (map_push tree_of vs v) ∙ append_assoc (map tree_of vs) (tree_of v ∷ []) (numbers f k (drop w rest))
          ∙ ap (λ t. map tree_of vs ++ t ∷ numbers f k (drop w rest)) is ∙ whole,
    )

pub pushed_all : (f : IntegerKind) (vs : List Value) (rest : List ℕ) (all : List Tree) → length rest < whole_len f → PushedSoFar f vs rest all → map tree_of vs ≡ all
pushed_all f vs rest all short (zero, left, whole) = sym (append-nil (map tree_of vs)) ∙ whole
pushed_all f vs rest all short (suc k, left, whole) = absurd (omega (arith, suc-mul k (whole_len f)))
