-- Reading consecutive values.
use Rattle.bcs_decode_source.proofs.Prelude.{◌≡◌, ℕ, suc, ◌+◌, ◌-◌, ◌<◌, ◌≤◌, true, List, [], ◌∷◌, ◌++◌, map, Option, Some, None, Ok, Err, refl, sym, ap, ◌∙◌, arith, map_push, Shape, Shapes, no_shapes, shape, Entries, Tree, Trees, no_trees, tree, Pairs, no_pairs, pair, tree_of, trees_of, items_trees, pairs_of, entries_pairs, Value, DecodeFault, Progress, Parser, Read, follow, chain, give, items_here, pairs_here, key_here, each_here, value_here, building, is_told, rest_of, FindsFault, read}
use Rattle.bcs_decode_source.specs.Sees.{each}
use Rattle.bcs_decode_source.proofs.SourceSteps.{FindsFault-whole}

-- what was read, if the content is known
abbrev pub Found : {A : Type 0} → A → Parser A → Option (List ℕ) → Option (List ℕ) → Progress → Progress → Type 0
Found x f c d p q = is_told c ≡ true → (f p.place p.nodes (rest_of c) ≡ Ok (x, q.place, q.nodes, rest_of d)) × (is_told d ≡ true)

-- concatenates two lists of trees
abbrev pub joined : Trees → Trees → Trees
joined no_trees us = us
joined (tree t ts) us = tree t (joined ts us)

abbrev pub items_before : Trees → Read Trees → Read Trees
items_before ts r = follow r (λ us. give (joined ts us))

joined_none : (ts : Trees) → joined ts no_trees ≡ ts
joined_none no_trees = refl
joined_none (tree t ts) = ap (tree t) (joined_none ts)

trees_of_push : (vs : List Tree) (t : Tree) (us : Trees) → joined (trees_of (vs ++ t ∷ [])) us ≡ joined (trees_of vs) (tree t us)
trees_of_push [] t us = refl
trees_of_push (v ∷ vs) t us = ap (tree v) (trees_of_push vs t us)

items_pushed : (vs : List Value) (v : Value) (us : Trees) → joined (items_trees (vs ++ v ∷ [])) us ≡ joined (items_trees vs) (tree (tree_of v) us)
items_pushed vs v us = ap (λ (x : List Tree). joined (trees_of x) us) (map_push tree_of vs v) ∙ trees_of_push (map tree_of vs) (tree_of v) us

before_more : (vs : List Value) (v : Value) (x : Read Trees) → items_before (items_trees vs) (follow x (λ ts. give (tree (tree_of v) ts))) ≡ items_before (items_trees (vs ++ v ∷ [])) x
unfolding give
before_more vs v (Ok x) = ap (λ (us : Trees). Ok (us, x.1, x.2, x.3)) (sym (items_pushed vs v x.0))
before_more vs v (Err e) = refl

pub before_none : (x : Read Trees) → items_before no_trees x ≡ x
unfolding give
before_none (Ok x) = refl
before_none (Err e) = refl

-- ---- `n` values of one format

abbrev pub ItemsSoFar : Parser Tree → ℕ → ℕ → List Value → Option (List ℕ) → Option (List ℕ) → Progress → Progress → Type 0
ItemsSoFar f n i vs c d p q = is_told c ≡ true → (items_here building f n p.place p.nodes (rest_of c) ≡ items_before (items_trees vs) (items_here building f (n - i) q.place q.nodes (rest_of d))) × (is_told d ≡ true)

pub items_none : (f : Parser Tree) (n : ℕ) (vs : List Value) (c : Option (List ℕ)) (p : Progress) → vs ≡ [] → ItemsSoFar f n 0 vs c c p p
items_none f n vs c p none told = let all : n - 0 ≡ n = omega arith in (rw (none, all) (sym (before_none (items_here building f n p.place p.nodes (rest_of c)))), told)

pub items_more : (f : Parser Tree) (n i : ℕ) (vs : List Value) (v : Value) (c d e : Option (List ℕ)) (p q r : Progress) → i < n → ItemsSoFar f n i vs c d p q → Found (tree_of v) f d e q r → ItemsSoFar f n (i + 1) (vs ++ v ∷ []) c e p r
unfolding items_here chain
items_more f n i vs v c d e p q r lt h j told =
    let a = h told in
    let b = j a.1 in
    let k : n - i ≡ suc (n - (i + 1)) = omega arith in
    (a.0 ∙ rw (k, b.0) (before_more vs v (items_here building f (n - (i + 1)) r.place r.nodes (rest_of e))), b.1)

pub items_done : (f : Parser Tree) (n i : ℕ) (vs : List Value) (c d : Option (List ℕ)) (p q : Progress) → n ≤ i → ItemsSoFar f n i vs c d p q → Found (items_trees vs) (items_here building f n) c d p q
unfolding items_here give
items_done f n i vs c d p q le h told =
    let a = h told in
    let k : n - i ≡ 0 = omega arith in
    (a.0 ∙ rw k (ap (λ (us : Trees). Ok (us, q.place, q.nodes, rest_of d)) (joined_none (items_trees vs))), a.1)

pub items_refused : (x : DecodeFault) (f : Parser Tree) (n i : ℕ) (vs : List Value) (c d : Option (List ℕ)) (p q : Progress) → i < n → ItemsSoFar f n i vs c d p q → FindsFault x d q f → FindsFault x c p (items_here building f n)
unfolding items_here chain
items_refused x f n i vs c d p q lt h =
    FindsFault-whole x c d p q (items_here building f n) f (λ told. (h told).1)
    (λ e o told stop. let k : n - i ≡ suc (n - (i + 1)) = omega arith in (h told).0 ∙ rw (k, stop) refl)

-- ---- values of several formats

module _ (registry : Entries) (depth : ℕ) where
  abbrev pub EachSoFar : Shapes → Shapes → List Value → Option (List ℕ) → Option (List ℕ) → Progress → Progress → Type 0
  EachSoFar ss ts vs c d p q = is_told c ≡ true → (each registry depth ss p.place p.nodes (rest_of c) ≡ items_before (items_trees vs) (each registry depth ts q.place q.nodes (rest_of d))) × (is_told d ≡ true)

  pub each_none : (ss ts : Shapes) (vs : List Value) (c : Option (List ℕ)) (p : Progress) → ts ≡ ss → vs ≡ [] → EachSoFar ss ts vs c c p p
  each_none ss ts vs c p whole none told = (rw (none, whole) (sym (before_none (each registry depth ss p.place p.nodes (rest_of c)))), told)

  pub each_more : (ss ts us : Shapes) (s : Shape) (vs : List Value) (v : Value) (c d e : Option (List ℕ)) (p q r : Progress) → ts ≡ shape s us → EachSoFar ss ts vs c d p q → Found (tree_of v) (read registry depth s) d e q r → EachSoFar ss us (vs ++ v ∷ []) c e p r
  unfolding each_here chain value_here
  each_more ss ts us s vs v c d e p q r is h j told =
      let a = h told in
      let b = j a.1 in
      (a.0 ∙ rw (is, b.0) (before_more vs v (each registry depth us r.place r.nodes (rest_of e))), b.1)

  pub each_done : (ss ts : Shapes) (vs : List Value) (c d : Option (List ℕ)) (p q : Progress) → ts ≡ no_shapes → EachSoFar ss ts vs c d p q → Found (items_trees vs) (each registry depth ss) c d p q
  unfolding each_here give
  each_done ss ts vs c d p q is h told =
      let a = h told in
      (a.0 ∙ rw is (ap (λ (us : Trees). Ok (us, q.place, q.nodes, rest_of d)) (joined_none (items_trees vs))), a.1)

  pub each_refused : (x : DecodeFault) (ss ts us : Shapes) (s : Shape) (vs : List Value) (c d : Option (List ℕ)) (p q : Progress) → ts ≡ shape s us → EachSoFar ss ts vs c d p q → FindsFault x d q (read registry depth s) → FindsFault x c p (each registry depth ss)
  unfolding each_here chain value_here
  each_refused x ss ts us s vs c d p q is h =
      FindsFault-whole x c d p q (each registry depth ss) (read registry depth s) (λ told. (h told).1)
      (λ e o told stop. (h told).0 ∙ rw (is, stop) refl)

-- ---- entries

abbrev joined_pairs : Pairs → Pairs → Pairs
joined_pairs no_pairs us = us
joined_pairs (pair a b ts) us = pair a b (joined_pairs ts us)

abbrev pub pairs_before : Pairs → Read Pairs → Read Pairs
pairs_before ts r = follow r (λ us. give (joined_pairs ts us))

joined_pairs_none : (ts : Pairs) → joined_pairs ts no_pairs ≡ ts
joined_pairs_none no_pairs = refl
joined_pairs_none (pair a b ts) = ap (pair a b) (joined_pairs_none ts)

pairs_of_push : (vs : List (Tree × Tree)) (t : Tree × Tree) (us : Pairs) → joined_pairs (pairs_of (vs ++ t ∷ [])) us ≡ joined_pairs (pairs_of vs) (pair t.0 t.1 us)
pairs_of_push [] t us = refl
pairs_of_push (v ∷ vs) t us = ap (pair v.0 v.1) (pairs_of_push vs t us)

pairs_pushed : (vs : List (Value × Value)) (v : Value × Value) (us : Pairs) → joined_pairs (entries_pairs (vs ++ v ∷ [])) us ≡ joined_pairs (entries_pairs vs) (pair (tree_of v.0) (tree_of v.1) us)
pairs_pushed vs v us = ap (λ (x : List (Tree × Tree)). joined_pairs (pairs_of x) us) (map_push (λ p. (tree_of p.0, tree_of p.1)) vs v) ∙ pairs_of_push (map (λ p. (tree_of p.0, tree_of p.1)) vs) (tree_of v.0, tree_of v.1) us

pairs_before_none : (x : Read Pairs) → pairs_before no_pairs x ≡ x
unfolding give
pairs_before_none (Ok x) = refl
pairs_before_none (Err e) = refl

pairs_before_more : (vs : List (Value × Value)) (u v : Value) (x : Read Pairs) → pairs_before (entries_pairs vs) (follow x (λ ps. give (pair (tree_of u) (tree_of v) ps))) ≡ pairs_before (entries_pairs (vs ++ (u, v) ∷ [])) x
unfolding give
pairs_before_more vs u v (Ok x) = ap (λ (us : Pairs). Ok (us, x.1, x.2, x.3)) (sym (pairs_pushed vs (u, v) x.0))
pairs_before_more vs u v (Err e) = refl

abbrev pub PairsSoFar : Parser Tree → Parser Tree → ℕ → ℕ → Option (List ℕ) → List (Value × Value) → Option (List ℕ) → Option (List ℕ) → Progress → Progress → Type 0
PairsSoFar f g n i last vs c d p q = is_told c ≡ true → (pairs_here building f g None n p.place p.nodes (rest_of c) ≡ pairs_before (entries_pairs vs) (pairs_here building f g last (n - i) q.place q.nodes (rest_of d))) × (is_told d ≡ true)

pub pairs_none : (f g : Parser Tree) (n : ℕ) (vs : List (Value × Value)) (c : Option (List ℕ)) (p : Progress) → vs ≡ [] → PairsSoFar f g n 0 None vs c c p p
pairs_none f g n vs c p none told = let all : n - 0 ≡ n = omega arith in (rw (none, all) (sym (pairs_before_none (pairs_here building f g None n p.place p.nodes (rest_of c)))), told)

pub pairs_more : (f g : Parser Tree) (n i : ℕ) (last : Option (List ℕ)) (key : List ℕ) (vs : List (Value × Value)) (u v : Value) (c d e s : Option (List ℕ)) (p q r t : Progress) → i < n → PairsSoFar f g n i last vs c d p q
    → Found (tree_of u, key) (key_here f last) d e q r → Found (tree_of v) g e s r t → PairsSoFar f g n (i + 1) (Some key) (vs ++ (u, v) ∷ []) c s p t
unfolding pairs_here chain
pairs_more f g n i last key vs u v c d e s p q r t lt h j l told =
    let a = h told in
    let b = j a.1 in
    let w = l b.1 in
    let k : n - i ≡ suc (n - (i + 1)) = omega arith in
    (a.0 ∙ rw (k, b.0, w.0) (pairs_before_more vs u v (pairs_here building f g (Some key) (n - (i + 1)) t.place t.nodes (rest_of s))), w.1)

pub pairs_done : (f g : Parser Tree) (n i : ℕ) (last : Option (List ℕ)) (vs : List (Value × Value)) (c d : Option (List ℕ)) (p q : Progress) → n ≤ i → PairsSoFar f g n i last vs c d p q
    → Found (entries_pairs vs) (pairs_here building f g None n) c d p q
unfolding pairs_here give
pairs_done f g n i last vs c d p q le h told =
    let a = h told in
    let k : n - i ≡ 0 = omega arith in
    (a.0 ∙ rw k (ap (λ (us : Pairs). Ok (us, q.place, q.nodes, rest_of d)) (joined_pairs_none (entries_pairs vs))), a.1)

pub key_refused : (x : DecodeFault) (f g : Parser Tree) (n i : ℕ) (last : Option (List ℕ)) (vs : List (Value × Value)) (c d : Option (List ℕ)) (p q : Progress) → i < n → PairsSoFar f g n i last vs c d p q
    → FindsFault x d q (key_here f last) → FindsFault x c p (pairs_here building f g None n)
unfolding pairs_here chain
key_refused x f g n i last vs c d p q lt h =
    FindsFault-whole x c d p q (pairs_here building f g None n) (key_here f last) (λ told. (h told).1)
    (λ e o told stop. let k : n - i ≡ suc (n - (i + 1)) = omega arith in (h told).0 ∙ rw (k, stop) refl)

pub value_refused : (x : DecodeFault) (f g : Parser Tree) (n i : ℕ) (last : Option (List ℕ)) (key : List ℕ) (vs : List (Value × Value)) (u : Value) (c d e : Option (List ℕ)) (p q r : Progress) → i < n → PairsSoFar f g n i last vs c d p q
    → Found (tree_of u, key) (key_here f last) d e q r → FindsFault x e r g → FindsFault x c p (pairs_here building f g None n)
unfolding pairs_here chain
value_refused x f g n i last key vs u c d e p q r lt h j =
    FindsFault-whole x c e p r (pairs_here building f g None n) g (λ told. (j (h told).1).1)
    (λ o w told stop. let k : n - i ≡ suc (n - (i + 1)) = omega arith in (h told).0 ∙ rw (k, (j (h told).1).0, stop) refl)
