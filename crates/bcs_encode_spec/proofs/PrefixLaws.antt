-- No encoding is a prefix of another.
use Rattle.bcs_encode_spec.proofs.Prelude.{◌≡◌, ℕ, ◌^◌, Bool, true, false, ◌&&◌, ◌==◌, List, [], ◌∷◌, ◌++◌, length, refl, sym, ap, ap₂, subst, ◌∙◌, append_assoc, false≢true, and_parts, eqb-true, ltb-true, bits, uleb, holds_signed-is, uleb_prefix_free, le_prefix_free, le_signed_prefix_free, Tree, Trees, no_trees, tree, Pairs, no_pairs, pair, count, pair_count, Shape, Shapes, no_shapes, shape, Entries, Content, of, one_of, content_at, choice_at, fits, all_fit, each_fits, pairs_fit, payload_fits, plain, plain_items, plain_each, plain_pairs, truth_byte}
use Rattle.bcs_value_model.specs.Tree as tree
use Rattle.bcs_registry_model.specs.Shape as shape

-- a ULEB128 number followed by more bytes, on either side
number_free : (m n : ℕ) (b c r s : List ℕ) → (uleb m ++ b) ++ r ≡ (uleb n ++ c) ++ s → (m ≡ n) × (b ++ r ≡ c ++ s)
number_free m n b c r s e = uleb_prefix_free m n (b ++ r) (c ++ s) (sym (append_assoc (uleb m) b r) ∙ e ∙ append_assoc (uleb n) c s)

same_front : (b c r s : List ℕ) → length b ≡ length c → b ++ r ≡ c ++ s → (b ≡ c) × (r ≡ s)
same_front [] [] r s l e = (refl, e)
same_front [] (y ∷ c) r s l e = absurd cc
same_front (x ∷ b) [] r s l e = absurd cc
same_front (x ∷ b) (y ∷ c) r s l e =
    let h : x ≡ y = cc in
    let t : b ++ r ≡ c ++ s = cc in
    let k : length b ≡ length c = cc in
    let i = same_front b c r s k t in
    (ap₂ (λ (z : ℕ) (zs : List ℕ). z ∷ zs) h i.0, i.1)

pair_same : {k l v w : Tree} {ps qs : Pairs} → k ≡ l → v ≡ w → ps ≡ qs → pair k v ps ≡ pair l w qs
pair_same e d h = cc

truth_free : (a b : Bool) (r s : List ℕ) → truth_byte a ∷ r ≡ truth_byte b ∷ s → (a ≡ b) × (r ≡ s)
truth_free true true r s e = (refl, cc)
truth_free true false r s e = absurd cc
truth_free false true r s e = absurd cc
truth_free false false r s e = (refl, cc)

module _ (registry : Entries) where
  mutual
    pub plain_free : (a : Tree) (f : Content) (b : Tree) (r s : List ℕ) → fits false registry a f ≡ true → fits false registry b f ≡ true
        → plain registry a f ++ r ≡ plain registry b f ++ s → (a ≡ b) × (r ≡ s)
    plain_free tree.unit (of shape.unit) tree.unit r s h g e = (refl, e)
    plain_free (tree.truth x) (of shape.truth) (tree.truth y) r s h g e = let q = truth_free x y r s e in (ap tree.truth q.0, q.1)
    plain_free (tree.unsigned m) (of (shape.unsigned w)) (tree.unsigned n) r s h g e =
        let q = le_prefix_free w m n r s (ltb-true m (2 ^ bits w) h) (ltb-true n (2 ^ bits w) g) e in
        (ap tree.unsigned q.0, q.1)
    plain_free (tree.signed y) (of (shape.signed w)) (tree.signed z) r s h g e = let q = le_signed_prefix_free w y z r s (holds_signed-is w y h) (holds_signed-is w z g) e in (ap tree.signed q.0, q.1)
    plain_free (tree.text x) (of shape.text) (tree.text y) r s h g e =
        let p = number_free (length x) (length y) x y r s e in
        let q = same_front x y r s p.0 p.1 in
        (ap tree.text q.0, q.1)
    plain_free (tree.bytes x) (of shape.bytes) (tree.bytes y) r s h g e =
        let p = number_free (length x) (length y) x y r s e in
        let q = same_front x y r s p.0 p.1 in
        (ap tree.bytes q.0, q.1)
    plain_free tree.absent (of (shape.option f)) tree.absent r s h g e =
        let q : r ≡ s = cc in
        (refl, q)
    plain_free (tree.present t) (of (shape.option f)) (tree.present u) r s h g e =
        let d : plain registry t (of f) ++ r ≡ plain registry u (of f) ++ s = cc in
        let q = plain_free t (of f) u r s h g d in
        (ap tree.present q.0, q.1)
    plain_free (tree.items ts) (of (shape.seq f)) (tree.items us) r s h g e =
        let p = number_free (count ts) (count us) (plain_items registry ts f) (plain_items registry us f) r s e in
        let q = items_free ts f us r s h g p.0 p.1 in
        (ap tree.items q.0, q.1)
    plain_free (tree.items ts) (of (shape.tuple fs)) (tree.items us) r s h g e =
        let q = each_free ts fs us r s h g e in
        (ap tree.items q.0, q.1)
    plain_free (tree.items ts) (of (shape.array f n)) (tree.items us) r s h g e =
        let hs = and_parts (count ts == n) (all_fit false registry ts f) h in
        let gs = and_parts (count us == n) (all_fit false registry us f) g in
        let q = items_free ts f us r s hs.1 gs.1 (eqb-true (count ts) n hs.0 ∙ sym (eqb-true (count us) n gs.0)) e in
        (ap tree.items q.0, q.1)
    plain_free (tree.variant m t) (one_of cs) (tree.variant n u) r s h g e =
        let p = number_free m n (plain registry t (choice_at m cs)) (plain registry u (choice_at n cs)) r s e in
        let is : n ≡ m = sym p.0 in
        let q = plain_free t (choice_at m cs) u r s (payload_fits false registry m t cs h) (subst (λ (x : ℕ). fits false registry u (choice_at x cs) ≡ true) is (payload_fits false registry n u cs g))
        (p.1 ∙ ap (λ (x : ℕ). plain registry u (choice_at x cs) ++ s) is) in
        let c : t ≡ u = q.0 in
        let whole : tree.variant m t ≡ tree.variant n u = cc in
        (whole, q.1)
    plain_free (tree.pairs ps) (of (shape.map k v)) (tree.pairs qs) r s h g e =
        let p = number_free (pair_count ps) (pair_count qs) (plain_pairs registry ps k v) (plain_pairs registry qs k v) r s e in
        let q = pairs_free ps k v qs r s h g p.0 p.1 in
        (ap tree.pairs q.0, q.1)
    plain_free (tree.named t) (of (shape.name n)) (tree.named u) r s h g e =
        let q = plain_free t (content_at n registry) u r s h g e in
        (ap tree.named q.0, q.1)
    plain_free (tree.variant m t) (of shape.unit) b r s h g e = absurd cc
    plain_free tree.absent (of (shape.option f)) (tree.present u) r s h g e = absurd cc
    plain_free (tree.present t) (of (shape.option f)) tree.absent r s h g e = absurd cc
    plain_free _ _ _ r s h g e = absurd (search (false≢true))

    each_free : (ts : Trees) (fs : Shapes) (us : Trees) (r s : List ℕ) → each_fits false registry ts fs ≡ true → each_fits false registry us fs ≡ true
        → plain_each registry ts fs ++ r ≡ plain_each registry us fs ++ s → (ts ≡ us) × (r ≡ s)
    each_free no_trees no_shapes no_trees r s h g e = (refl, e)
    each_free (tree t ts) (shape f fs) (tree u us) r s h g e =
        let hs = and_parts (fits false registry t (of f)) (each_fits false registry ts fs) h in
        let gs = and_parts (fits false registry u (of f)) (each_fits false registry us fs) g in
        let p = plain_free t (of f) u (plain_each registry ts fs ++ r) (plain_each registry us fs ++ s) hs.0 gs.0
        (sym (append_assoc (plain registry t (of f)) (plain_each registry ts fs) r) ∙ e ∙ append_assoc (plain registry u (of f)) (plain_each registry us fs) s) in
        let q = each_free ts fs us r s hs.1 gs.1 p.1 in
        (ap₂ tree p.0 q.0, q.1)
    each_free _ _ _ r s h g e = absurd cc

    items_free : (ts : Trees) (f : Shape) (us : Trees) (r s : List ℕ) → all_fit false registry ts f ≡ true → all_fit false registry us f ≡ true
        → count ts ≡ count us → plain_items registry ts f ++ r ≡ plain_items registry us f ++ s → (ts ≡ us) × (r ≡ s)
    items_free no_trees f no_trees r s h g n e = (refl, e)
    items_free no_trees f (tree u us) r s h g n e = absurd cc
    items_free (tree t ts) f no_trees r s h g n e = absurd cc
    items_free (tree t ts) f (tree u us) r s h g n e =
        let hs = and_parts (fits false registry t (of f)) (all_fit false registry ts f) h in
        let gs = and_parts (fits false registry u (of f)) (all_fit false registry us f) g in
        let p = plain_free t (of f) u (plain_items registry ts f ++ r) (plain_items registry us f ++ s) hs.0 gs.0
        (sym (append_assoc (plain registry t (of f)) (plain_items registry ts f) r) ∙ e ∙ append_assoc (plain registry u (of f)) (plain_items registry us f) s) in
        let m : count ts ≡ count us = cc in
        let q = items_free ts f us r s hs.1 gs.1 m p.1 in
        (ap₂ tree p.0 q.0, q.1)

    pairs_free : (ps : Pairs) (f g : Shape) (qs : Pairs) (r s : List ℕ) → pairs_fit false registry ps f g ≡ true → pairs_fit false registry qs f g ≡ true
        → pair_count ps ≡ pair_count qs → plain_pairs registry ps f g ++ r ≡ plain_pairs registry qs f g ++ s → (ps ≡ qs) × (r ≡ s)
    pairs_free no_pairs f g no_pairs r s h j n e = (refl, e)
    pairs_free no_pairs f g (pair l w qs) r s h j n e = absurd cc
    pairs_free (pair k v ps) f g no_pairs r s h j n e = absurd cc
    pairs_free (pair k v ps) f g (pair l w qs) r s h j n e =
        let hs = and_parts (fits false registry k (of f) && fits false registry v (of g)) (pairs_fit false registry ps f g) h in
        let js = and_parts (fits false registry l (of f) && fits false registry w (of g)) (pairs_fit false registry qs f g) j in
        let ha = and_parts (fits false registry k (of f)) (fits false registry v (of g)) hs.0 in
        let ja = and_parts (fits false registry l (of f)) (fits false registry w (of g)) js.0 in
        let i1 = append_assoc (plain registry k (of f)) (plain registry v (of g) ++ plain_pairs registry ps f g) r ∙ ap (λ (x : List ℕ). plain registry k (of f) ++ x) (append_assoc (plain registry v (of g)) (plain_pairs registry ps f g) r) in
        let i2 = append_assoc (plain registry l (of f)) (plain registry w (of g) ++ plain_pairs registry qs f g) s ∙ ap (λ (x : List ℕ). plain registry l (of f) ++ x) (append_assoc (plain registry w (of g)) (plain_pairs registry qs f g) s) in
        let p = plain_free k (of f) l (plain registry v (of g) ++ (plain_pairs registry ps f g ++ r)) (plain registry w (of g) ++ (plain_pairs registry qs f g ++ s)) ha.0 ja.0 (sym i1 ∙ e ∙ i2) in
        let p2 = plain_free v (of g) w (plain_pairs registry ps f g ++ r) (plain_pairs registry qs f g ++ s) ha.1 ja.1 p.1 in
        let m : pair_count ps ≡ pair_count qs = cc in
        let q = pairs_free ps f g qs r s hs.1 js.1 m p2.1 in
        (pair_same p.0 p2.0 q.0, q.1)
