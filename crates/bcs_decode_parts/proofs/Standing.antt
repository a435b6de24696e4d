-- The bytes of a part are in the whole input, at its place.
use Rattle.bcs_decode_parts.proofs.Prelude.{◌≡◌, ℕ, zero, suc, ◌+◌, List, [], ◌∷◌, ◌++◌, length, Bool, true, false, if◌then◌else◌, Option, Some, None, refl, sym, ap, subst, ◌∙◌, append_assoc, arith, length-append, append-nil, bytes_eq, uleb, Shape, Shapes, no_shapes, shape, Entries, Content, of, one_of, content_at, choice_at, Tree, Trees, no_trees, tree, Pairs, no_pairs, pair, count, pair_count, plain, plain_items, plain_each, plain_pairs, Step, item, inner, key, Part, part_after, part_onward, item_of, item_in, value_of, step_at, part_at, Stands, PartStands}
use Rattle.bcs_registry_model.specs.Shape as shape
use Rattle.bcs_value_model.specs.Tree as tree

module _ (registry : Entries) where
  -- more bytes come before
  stands_after : (front whole : List ℕ) (n : ℕ) (x : Part) → length front ≡ n → Stands registry whole x → Stands registry (front ++ whole) (record x { place = n + x.place })
  stands_after front whole n x e h = record {
    before = front ++ h.before;
    after = h.after;
    place = omega (arith, e, h.place, length-append front h.before);
    is = ap (λ (b : List ℕ). front ++ b) h.is ∙ sym (append_assoc front h.before (plain registry x.value x.content ++ h.after));
  }

  -- more bytes come after
  stands_before : (whole rest : List ℕ) (x : Part) → Stands registry whole x → Stands registry (whole ++ rest) x
  stands_before whole rest x h = record {
    before = h.before;
    after = h.after ++ rest;
    place = h.place;
    is = ap (λ (b : List ℕ). b ++ rest) h.is ∙ append_assoc h.before (plain registry x.value x.content ++ h.after) rest
        ∙ ap (λ (b : List ℕ). h.before ++ b) (append_assoc (plain registry x.value x.content) h.after rest);
  }

  -- the bytes are exactly the part
  stands_here : (t : Tree) (f : Content) (rest : List ℕ) → Stands registry (plain registry t f ++ rest) (record { value = t; content = f; place = 0 })
  stands_here t f rest = record { before = []; after = rest; place = refl; is = refl }

  -- a part found after other bytes
  found_after : (front whole : List ℕ) (n : ℕ) (r : Option Part) (x : Part) → length front ≡ n → ((y : Part) → r ≡ Some y → Stands registry whole y)
      → part_after n r ≡ Some x → Stands registry (front ++ whole) x
  found_after front whole n None x e h k = absurd cc
  found_after front whole n (Some y) x e h k =
      let same : record y { place = n + y.place } ≡ x = cc in
      subst (Stands registry (front ++ whole)) same (stands_after front whole n y e (h y refl))

  item_stands : (ts : Trees) (s : Shape) (i : ℕ) (x : Part) → item_of registry ts s i ≡ Some x → Stands registry (plain_items registry ts s) x
  item_stands no_trees s i x e = absurd cc
  item_stands (tree t ts) s zero x e =
      let same : record { value = t; content = of s; place = 0 } ≡ x = cc in
      subst (Stands registry (plain_items registry (tree t ts) s)) same (stands_here t (of s) (plain_items registry ts s))
  item_stands (tree t ts) s (suc i) x e =
      found_after (plain registry t (of s)) (plain_items registry ts s) (length (plain registry t (of s))) (item_of registry ts s i) x refl (item_stands ts s i) e

  each_stands : (ts : Trees) (ss : Shapes) (i : ℕ) (x : Part) → item_in registry ts ss i ≡ Some x → Stands registry (plain_each registry ts ss) x
  each_stands (tree t ts) (shape s ss) zero x e =
      let same : record { value = t; content = of s; place = 0 } ≡ x = cc in
      subst (Stands registry (plain_each registry (tree t ts) (shape s ss))) same (stands_here t (of s) (plain_each registry ts ss))
  each_stands (tree t ts) (shape s ss) (suc i) x e =
      found_after (plain registry t (of s)) (plain_each registry ts ss) (length (plain registry t (of s))) (item_in registry ts ss i) x refl (each_stands ts ss i) e
  each_stands no_trees ss i x e = absurd cc
  each_stands (tree t ts) no_shapes i x e = absurd cc

  entry_stands : (k v : Tree) (f g : Shape) (is_it : Bool) (rest : List ℕ) (r : Option Part) (x : Part) → ((y : Part) → r ≡ Some y → Stands registry rest y)
      → (if is_it then Some (record { value = v; content = of g; place = length (plain registry k (of f)) }) else part_after (length (plain registry k (of f)) + length (plain registry v (of g))) r) ≡ Some x
      → Stands registry (plain registry k (of f) ++ (plain registry v (of g) ++ rest)) x
  entry_stands k v f g true rest r x next h =
      let same : record { value = v; content = of g; place = length (plain registry k (of f)) } ≡ x = cc in
      subst (Stands registry (plain registry k (of f) ++ (plain registry v (of g) ++ rest))) same
      (record { before = plain registry k (of f); after = rest; place = refl; is = refl })
  entry_stands k v f g false rest r x next h =
      subst (λ (z : List ℕ). Stands registry z x) (append_assoc (plain registry k (of f)) (plain registry v (of g)) rest)
      (found_after (plain registry k (of f) ++ plain registry v (of g)) rest (length (plain registry k (of f)) + length (plain registry v (of g))) r x (length-append (plain registry k (of f)) (plain registry v (of g))) next h)

  value_stands : (ps : Pairs) (f g : Shape) (b : List ℕ) (x : Part) → value_of registry ps f g b ≡ Some x → Stands registry (plain_pairs registry ps f g) x
  value_stands no_pairs f g b x e = absurd cc
  value_stands (pair k v ps) f g b x e = entry_stands k v f g (bytes_eq b (plain registry k (of f))) (plain_pairs registry ps f g) (value_of registry ps f g b) x (λ y h. value_stands ps f g b y h) e

  -- one step
  step_stands : (s : Step) (f : Content) (t : Tree) (x : Part) → step_at registry s f t ≡ Some x → Stands registry (plain registry t f) x
  step_stands (item i) (of (shape.seq s)) (tree.items ts) x e =
      found_after (uleb (count ts)) (plain_items registry ts s) (length (uleb (count ts))) (item_of registry ts s i) x refl (item_stands ts s i) e
  step_stands (item i) (of (shape.tuple ss)) (tree.items ts) x e = each_stands ts ss i x e
  step_stands (item i) (of (shape.array s n)) (tree.items ts) x e = item_stands ts s i x e
  step_stands inner (of (shape.option s)) (tree.present t) x e =
      let same : record { value = t; content = of s; place = 1 } ≡ x = cc in
      subst (Stands registry (1 ∷ plain registry t (of s))) same
      (record { before = 1 ∷ []; after = []; place = refl; is = ap (λ (b : List ℕ). 1 ∷ b) (sym (append-nil (plain registry t (of s)))) })
  step_stands inner (of (shape.name n)) (tree.named t) x e =
      let same : record { value = t; content = content_at n registry; place = 0 } ≡ x = cc in
      subst (Stands registry (plain registry t (content_at n registry))) same
      (record { before = []; after = []; place = refl; is = sym (append-nil (plain registry t (content_at n registry))) })
  step_stands inner (one_of cs) (tree.variant n t) x e =
      let same : record { value = t; content = choice_at n cs; place = length (uleb n) } ≡ x = cc in
      subst (Stands registry (uleb n ++ plain registry t (choice_at n cs))) same
      (record { before = uleb n; after = []; place = refl; is = ap (λ (b : List ℕ). uleb n ++ b) (sym (append-nil (plain registry t (choice_at n cs)))) })
  step_stands (key b) (of (shape.map k v)) (tree.pairs ps) x e =
      found_after (uleb (pair_count ps)) (plain_pairs registry ps k v) (length (uleb (pair_count ps))) (value_of registry ps k v b) x refl (value_stands ps k v b) e
  step_stands _ _ _ x e = absurd cc

  onward_stands : (path : List Step) → ((f : Content) (t : Tree) (x : Part) → part_at registry path f t ≡ Some x → Stands registry (plain registry t f) x)
      → (whole : List ℕ) (r : Option Part) (x : Part) → ((y : Part) → r ≡ Some y → Stands registry whole y) → part_onward (part_at registry path) r ≡ Some x → Stands registry whole x
  onward_stands path h whole None x k e = absurd cc
  onward_stands path h whole (Some y) x k e =
      let s = k y refl in
      subst (λ (z : List ℕ). Stands registry z x) (sym s.is)
      (found_after s.before (plain registry y.value y.content ++ s.after) y.place (part_at registry path y.content y.value) x s.place
      (λ z i. stands_before (plain registry y.value y.content) s.after z (h y.content y.value z i)) e)

  pub stands : (path : List Step) (f : Content) (t : Tree) (x : Part) → part_at registry path f t ≡ Some x → Stands registry (plain registry t f) x
  stands [] f t x e =
      let same : record { value = t; content = f; place = 0 } ≡ x = cc in
      subst (Stands registry (plain registry t f)) same (record { before = []; after = []; place = refl; is = sym (append-nil (plain registry t f)) })
  stands (s ∷ path) f t x e = onward_stands path (stands path) (plain registry t f) (step_at registry s f t) x (step_stands s f t) e

pub part_stands_is : PartStands
part_stands_is = λ registry path f t x e. stands registry path f t x e
