-- A value keeps its parts in every registry that the older registry grows to.
use Rattle.bcs_decode_parts.proofs.Prelude.{◌≡◌, ℕ, zero, suc, ◌+◌, ◌==◌, ◌&&◌, List, [], ◌∷◌, ◌++◌, length, Bool, true, false, if◌then◌else◌, Option, Some, None, refl, sym, ap, ap₂, subst, ◌∙◌, bytes_eq, false≢true, and_parts, uleb, Shape, Shapes, no_shapes, shape, Entries, Content, of, one_of, nothing, content_at, choice_at, Grows, StaysIn, content_at-grows, choice_at-grows, Tree, Trees, no_trees, tree, Pairs, no_pairs, pair, count, fits, all_fit, each_fits, pairs_fit, payload_fits, plain, plain_newer, fitting_stays, stays_alike, Step, item, inner, key, Part, part_after, part_onward, item_of, item_in, value_of, step_at, part_at, IsSamePart, GrowthKeepsParts}
use Rattle.bcs_registry_model.specs.Shape as shape
use Rattle.bcs_value_model.specs.Tree as tree

module _ (older newer : Entries) (grows : Grows older newer) where
  -- a part of a fitting tree, and the same part in the newer registry
  pub record Stays (x y : Part) : Type 0 where
    pub value_is : y.value ≡ x.value
    pub place_is : y.place ≡ x.place
    pub content_stays : StaysIn x.content y.content
    pub fit : fits false older x.value x.content ≡ true

  abbrev Kept : Option Part → Option Part → Type 0
  Kept None None = Unit {0}
  Kept (Some x) (Some y) = Stays x y
  Kept None (Some y) = ⊥
  Kept (Some x) None = ⊥

  -- the same, `n` bytes further on
  kept_after : (n m : ℕ) (r q : Option Part) → n ≡ m → Kept r q → Kept (part_after n r) (part_after m q)
  kept_after n m None None e h = tt
  kept_after n m (Some x) (Some y) e h = record {
    value_is = h.value_is;
    place_is = ap₂ (λ (a b : ℕ). a + b) (sym e) h.place_is;
    content_stays = h.content_stays;
    fit = h.fit;
  }
  kept_after n m None (Some y) e h = absurd h
  kept_after n m (Some x) None e h = absurd h

  -- the same value
  kept_here : (t : Tree) (f g : Content) (n : ℕ) → StaysIn f g → fits false older t f ≡ true
      → Stays (record { value = t; content = f; place = n }) (record { value = t; content = g; place = n })
  kept_here t f g n stays h = record { value_is = refl; place_is = refl; content_stays = stays; fit = h }

  abbrev as_long : (t : Tree) (f : Content) → fits false older t f ≡ true → length (plain older t f) ≡ length (plain newer t f)
  as_long t f h = ap length (sym (plain_newer older newer grows t f h))

  items_kept : (ts : Trees) (s : Shape) (i : ℕ) → all_fit false older ts s ≡ true → Kept (item_of older ts s i) (item_of newer ts s i)
  items_kept no_trees s i h = tt
  items_kept (tree t ts) s zero h = kept_here t (of s) (of s) 0 refl (and_parts (fits false older t (of s)) (all_fit false older ts s) h).0
  items_kept (tree t ts) s (suc i) h =
      let p = and_parts (fits false older t (of s)) (all_fit false older ts s) h in
      kept_after _ _ (item_of older ts s i) (item_of newer ts s i) (as_long t (of s) p.0) (items_kept ts s i p.1)

  each_kept : (ts : Trees) (ss : Shapes) (i : ℕ) → each_fits false older ts ss ≡ true → Kept (item_in older ts ss i) (item_in newer ts ss i)
  each_kept no_trees ss i h = tt
  each_kept (tree t ts) no_shapes i h = tt
  each_kept (tree t ts) (shape s ss) zero h = kept_here t (of s) (of s) 0 refl (and_parts (fits false older t (of s)) (each_fits false older ts ss) h).0
  each_kept (tree t ts) (shape s ss) (suc i) h =
      let p = and_parts (fits false older t (of s)) (each_fits false older ts ss) h in
      kept_after _ _ (item_in older ts ss i) (item_in newer ts ss i) (as_long t (of s) p.0) (each_kept ts ss i p.1)

  entry_kept : (is_it : Bool) (v : Tree) (g : Shape) (n m l k : ℕ) (r q : Option Part) → n ≡ m → l ≡ k → fits false older v (of g) ≡ true → Kept r q
      → Kept (if is_it then Some (record { value = v; content = of g; place = n }) else part_after l r) (if is_it then Some (record { value = v; content = of g; place = m }) else part_after k q)
  entry_kept true v g n m l k r q e i h next = record { value_is = refl; place_is = sym e; content_stays = refl; fit = h }
  entry_kept false v g n m l k r q e i h next = kept_after l k r q i next

  value_kept : (ps : Pairs) (f g : Shape) (b : List ℕ) → pairs_fit false older ps f g ≡ true → Kept (value_of older ps f g b) (value_of newer ps f g b)
  value_kept no_pairs f g b h = tt
  value_kept (pair k v ps) f g b h =
      let p = and_parts (fits false older k (of f) && fits false older v (of g)) (pairs_fit false older ps f g) h in
      let q = and_parts (fits false older k (of f)) (fits false older v (of g)) p.0 in
      let is = plain_newer older newer grows k (of f) q.0 in
      let long = ap length is in
      let values = plain_newer older newer grows v (of g) q.1 in
      rw (is, values) (entry_kept (bytes_eq b (plain older k (of f))) v g _ _ _ _ (value_of older ps f g b) (value_of newer ps f g b) refl refl q.1 (value_kept ps f g b p.1))

  -- one step, in the same content
  alike_kept : (st : Step) (s : Shape) (t : Tree) → fits false older t (of s) ≡ true → Kept (step_at older st (of s) t) (step_at newer st (of s) t)
  alike_kept (item i) (shape.seq s) (tree.items ts) h = kept_after _ _ (item_of older ts s i) (item_of newer ts s i) refl (items_kept ts s i h)
  alike_kept (item i) (shape.tuple ss) (tree.items ts) h = each_kept ts ss i h
  alike_kept (item i) (shape.array s n) (tree.items ts) h = items_kept ts s i (and_parts (count ts == n) (all_fit false older ts s) h).1
  alike_kept inner (shape.option s) (tree.present t) h = kept_here t (of s) (of s) 1 refl h
  alike_kept inner (shape.name n) (tree.named t) h = kept_here t (content_at n older) (content_at n newer) 0 (content_at-grows older newer grows n) h
  alike_kept (key b) (shape.map k v) (tree.pairs ps) h = kept_after _ _ (value_of older ps k v b) (value_of newer ps k v b) refl (value_kept ps k v b h)
  alike_kept _ _ _ h = tt

  step_kept : (st : Step) (f g : Content) (t : Tree) → StaysIn f g → fits false older t f ≡ true → Kept (step_at older st f t) (step_at newer st g t)
  step_kept st (of s) (of u) t e h = subst (λ (x : Shape). Kept (step_at older st (of s) t) (step_at newer st (of x) t)) e (alike_kept st s t h)
  step_kept inner (one_of cs) (one_of ds) (tree.variant n t) e h =
      kept_here t (choice_at n cs) (choice_at n ds) (length (uleb n)) (choice_at-grows cs ds e n) (payload_fits false older n t cs h)
  step_kept _ (one_of cs) (one_of ds) _ e h = tt
  step_kept st nothing g t e h = absurd (false≢true h)
  step_kept st (of s) (one_of ds) t e h = absurd e
  step_kept st (of s) nothing t e h = absurd e
  step_kept st (one_of cs) (of u) t e h = absurd e
  step_kept st (one_of cs) nothing t e h = absurd e

  onward_kept : (path : List Step) → ((f g : Content) (t : Tree) → StaysIn f g → fits false older t f ≡ true → Kept (part_at older path f t) (part_at newer path g t))
      → (r q : Option Part) → Kept r q → Kept (part_onward (part_at older path) r) (part_onward (part_at newer path) q)
  onward_kept path next None None h = tt
  onward_kept path next (Some x) (Some y) h =
      kept_after x.place y.place (part_at older path x.content x.value) (part_at newer path y.content y.value) (sym h.place_is)
      (subst (λ (t : Tree). Kept (part_at older path x.content x.value) (part_at newer path y.content t)) (sym h.value_is) (next x.content y.content x.value h.content_stays h.fit))
  onward_kept path next None (Some y) h = absurd h
  onward_kept path next (Some x) None h = absurd h

  parts_kept : (path : List Step) (f g : Content) (t : Tree) → StaysIn f g → fits false older t f ≡ true → Kept (part_at older path f t) (part_at newer path g t)
  parts_kept [] f g t e h = kept_here t f g 0 e h
  parts_kept (s ∷ path) f g t e h = onward_kept path (parts_kept path) (step_at older s f t) (step_at newer s g t) (step_kept s f g t e h)

  -- parts that stay have the same bytes
  same_parts : (r q : Option Part) → Kept r q → IsSamePart older newer r q
  same_parts None None h = tt
  same_parts (Some x) (Some y) h = (
    h.value_is,
    h.place_is,
    ap (λ (t : Tree). plain newer t y.content) h.value_is
        ∙ fitting_stays (λ u g. plain newer u g ≡ plain older x.value x.content) (λ m u cs ds is p. ap (λ (g : Content). uleb m ++ plain newer u g) is ∙ p)
        older x.value x.content y.content h.content_stays h.fit (plain_newer older newer grows x.value x.content h.fit),
  )
  same_parts None (Some y) h = absurd h
  same_parts (Some x) None h = absurd h

pub growth_keeps_parts_is : GrowthKeepsParts
growth_keeps_parts_is = λ older newer path f t grows h.
    same_parts older newer grows (part_at older path f t) (part_at newer path f t) (parts_kept older newer grows path f f t (stays_alike f) h)
