-- The element with a given index in a sequence of values: the values before it, and those after it.
use Rattle.bcs_decode_parts.proofs.Prelude.{◌≡◌, ℕ, zero, suc, ◌+◌, ◌<◌, ◌≤◌, List, ◌++◌, length, Some, None, refl, sym, ap, ◌∙◌, append_assoc, arith, false≢true, length-append, Shape, Shapes, no_shapes, shape, Entries, of, Tree, Trees, no_trees, tree, count, nodes, trees_nodes, plain, plain_items, plain_each, IsDecodable, AllAre, EachIs, each_is, is_each, part_after, item_of, item_in}

-- concatenates two lists of formats
abbrev pub shapes_joined : Shapes → Shapes → Shapes
shapes_joined no_shapes ss = ss
shapes_joined (shape s rest) ss = shape s (shapes_joined rest ss)

abbrev pub shapes_count : Shapes → ℕ
shapes_count no_shapes = 0
shapes_count (shape s ss) = suc (shapes_count ss)

module _ (registry : Entries) (d : ℕ) where
  -- ---- values of one format

  pub record ItemAt (s : Shape) (ts : Trees) (i : ℕ) : Type 0 where
    pub before : Trees
    pub value : Tree
    pub later : Trees
    pub found : item_of registry ts s i ≡ Some (record { value = value; content = of s; place = length (plain_items registry before s) })
    pub long : count before ≡ i
    pub bytes : plain_items registry ts s ≡ plain_items registry before s ++ (plain registry value (of s) ++ plain_items registry later s)
    pub before_good : AllAre (IsDecodable registry d (of s)) before
    pub good : IsDecodable registry d (of s) value
    pub few : trees_nodes before + nodes value ≤ trees_nodes ts

  pub item_at : (s : Shape) (ts : Trees) (i : ℕ) → AllAre (IsDecodable registry d (of s)) ts → i < count ts → ItemAt s ts i
  item_at s no_trees i h lt = absurd (omega (arith, lt))
  item_at s (tree t ts) zero h lt = record {
    before = no_trees;
    value = t;
    later = ts;
    found = refl;
    long = refl;
    bytes = refl;
    before_good = tt;
    good = h.0;
    few = omega arith;
  }
  item_at s (tree t ts) (suc i) h lt =
      let k = item_at s ts i h.1 (omega (arith, lt)) in
      let own = plain registry t (of s) in
      let front = plain_items registry k.before s in
      record {
        before = tree t k.before;
        value = k.value;
        later = k.later;
        found = ap (part_after (length own)) k.found
            ∙ ap (λ (n : ℕ). Some (record { value = k.value; content = of s; place = n })) (sym (length-append own front));
        long = ap suc k.long;
        bytes = ap (λ (b : List ℕ). own ++ b) k.bytes ∙ sym (append_assoc own front (plain registry k.value (of s) ++ plain_items registry k.later s));
        before_good = (h.0, k.before_good);
        good = k.good;
        few = (let few = k.few in omega (arith, few));
      }

  pub no_item : (s : Shape) (ts : Trees) (i : ℕ) → count ts ≤ i → item_of registry ts s i ≡ None
  no_item s no_trees i le = refl
  no_item s (tree t ts) zero le = absurd (omega (arith, le))
  no_item s (tree t ts) (suc i) le = ap (part_after (length (plain registry t (of s)))) (no_item s ts i (omega (arith, le)))

  -- ---- values with a format each

  pub record EachAt (front : Shapes) (s : Shape) (later : Shapes) (ts : Trees) : Type 0 where
    pub before : Trees
    pub value : Tree
    pub rest : Trees
    pub found : item_in registry ts (shapes_joined front (shape s later)) (shapes_count front) ≡ Some (record { value = value; content = of s; place = length (plain_each registry before front) })
    pub bytes : plain_each registry ts (shapes_joined front (shape s later)) ≡ plain_each registry before front ++ (plain registry value (of s) ++ plain_each registry rest later)
    pub before_good : EachIs registry d front before
    pub good : IsDecodable registry d (of s) value
    pub few : trees_nodes before + nodes value ≤ trees_nodes ts

  pub each_at : (front : Shapes) (s : Shape) (later : Shapes) (ts : Trees) → EachIs registry d (shapes_joined front (shape s later)) ts → EachAt front s later ts
  each_at no_shapes s later no_trees h = absurd (false≢true h.fit_is)
  each_at no_shapes s later (tree t ts) h = record {
    before = no_trees;
    value = t;
    rest = ts;
    found = refl;
    bytes = refl;
    before_good = record { fit_is = refl; canonical_is = tt; deep_is = omega arith; long_is = refl };
    good = (is_each registry d s later t ts h).0;
    few = omega arith;
  }
  each_at (shape x front) s later no_trees h = absurd (false≢true h.fit_is)
  each_at (shape x front) s later (tree t ts) h =
      let p = is_each registry d x (shapes_joined front (shape s later)) t ts h in
      let k = each_at front s later ts p.1 in
      let own = plain registry t (of x) in
      let gone = plain_each registry k.before front in
      record {
        before = tree t k.before;
        value = k.value;
        rest = k.rest;
        found = ap (part_after (length own)) k.found
            ∙ ap (λ (n : ℕ). Some (record { value = k.value; content = of s; place = n })) (sym (length-append own gone));
        bytes = ap (λ (b : List ℕ). own ++ b) k.bytes ∙ sym (append_assoc own gone (plain registry k.value (of s) ++ plain_each registry k.rest later));
        before_good = each_is registry d x front t k.before p.0 k.before_good;
        good = k.good;
        few = (let few = k.few in omega (arith, few));
      }

  pub no_field : (ts : Trees) (ss : Shapes) (i : ℕ) → shapes_count ss ≤ i → item_in registry ts ss i ≡ None
  no_field no_trees ss i le = refl
  no_field (tree t ts) no_shapes i le = refl
  no_field (tree t ts) (shape s ss) zero le = absurd (omega (arith, le))
  no_field (tree t ts) (shape s ss) (suc i) le = ap (part_after (length (plain registry t (of s)))) (no_field ts ss i (omega (arith, le)))
