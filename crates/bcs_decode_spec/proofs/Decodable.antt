-- The parts of a decodable value are decodable, and such parts form a decodable value.
use Rattle.bcs_decode_spec.proofs.Prelude.{◌≡◌, ℕ, max, ◌≤◌, Bool, true, false, ◌&&◌, List, Option, Some, None, refl, arith, and_parts, and_from, max-le, le-max_left, le-max_right, Shape, Shapes, shape, Entries, Content, of, Tree, Trees, no_trees, tree, Pairs, no_pairs, pair, depth, trees_depth, pairs_depth, fits, all_fit, each_fits, pairs_fit, plain, IsCanonical, AllCanonical, EachCanonical, PairsCanonical, Rises, RisesFrom, length_limit, lengths_hold, all_hold, each_holds, pairs_hold, canonical_distinct, IsDecodable, AllAre, AllRise, Follows}

module _ (registry : Entries) (d : ℕ) where
  pub decodable : (f : Content) (t : Tree) → fits false registry t f ≡ true → IsCanonical registry t f → depth t ≤ d
      → lengths_hold length_limit registry t f ≡ true → IsDecodable registry d f t
  decodable f t fit canonical deep long = record {
    sound = record {
      fit = fit;
      distinct = canonical_distinct registry t f fit canonical;
      depth_holds = deep;
      nodes_hold = omega arith;
      lengths = long;
    };
    canonical = canonical;
  }

  -- ---- lists of values

  pub record RowIs (fit : Bool) (Canonical : Type 0) (deep : ℕ) (long : Bool) : Type 0 where
    pub fit_is : fit ≡ true
    pub canonical_is : Canonical
    pub deep_is : deep ≤ d
    pub long_is : long ≡ true

  abbrev pub ItemsAre : Shape → Trees → Type 0
  ItemsAre s ts =
      RowIs (all_fit false registry ts s) (AllCanonical registry ts s) (trees_depth ts) (all_hold length_limit registry ts s)

  abbrev pub EachIs : Shapes → Trees → Type 0
  EachIs ss ts =
      RowIs (each_fits false registry ts ss) (EachCanonical registry ts ss) (trees_depth ts) (each_holds length_limit registry ts ss)

  pub items_are : (s : Shape) (ts : Trees) → AllAre (IsDecodable registry d (of s)) ts → ItemsAre s ts
  items_are s no_trees h = record { fit_is = refl; canonical_is = tt; deep_is = omega arith; long_is = refl }
  items_are s (tree t ts) h =
      let k = items_are s ts h.1 in
      record {
        fit_is = and_from _ _ h.0.sound.fit k.fit_is;
        canonical_is = (h.0.canonical, k.canonical_is);
        deep_is = max-le h.0.sound.depth_holds k.deep_is;
        long_is = and_from _ _ h.0.sound.lengths k.long_is;
      }

  left_le : (a b : ℕ) → max a b ≤ d → a ≤ d
  left_le a b h = let k = le-max_left a b in omega (arith, h, k)

  right_le : (a b : ℕ) → max a b ≤ d → b ≤ d
  right_le a b h = let k = le-max_right a b in omega (arith, h, k)

  pub are_items : (s : Shape) (ts : Trees) → ItemsAre s ts → AllAre (IsDecodable registry d (of s)) ts
  are_items s no_trees h = tt
  are_items s (tree t ts) h =
      let fit = and_parts (fits false registry t (of s)) (all_fit false registry ts s) h.fit_is in
      let long = and_parts (lengths_hold length_limit registry t (of s)) (all_hold length_limit registry ts s) h.long_is in (
        decodable (of s) t fit.0 h.canonical_is.0 (left_le (depth t) (trees_depth ts) h.deep_is) long.0,
        are_items s ts (record { fit_is = fit.1; canonical_is = h.canonical_is.1; deep_is = right_le (depth t) (trees_depth ts) h.deep_is; long_is = long.1 }),
      )

  pub each_is : (s : Shape) (ss : Shapes) (t : Tree) (ts : Trees) → IsDecodable registry d (of s) t → EachIs ss ts → EachIs (shape s ss) (tree t ts)
  each_is s ss t ts h k = record {
    fit_is = and_from _ _ h.sound.fit k.fit_is;
    canonical_is = (h.canonical, k.canonical_is);
    deep_is = max-le h.sound.depth_holds k.deep_is;
    long_is = and_from _ _ h.sound.lengths k.long_is;
  }

  pub is_each : (s : Shape) (ss : Shapes) (t : Tree) (ts : Trees) → EachIs (shape s ss) (tree t ts) → IsDecodable registry d (of s) t × EachIs ss ts
  is_each s ss t ts h =
      let fit = and_parts (fits false registry t (of s)) (each_fits false registry ts ss) h.fit_is in
      let long = and_parts (lengths_hold length_limit registry t (of s)) (each_holds length_limit registry ts ss) h.long_is in (
        decodable (of s) t fit.0 h.canonical_is.0 (left_le (depth t) (trees_depth ts) h.deep_is) long.0,
        record { fit_is = fit.1; canonical_is = h.canonical_is.1; deep_is = right_le (depth t) (trees_depth ts) h.deep_is; long_is = long.1 },
      )

  -- ---- lists of entries

  -- the keys ascend, and the first one is above the last one
  abbrev pub RisesAfter : Option (List ℕ) → Pairs → Shape → Type 0
  RisesAfter None ps f = Rises registry ps f
  RisesAfter (Some b) ps f = RisesFrom registry b ps f

  abbrev pub PairsAre : Option (List ℕ) → Shape → Shape → Pairs → Type 0
  PairsAre last f g ps =
      RowIs (pairs_fit false registry ps f g) (RisesAfter last ps f × PairsCanonical registry ps f g) (pairs_depth ps) (pairs_hold length_limit registry ps f g)

  pub pairs_are : (last : Option (List ℕ)) (f g : Shape) (ps : Pairs)
      → AllRise registry f (IsDecodable registry d (of f)) (IsDecodable registry d (of g)) last ps → PairsAre last f g ps
  pairs_are None f g no_pairs h = record { fit_is = refl; canonical_is = (tt, tt); deep_is = omega arith; long_is = refl }
  pairs_are (Some b) f g no_pairs h = record { fit_is = refl; canonical_is = (tt, tt); deep_is = omega arith; long_is = refl }
  pairs_are last f g (pair a x ps) h =
      let k = pairs_are (Some (plain registry a (of f))) f g ps h.3 in
      record {
        fit_is = and_from _ _ (and_from _ _ h.0.sound.fit h.2.sound.fit) k.fit_is;
        canonical_is = (rises last h.1 k.canonical_is.0, (h.0.canonical, h.2.canonical, k.canonical_is.1));
        deep_is = max-le (max-le h.0.sound.depth_holds h.2.sound.depth_holds) k.deep_is;
        long_is = and_from _ _ (and_from _ _ h.0.sound.lengths h.2.sound.lengths) k.long_is;
      }
    where
      rises : (last : Option (List ℕ)) → Follows last (plain registry a (of f)) → RisesFrom registry (plain registry a (of f)) ps f
          → RisesAfter last (pair a x ps) f
      rises None h k = k
      rises (Some b) h k = (h, k)

  pub are_pairs : (last : Option (List ℕ)) (f g : Shape) (ps : Pairs) → PairsAre last f g ps
      → AllRise registry f (IsDecodable registry d (of f)) (IsDecodable registry d (of g)) last ps
  are_pairs last f g no_pairs h = tt
  are_pairs last f g (pair a x ps) h =
      let fit = and_parts (fits false registry a (of f) && fits false registry x (of g)) (pairs_fit false registry ps f g) h.fit_is in
      let fit2 = and_parts (fits false registry a (of f)) (fits false registry x (of g)) fit.0 in
      let long = and_parts (lengths_hold length_limit registry a (of f) && lengths_hold length_limit registry x (of g)) (pairs_hold length_limit registry ps f g) h.long_is in
      let long2 = and_parts (lengths_hold length_limit registry a (of f)) (lengths_hold length_limit registry x (of g)) long.0 in
      let deep = left_le (max (depth a) (depth x)) (pairs_depth ps) h.deep_is in
      let follows = after last h.canonical_is.0 in (
        decodable (of f) a fit2.0 h.canonical_is.1.0 (left_le (depth a) (depth x) deep) long2.0,
        follows.0,
        decodable (of g) x fit2.1 h.canonical_is.1.1 (right_le (depth a) (depth x) deep) long2.1,
        are_pairs (Some (plain registry a (of f))) f g ps (record {
          fit_is = fit.1;
          canonical_is = (follows.1, h.canonical_is.1.2);
          deep_is = right_le (max (depth a) (depth x)) (pairs_depth ps) h.deep_is;
          long_is = long.1;
        }),
      )
    where
      after : (last : Option (List ℕ)) → RisesAfter last (pair a x ps) f
          → Follows last (plain registry a (of f)) × RisesFrom registry (plain registry a (of f)) ps f
      after None k = (tt, k)
      after (Some b) k = k
