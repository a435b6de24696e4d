-- Values with parts: their parts, one after another, and what is built from them.
use Rattle.bcs_json_spec.proofs.Prelude.{◌≡◌, ◌≢◌, ◌∙◌, ◌⊎◌, inl, inr, ℕ, suc, ◌≤◌, max, codes, ◌==◌, bytes_eq, refl, ap, sym, subst, arith, max-le, Decides-eqb, bytes_eq-Decides, Data, null, string, array, object, Items, no_items, item, no_members, member, Entries, Shape, Shapes, Tree, Trees, no_trees, tree, Pairs, no_pairs, pair, count, trees_depth, pairs_depth, ByteTextSpells, is_byte, of, IsNull, IfStringOrArray, IfArray, IfTwo, IfOne, item_count, shape_count, Read, read_option, read_seq, read_array, sized, read_tuple, read_map, read_all, read_pair, read_pairs, Bad, OptionRefuses, AllRefuse, SeqRefuses, ArrayRefuses, TupleRefuses, PairRefuses, PairsRefuse, MapRefuses, Spells, AllSpell, EachSpells, PairsSpell, JsonFault, BadShape}
use Rattle.bcs_registry_model.specs.Shape as shape
use Rattle.bcs_value_model.specs.Tree as tree
use Rattle.bcs_value_model.specs.Tree.{depth}
use Rattle.bcs_json_spec.proofs.Exact.{Exact, done, refused, refuses, made, both, onward, tested, left, right}
use Rattle.bcs_json_spec.proofs.LeafVerdicts.{Within, exact_byte_text, byte_text_depth}

swap : {A B : Type 0} → A ⊎ B → B ⊎ A
swap (inl a) = inr a
swap (inr b) = inl b

module _ (registry : Entries) (n : ℕ) where
  module _ (f : Shape) (R : Bad) (r : Data → Read Tree) (E : (j : Data) → Exact (Within registry n f j) (R j) (r j)) where
    -- ---- sequences of elements
    abbrev AllWithin : Items → Trees → Type 0
    AllWithin ds ts = AllSpell registry ts f ds × (trees_depth ts ≤ n)

    all_none : (ts : Trees) → AllWithin no_items ts → no_trees ≡ ts
    all_none no_trees s = refl
    all_none (tree t ts) s = absurd s.0

    all_more : (d : Data) (ds : Items) (us : Trees) → AllWithin (item d ds) us → (t : Tree) × (ts : Trees) × Within registry n f d t × AllWithin ds ts × (tree t ts ≡ us)
    all_more d ds (tree t ts) s = (t, ts, (s.0.0, left _ _ s.1), (s.0.1, right _ _ s.1), refl)
    all_more d ds no_trees s = absurd s.0

    exact_all : (ds : Items) → Exact (AllWithin ds) (AllRefuse (Within registry n f) R ds) (read_all r ds)
    exact_all no_items = done no_trees (tt, omega arith) all_none
    exact_all (item d ds) = both tree (E d) (exact_all ds) (λ t ts s w. ((s.0, w.0), max-le s.1 w.1)) (all_more d ds)

    -- ---- lists
    seq_is : (j : Data) (t : Tree) → Within registry n (shape.seq f) j t
        → (ts : Trees) × (IfStringOrArray (λ s. ByteTextSpells (is_byte f) s ts) (AllSpell registry ts f) j × (trees_depth ts ≤ n)) × (tree.items ts ≡ t)
    seq_is j (tree.items ts) s = (ts, s, refl)
    seq_is j _ s = absurd s.0

    pub exact_seq : (j : Data) → Exact (Within registry n (shape.seq f) j) (SeqRefuses (is_byte f) (Within registry n f) R j) (read_seq (is_byte f) r j)
    exact_seq (array ds) = made tree.items (exact_all ds) (λ ts s. s) (seq_is (array ds))
    exact_seq (string s) = made tree.items (exact_byte_text (is_byte f) s) (λ ts w. (w, byte_text_depth n (is_byte f) s ts w)) (λ t w. let o = seq_is (string s) t w in (o.0, o.1.0, o.2))
    exact_seq j = refused BadShape refl (λ t s. (seq_is j t s).1.0)

    -- ---- arrays
    all_count : (ts : Trees) (ds : Items) → AllSpell registry ts f ds → item_count ds ≡ count ts
    all_count no_trees no_items s = refl
    all_count (tree t ts) (item d ds) s = ap suc (all_count ts ds s.1)
    all_count _ _ s = absurd s

    module _ (m : ℕ) where
      array_is : (j : Data) (t : Tree) → Within registry n (shape.array f m) j t
          → (ts : Trees) × (IfStringOrArray (λ s. ByteTextSpells (is_byte f) s ts) (AllSpell registry ts f) j × (count ts ≡ m) × (trees_depth ts ≤ n)) × (tree.items ts ≡ t)
      array_is j (tree.items ts) s = (ts, (s.0.0, s.0.1, s.1), refl)
      array_is j _ s = absurd s.0

      exact_sized : (ts : Trees) → Exact (λ t. (count ts ≡ m) × (tree.items ts ≡ t)) (λ e. (count ts ≢ m) × (e ≡ BadShape)) (sized m ts)
      exact_sized ts =
          refuses (tested (count ts == m) (Decides-eqb (count ts) m) (λ is. done (tree.items ts) (is, refl) (λ t s. s.1)) (λ t s. s.0))
          (λ e r. elim r [ inl x ↦ x | inr x ↦ absurd x.1 ]) (λ e r. inl r)

      pub exact_array : (j : Data) → Exact (Within registry n (shape.array f m) j) (ArrayRefuses (is_byte f) m (Within registry n f) R j) (read_array (is_byte f) m r j)
      exact_array (array ds) =
          tested (item_count ds == m) (Decides-eqb (item_count ds) m)
          (λ is. made tree.items (exact_all ds) (λ ts s. ((s.0, sym (all_count ts ds s.0) ∙ is), s.1)) (λ t s. let o = array_is (array ds) t s in (o.0, (o.1.0, o.1.2), o.2)))
          (λ t s. let o = array_is (array ds) t s in all_count o.0 ds o.1.0 ∙ o.1.1)
      exact_array (string s) =
          refuses (onward (exact_byte_text (is_byte f) s) exact_sized
          (λ ts t w z. subst (Within registry n (shape.array f m) (string s)) z.1 ((w, z.0), byte_text_depth n (is_byte f) s ts w))
          (λ t w. let o = array_is (string s) t w in (o.0, o.1.0, (o.1.1, o.2))))
          (λ e x. elim x [ inl y ↦ inl y | inr y ↦ inr (y.0, y.1, y.2.0, y.2.1) ]) (λ e x. elim x [ inl y ↦ inl y | inr y ↦ inr (y.0, y.1, (y.2, y.3)) ])
      exact_array j = refused BadShape refl (λ t s. (array_is j t s).1.0)

    -- ---- options
    option_is : (j : Data) (t : Tree) → Within registry n (shape.option f) j t
        → (IsNull j × (tree.absent ≡ t)) ⊎ ((u : Tree) × (IfOne (λ k d. (k ≡ codes "some") × Spells registry u (of f) d) j × (depth u ≤ n)) × (tree.present u ≡ t))
    option_is j tree.absent s = inl (s.0, refl)
    option_is j (tree.present u) s = inr (u, s, refl)
    option_is j _ s = absurd s.0

    pub exact_option : (j : Data) → Exact (Within registry n (shape.option f) j) (OptionRefuses R j) (read_option r j)
    exact_option null = done tree.absent (tt, omega arith) (λ t s. elim (option_is null t s) [ inl x ↦ x.1 | inr x ↦ absurd x.1.0 ])
    exact_option (object (member k d no_members)) =
        let some = option_is (object (member k d no_members)) in
        refuses (tested (bytes_eq k (codes "some")) (bytes_eq-Decides k (codes "some"))
        (λ is. made tree.present (E d) (λ u s. ((is, s.0), s.1)) (λ t s. elim (some t s) [ inl x ↦ absurd x.0 | inr x ↦ (x.0, (x.1.0.1, x.1.1), x.2) ]))
        (λ t s. elim (some t s) [ inl x ↦ absurd x.0 | inr x ↦ x.1.0.0 ])) (λ e. swap) (λ e. swap)
    exact_option j = refused BadShape refl (λ t s. elim (option_is j t s) [ inl x ↦ x.0 | inr x ↦ x.1.0 ])

  module _ (f g : Shape) (Q R : Bad) (q r : Data → Read Tree) (D : (j : Data) → Exact (Within registry n f j) (Q j) (q j)) (E : (j : Data) → Exact (Within registry n g j) (R j) (r j)) where
    -- ---- sequences of entries
    abbrev PairWithin : Data → Tree × Tree → Type 0
    PairWithin j p = IfTwo (λ a b. Within registry n f a p.0 × Within registry n g b p.1) j

    pub exact_pair : (j : Data) → Exact (PairWithin j) (PairRefuses (Within registry n f) Q R j) (read_pair q r j)
    exact_pair (array (item a (item b no_items))) = both (λ s t. (s, t)) (D a) (E b) (λ s t x y. (x, y)) (λ p s. (p.0, p.1, s.0, s.1, refl))
    exact_pair j = refused BadShape refl (λ p s. s)

    abbrev PairsWithin : Items → Pairs → Type 0
    PairsWithin ds ps = PairsSpell registry ps f g ds × (pairs_depth ps ≤ n)

    apart : (j : Data) (k v : Tree) → PairWithin j (k, v) → IfTwo (λ a b. Spells registry k (of f) a × Spells registry v (of g) b) j × (max (depth k) (depth v) ≤ n)
    apart (array (item a (item b no_items))) k v s = ((s.0.0, s.1.0), max-le s.0.1 s.1.1)
    apart _ k v s = absurd s

    together : (j : Data) (k v : Tree) → IfTwo (λ a b. Spells registry k (of f) a × Spells registry v (of g) b) j → max (depth k) (depth v) ≤ n → PairWithin j (k, v)
    together (array (item a (item b no_items))) k v s h = ((s.0, left _ _ h), (s.1, right _ _ h))
    together _ k v s h = absurd s

    pairs_none : (ps : Pairs) → PairsWithin no_items ps → no_pairs ≡ ps
    pairs_none no_pairs s = refl
    pairs_none (pair k v ps) s = absurd s.0

    pairs_more : (d : Data) (ds : Items) (qs : Pairs) → PairsWithin (item d ds) qs → (p : Tree × Tree) × (ps : Pairs) × PairWithin d p × PairsWithin ds ps × (pair p.0 p.1 ps ≡ qs)
    pairs_more d ds (pair k v ps) s = ((k, v), ps, together d k v s.0.0 (left _ _ s.1), (s.0.1, right _ _ s.1), refl)
    pairs_more d ds no_pairs s = absurd s.0

    exact_pairs : (ds : Items) → Exact (PairsWithin ds) (PairsRefuse (Within registry n f) Q (Within registry n g) R ds) (read_pairs q r ds)
    exact_pairs no_items = done no_pairs (tt, omega arith) pairs_none
    exact_pairs (item d ds) =
        refuses (both (λ p ps. pair p.0 p.1 ps) (exact_pair d) (exact_pairs ds) (λ p ps s w. let o = apart d p.0 p.1 s in ((o.0, w.0), max-le o.1 w.1)) (pairs_more d ds))
        (λ e x. elim x [ inl y ↦ inl y | inr y ↦ inr (y.0.0, y.0.1, y.1, y.2) ]) (λ e x. elim x [ inl y ↦ inl y | inr y ↦ inr ((y.0, y.1), y.2, y.3) ])

    -- ---- maps
    map_is : (j : Data) (t : Tree) → Within registry n (shape.map f g) j t → (ps : Pairs) × (IfArray (PairsSpell registry ps f g) j × (pairs_depth ps ≤ n)) × (tree.pairs ps ≡ t)
    map_is j (tree.pairs ps) s = (ps, s, refl)
    map_is j _ s = absurd s.0

    pub exact_map : (j : Data) → Exact (Within registry n (shape.map f g) j) (MapRefuses (Within registry n f) Q (Within registry n g) R j) (read_map q r j)
    exact_map (array ds) = made tree.pairs (exact_pairs ds) (λ ps s. s) (map_is (array ds))
    exact_map j = refused BadShape refl (λ t s. (map_is j t s).1.0)

  -- ---- tuples
  abbrev pub EachWithin : Shapes → Items → Trees → Type 0
  EachWithin fs ds ts = EachSpells registry ts fs ds × (trees_depth ts ≤ n)

  each_count : (ts : Trees) (fs : Shapes) (ds : Items) → EachSpells registry ts fs ds → item_count ds ≡ shape_count fs
  each_count no_trees shape.no_shapes no_items s = refl
  each_count (tree t ts) (shape.shape f fs) (item d ds) s = ap suc (each_count ts fs ds s.1)
  each_count _ _ _ s = absurd s

  tuple_is : (fs : Shapes) (j : Data) (t : Tree) → Within registry n (shape.tuple fs) j t → (ts : Trees) × (IfArray (EachSpells registry ts fs) j × (trees_depth ts ≤ n)) × (tree.items ts ≡ t)
  tuple_is fs j (tree.items ts) s = (ts, s, refl)
  tuple_is fs j _ s = absurd s.0

  pub exact_tuple : (fs : Shapes) (R : Items → JsonFault → Type 0) (r : Items → Read Trees) → ((ds : Items) → item_count ds ≡ shape_count fs → Exact (EachWithin fs ds) (R ds) (r ds))
      → (j : Data) → Exact (Within registry n (shape.tuple fs) j) (TupleRefuses (shape_count fs) R j) (read_tuple (shape_count fs) r j)
  exact_tuple fs R r E (array ds) =
      tested (item_count ds == shape_count fs) (Decides-eqb (item_count ds) (shape_count fs)) (λ is. made tree.items (E ds is) (λ ts s. s) (tuple_is fs (array ds)))
      (λ t s. let o = tuple_is fs (array ds) t s in each_count o.0 fs ds o.1.0)
  exact_tuple fs R r E j = refused BadShape refl (λ t s. (tuple_is fs j t s).1.0)
