-- A value of each kind, from exact parsers of its parts.
use Rattle.bcs_decode_spec.proofs.Prelude.{◌≡◌, ℕ, suc, ◌^◌, ◌==◌, nat_le, false, List, ◌∷◌, ◌++◌, length, None, refl, sym, ap, ap₂, subst, ◌∙◌, arith, inl, inr, false≢true, and_parts, and_from, ltb-true, lt-ltb, leb-true, le-leb, eq-eqb, nat-same, Width, byte_len, bits, uleb, le, holds_signed-is, is-holds_signed, Shape, Entries, Content, of, Tree, Trees, Pairs, count, pair_count, nodes, trees_nodes, pairs_nodes, all_fit, plain, plain_items, plain_pairs, length_limit, all_hold, pairs_hold, Reason, BadBool, Unsupported, IsDecodable, Parser, chain, give, fail_here, node, length_here, bytes_here, text_here, flag_here, unsigned_here, signed_here, items_here, pairs_here, option_here, building, Stopping, AfterLength, BytesStop, TextStop, FlagStop, FailStop, OptionStop, NodeStop, ItemsStop, PairsStop, AreBytes, Reads, Exact}
use Rattle.bcs_registry_model.specs.Shape as shape
use Rattle.bcs_value_model.specs.Tree as tree
use Rattle.bcs_decode_spec.proofs.Combine.{exact_give, exact_fail_here, exact_same, exact_node, GiveReads, NoReads, NoStop}
use Rattle.bcs_decode_spec.proofs.Numbers.{BytesReads, exact_bytes, ByteReads, exact_of_bytes, bytes_pass, pass_bytes, TextReads, exact_text, FlagReads, exact_flag, UnsignedReads, exact_unsigned, SignedReads, exact_signed}
use Rattle.bcs_decode_spec.proofs.Items.{Says, ItemsReads, exact_items}
use Rattle.bcs_decode_spec.proofs.Pairs.{PairsReads, exact_pairs}
use Rattle.bcs_decode_spec.proofs.Makings.{Made, exact_made, Counted, exact_counted, OptionReads, exact_option}
use Rattle.bcs_decode_spec.proofs.Decodable.{decodable, items_are, are_items, pairs_are, are_pairs}

abbrev pub Here : Entries → ℕ → Content → Reads Tree
Here registry d f = Says registry f (IsDecodable registry d f)

same_stop : (S : Stopping) (p m : ℕ) (b : List ℕ) (e : Reason) (o : ℕ) → S p m b e o → S p m b e o
same_stop S p m b e o s = s

module _ (registry : Entries) (d : ℕ) where
  -- ---- values without parts

  -- an equivalent relation, with one node more
  module _ (f : Content) (R : Reads Tree) (S : Stopping) (parser : Parser Tree) (ex : Exact R S parser)
      (to : (t : Tree) (v : ℕ) (s : List ℕ) → R t v s → Here registry d f t (suc v) s)
      (from : (t : Tree) (v w : ℕ) (s : List ℕ) → IsDecodable registry d f t → w ≡ nodes t → s ≡ plain registry t f → (v : ℕ) × (w ≡ suc v) × R t v s) where
    pub exact_here : Exact (Here registry d f) (NodeStop S) (node parser)
    exact_here = exact_same (exact_node ex) (λ t w s h. subst (λ (n : ℕ). Here registry d f t n s) (sym h.1) (to t h.0 s h.2)) (λ t w s h. from t 0 w s h.0 h.1 h.2) (same_stop (NodeStop S)) (same_stop (NodeStop S))

  pub exact_unit : Exact (Here registry d (of shape.unit)) (NodeStop NoStop) (node (give tree.unit))
  exact_unit = exact_here (of shape.unit) (GiveReads tree.unit) NoStop (give tree.unit) (exact_give tree.unit) to from
    where
      to : (t : Tree) (v : ℕ) (s : List ℕ) → GiveReads tree.unit t v s → Here registry d (of shape.unit) t (suc v) s
      to t v s h =
          subst (λ (x : Tree). Here registry d (of shape.unit) x (suc v) s) (sym h.0) (decodable registry d (of shape.unit) tree.unit refl tt (omega arith) refl, omega (arith, h.1), h.2)

      from : (t : Tree) (v w : ℕ) (s : List ℕ) → IsDecodable registry d (of shape.unit) t → w ≡ nodes t → s ≡ plain registry t (of shape.unit)
          → (v : ℕ) × (w ≡ suc v) × GiveReads tree.unit t v s
      from tree.unit v w s h i j = (0, i, (refl, refl, j))
      from _ v w s h i j = absurd (let e = h.sound.fit in cc)

  pub exact_truth : Exact (Here registry d (of shape.truth)) (NodeStop (FlagStop BadBool)) (node (chain (flag_here BadBool) (λ x. give (tree.truth x))))
  exact_truth = exact_here (of shape.truth) (Made tree.truth FlagReads) (FlagStop BadBool) (chain (flag_here BadBool) (λ x. give (tree.truth x))) (exact_made tree.truth FlagReads (FlagStop BadBool) (flag_here BadBool) (exact_flag BadBool)) to from
    where
      to : (t : Tree) (v : ℕ) (s : List ℕ) → Made tree.truth FlagReads t v s → Here registry d (of shape.truth) t (suc v) s
      to t v s (x, h, e) =
          subst (λ (y : Tree). Here registry d (of shape.truth) y (suc v) s) (sym e) (decodable registry d (of shape.truth) (tree.truth x) refl tt (omega arith) refl, omega (arith, h.0), h.1)

      from : (t : Tree) (v w : ℕ) (s : List ℕ) → IsDecodable registry d (of shape.truth) t → w ≡ nodes t → s ≡ plain registry t (of shape.truth)
          → (v : ℕ) × (w ≡ suc v) × Made tree.truth FlagReads t v s
      from (tree.truth x) v w s h i j = (0, i, (x, (refl, j), refl))
      from _ v w s h i j = absurd (let e = h.sound.fit in cc)

  pub exact_unsigned_value : (w : Width)
      → Exact (Here registry d (of (shape.unsigned w))) (NodeStop (BytesStop (byte_len w))) (node (chain (unsigned_here w) (λ n. give (tree.unsigned n))))
  exact_unsigned_value w =
      exact_here (of (shape.unsigned w)) (Made tree.unsigned (UnsignedReads w)) (BytesStop (byte_len w)) (chain (unsigned_here w) (λ n. give (tree.unsigned n))) (exact_made tree.unsigned (UnsignedReads w) (BytesStop (byte_len w)) (unsigned_here w) (exact_unsigned w)) to from
    where
      to : (t : Tree) (v : ℕ) (s : List ℕ) → Made tree.unsigned (UnsignedReads w) t v s → Here registry d (of (shape.unsigned w)) t (suc v) s
      to t v s (x, h, e) =
          subst (λ (y : Tree). Here registry d (of (shape.unsigned w)) y (suc v) s) (sym e) (decodable registry d (of (shape.unsigned w)) (tree.unsigned x) (lt-ltb x (2 ^ bits w) h.0) tt (omega arith) refl, omega (arith, h.1), h.2)

      from : (t : Tree) (v m : ℕ) (s : List ℕ) → IsDecodable registry d (of (shape.unsigned w)) t → m ≡ nodes t
          → s ≡ plain registry t (of (shape.unsigned w)) → (v : ℕ) × (m ≡ suc v) × Made tree.unsigned (UnsignedReads w) t v s
      from (tree.unsigned x) v m s h i j = (0, i, (x, (ltb-true x (2 ^ bits w) h.sound.fit, refl, j), refl))
      from _ v m s h i j = absurd (let e = h.sound.fit in cc)

  pub exact_signed_value : (w : Width)
      → Exact (Here registry d (of (shape.signed w))) (NodeStop (BytesStop (byte_len w))) (node (chain (signed_here w) (λ z. give (tree.signed z))))
  exact_signed_value w =
      exact_here (of (shape.signed w)) (Made tree.signed (SignedReads w)) (BytesStop (byte_len w)) (chain (signed_here w) (λ z. give (tree.signed z))) (exact_made tree.signed (SignedReads w) (BytesStop (byte_len w)) (signed_here w) (exact_signed w)) to from
    where
      to : (t : Tree) (v : ℕ) (s : List ℕ) → Made tree.signed (SignedReads w) t v s → Here registry d (of (shape.signed w)) t (suc v) s
      to t v s (x, h, e) =
          subst (λ (y : Tree). Here registry d (of (shape.signed w)) y (suc v) s) (sym e) (decodable registry d (of (shape.signed w)) (tree.signed x) (is-holds_signed w x h.0) tt (omega arith) refl, omega (arith, h.1), h.2)

      from : (t : Tree) (v m : ℕ) (s : List ℕ) → IsDecodable registry d (of (shape.signed w)) t → m ≡ nodes t
          → s ≡ plain registry t (of (shape.signed w)) → (v : ℕ) × (m ≡ suc v) × Made tree.signed (SignedReads w) t v s
      from (tree.signed x) v m s h i j = (0, i, (x, (holds_signed-is w x h.sound.fit, refl, j), refl))
      from _ v m s h i j = absurd (let e = h.sound.fit in cc)

  pub exact_unsupported : (u : shape.Unsupported)
      → Exact (Here registry d (of (shape.unsupported u))) (NodeStop (FailStop Unsupported)) (node (fail_here Unsupported))
  exact_unsupported u =
      exact_here (of (shape.unsupported u)) NoReads (FailStop Unsupported) (fail_here Unsupported) (exact_fail_here Unsupported) (λ t v s h. absurd h) (λ t v w s h i j. absurd (false≢true h.sound.fit))

  pub exact_text_value : Exact (Here registry d (of shape.text)) (NodeStop (AfterLength TextStop)) (node (chain length_here (λ n. chain (text_here n) (λ s. give (tree.text s)))))
  exact_text_value = exact_here (of shape.text) (Counted tree.text TextReads) (AfterLength TextStop) (chain length_here (λ n. chain (text_here n) (λ s. give (tree.text s)))) (exact_counted tree.text TextReads TextStop text_here exact_text) to from
    where
      to : (t : Tree) (v : ℕ) (s : List ℕ) → Counted tree.text TextReads t v s → Here registry d (of shape.text) t (suc v) s
      to t v s (n, x, u, le, h, e, i) =
          let long : length x ≡ n = h.1.0 in
          subst (λ (y : Tree). Here registry d (of shape.text) y (suc v) s) (sym e)
          (decodable registry d (of shape.text) (tree.text x) h.0 tt (omega arith) (le-leb (length x) length_limit (omega (arith, le, long))), omega (arith, h.1.1), i ∙ ap₂ (λ (y : ℕ) (z : List ℕ). uleb y ++ z) (sym long) h.1.2)

      from : (t : Tree) (v w : ℕ) (s : List ℕ) → IsDecodable registry d (of shape.text) t → w ≡ nodes t → s ≡ plain registry t (of shape.text)
          → (v : ℕ) × (w ≡ suc v) × Counted tree.text TextReads t v s
      from (tree.text x) v w s h i j =
          (0, i, (length x, x, x, leb-true (length x) length_limit h.sound.lengths, (h.sound.fit, (refl, refl, refl)), refl, j))
      from _ v w s h i j = absurd (let e = h.sound.fit in cc)

  abbrev StringReads : ℕ → Reads (List ℕ)
  StringReads n = ByteReads (BytesReads n)

  pub exact_bytes_value : Exact (Here registry d (of shape.bytes)) (NodeStop (AfterLength BytesStop)) (node (chain length_here (λ n. chain (bytes_here n) (λ s. give (tree.bytes s)))))
  exact_bytes_value = exact_here (of shape.bytes) (Counted tree.bytes StringReads) (AfterLength BytesStop) (chain length_here (λ n. chain (bytes_here n) (λ s. give (tree.bytes s)))) (exact_counted tree.bytes StringReads BytesStop bytes_here (λ n. exact_of_bytes (exact_bytes n))) to from
    where
      to : (t : Tree) (v : ℕ) (s : List ℕ) → Counted tree.bytes StringReads t v s → Here registry d (of shape.bytes) t (suc v) s
      to t v s (n, x, u, le, h, e, i) =
          let long : length x ≡ n = h.1.0 in
          subst (λ (y : Tree). Here registry d (of shape.bytes) y (suc v) s) (sym e)
          (decodable registry d (of shape.bytes) (tree.bytes x) (bytes_pass x (subst AreBytes h.1.2 h.0)) tt (omega arith) (le-leb (length x) length_limit (omega (arith, le, long))), omega (arith, h.1.1), i ∙ ap₂ (λ (y : ℕ) (z : List ℕ). uleb y ++ z) (sym long) h.1.2)

      from : (t : Tree) (v w : ℕ) (s : List ℕ) → IsDecodable registry d (of shape.bytes) t → w ≡ nodes t → s ≡ plain registry t (of shape.bytes)
          → (v : ℕ) × (w ≡ suc v) × Counted tree.bytes StringReads t v s
      from (tree.bytes x) v w s h i j =
          (0, i, (length x, x, x, leb-true (length x) length_limit h.sound.lengths, (pass_bytes x h.sound.fit, (refl, refl, refl)), refl, j))
      from _ v w s h i j = absurd (let e = h.sound.fit in cc)

  -- ---- values with parts

  module _ (s : Shape) (S : Stopping) (parser : Parser Tree) (ex : Exact (Here registry d (of s)) S parser) where
    pub exact_option_value : Exact (Here registry d (of (shape.option s))) (NodeStop (OptionStop S)) (node (option_here building parser))
    exact_option_value = exact_here (of (shape.option s)) (OptionReads (Here registry d (of s))) (OptionStop S) (option_here building parser) (exact_option (Here registry d (of s)) S parser ex) to from
      where
        to : (t : Tree) (v : ℕ) (b : List ℕ) → OptionReads (Here registry d (of s)) t v b → Here registry d (of (shape.option s)) t (suc v) b
        to t v b (inl h) =
            subst (λ (y : Tree). Here registry d (of (shape.option s)) y (suc v) b) (sym h.0) (decodable registry d (of (shape.option s)) tree.absent refl tt (omega arith) refl, omega (arith, h.1), h.2)
        to t v b (inr (x, u, h, e, i)) =
            let g = h.0 in
            subst (λ (y : Tree). Here registry d (of (shape.option s)) y (suc v) b) (sym e)
            (decodable registry d (of (shape.option s)) (tree.present x) g.sound.fit g.canonical g.sound.depth_holds g.sound.lengths, omega (arith, h.1), i ∙ ap (λ (y : List ℕ). 1 ∷ y) h.2)

        from : (t : Tree) (v w : ℕ) (b : List ℕ) → IsDecodable registry d (of (shape.option s)) t → w ≡ nodes t
            → b ≡ plain registry t (of (shape.option s)) → (v : ℕ) × (w ≡ suc v) × OptionReads (Here registry d (of s)) t v b
        from tree.absent v w b h i j = (0, i, inl (refl, refl, j))
        from (tree.present x) v w b h i j =
            (nodes x, i, inr (x, plain registry x (of s), (decodable registry d (of s) x h.sound.fit h.canonical h.sound.depth_holds h.sound.lengths, refl, refl), refl, j))
        from _ v w b h i j = absurd (let e = h.sound.fit in cc)

    abbrev RowOf : ℕ → Reads Trees
    RowOf = ItemsReads registry s (IsDecodable registry d (of s))

    abbrev RowStop : ℕ → Stopping
    RowStop = ItemsStop registry s (IsDecodable registry d (of s)) S

    exact_row : (n : ℕ) → Exact (RowOf n) (RowStop n) (items_here building parser n)
    exact_row = exact_items registry s (IsDecodable registry d (of s)) S parser ex

    pub exact_seq_value : Exact (Here registry d (of (shape.seq s))) (NodeStop (AfterLength RowStop)) (node (chain length_here (λ n. chain (items_here building parser n) (λ ts. give (tree.items ts)))))
    exact_seq_value = exact_here (of (shape.seq s)) (Counted tree.items RowOf) (AfterLength RowStop) (chain length_here (λ n. chain (items_here building parser n) (λ ts. give (tree.items ts)))) (exact_counted tree.items RowOf RowStop (items_here building parser) exact_row) to from
      where
        to : (t : Tree) (v : ℕ) (b : List ℕ) → Counted tree.items RowOf t v b → Here registry d (of (shape.seq s)) t (suc v) b
        to t v b (n, ts, u, le, h, e, i) =
            let long : count ts ≡ n = h.0 in
            let k = items_are registry d s ts h.1 in
            subst (λ (y : Tree). Here registry d (of (shape.seq s)) y (suc v) b) (sym e)
            (decodable registry d (of (shape.seq s)) (tree.items ts) k.fit_is k.canonical_is k.deep_is (and_from _ _ (le-leb (count ts) length_limit (omega (arith, le, long))) k.long_is), omega (arith, h.2), i ∙ ap₂ (λ (y : ℕ) (z : List ℕ). uleb y ++ z) (sym long) h.3)

        from : (t : Tree) (v w : ℕ) (b : List ℕ) → IsDecodable registry d (of (shape.seq s)) t → w ≡ nodes t → b ≡ plain registry t (of (shape.seq s))
            → (v : ℕ) × (w ≡ suc v) × Counted tree.items RowOf t v b
        from (tree.items ts) v w b h i j =
            let p = and_parts (nat_le (count ts) length_limit) (all_hold length_limit registry ts s) h.sound.lengths in
            let all = are_items registry d s ts (record { fit_is = h.sound.fit; canonical_is = h.canonical; deep_is = h.sound.depth_holds; long_is = p.1 }) in
            (trees_nodes ts, i, (count ts, ts, plain_items registry ts s, leb-true (count ts) length_limit p.0, (refl, all, refl, refl), refl, j))
        from _ v w b h i j = absurd (let e = h.sound.fit in cc)

    pub exact_array_value : (n : ℕ)
        → Exact (Here registry d (of (shape.array s n))) (NodeStop (RowStop n)) (node (chain (items_here building parser n) (λ ts. give (tree.items ts))))
    exact_array_value n =
        exact_here (of (shape.array s n)) (Made tree.items (RowOf n)) (RowStop n) (chain (items_here building parser n) (λ ts. give (tree.items ts))) (exact_made tree.items (RowOf n) (RowStop n) (items_here building parser n) (exact_row n)) to from
      where
        to : (t : Tree) (v : ℕ) (b : List ℕ) → Made tree.items (RowOf n) t v b → Here registry d (of (shape.array s n)) t (suc v) b
        to t v b (ts, h, e) =
            let k = items_are registry d s ts h.1 in
            subst (λ (y : Tree). Here registry d (of (shape.array s n)) y (suc v) b) (sym e)
            (decodable registry d (of (shape.array s n)) (tree.items ts) (and_from _ _ (eq-eqb (count ts) n h.0) k.fit_is) k.canonical_is k.deep_is k.long_is, omega (arith, h.2), h.3)

        from : (t : Tree) (v w : ℕ) (b : List ℕ) → IsDecodable registry d (of (shape.array s n)) t → w ≡ nodes t
            → b ≡ plain registry t (of (shape.array s n)) → (v : ℕ) × (w ≡ suc v) × Made tree.items (RowOf n) t v b
        from (tree.items ts) v w b h i j =
            let p = and_parts (count ts == n) (all_fit false registry ts s) h.sound.fit in
            let all = are_items registry d s ts (record { fit_is = p.1; canonical_is = h.canonical; deep_is = h.sound.depth_holds; long_is = h.sound.lengths }) in
            (trees_nodes ts, i, (ts, (nat-same (count ts) n p.0, all, refl, j), refl))
        from _ v w b h i j = absurd (let e = h.sound.fit in cc)

  module _ (k v : Shape) (KS VS : Stopping) (key value : Parser Tree) (ek : Exact (Here registry d (of k)) KS key) (ev : Exact (Here registry d (of v)) VS value) where
    abbrev EntriesOf : ℕ → Reads Pairs
    EntriesOf = PairsReads registry k v (IsDecodable registry d (of k)) (IsDecodable registry d (of v)) None

    abbrev EntriesStop : ℕ → Stopping
    EntriesStop = PairsStop registry k v (IsDecodable registry d (of k)) (IsDecodable registry d (of v)) KS VS None

    exact_entries : (n : ℕ) → Exact (EntriesOf n) (EntriesStop n) (pairs_here building key value None n)
    exact_entries n = exact_pairs registry k v (IsDecodable registry d (of k)) (IsDecodable registry d (of v)) KS VS key value ek ev n None

    pub exact_map_value : Exact (Here registry d (of (shape.map k v))) (NodeStop (AfterLength EntriesStop)) (node (chain length_here (λ n. chain (pairs_here building key value None n) (λ ps. give (tree.pairs ps)))))
    exact_map_value = exact_here (of (shape.map k v)) (Counted tree.pairs EntriesOf) (AfterLength EntriesStop) (chain length_here (λ n. chain (pairs_here building key value None n) (λ ps. give (tree.pairs ps)))) (exact_counted tree.pairs EntriesOf EntriesStop (pairs_here building key value None) exact_entries) to from
      where
        to : (t : Tree) (m : ℕ) (b : List ℕ) → Counted tree.pairs EntriesOf t m b → Here registry d (of (shape.map k v)) t (suc m) b
        to t m b (n, ps, u, le, h, e, i) =
            let long : pair_count ps ≡ n = h.0 in
            let g = pairs_are registry d None k v ps h.1 in
            subst (λ (y : Tree). Here registry d (of (shape.map k v)) y (suc m) b) (sym e)
            (decodable registry d (of (shape.map k v)) (tree.pairs ps) g.fit_is g.canonical_is g.deep_is (and_from _ _ (le-leb (pair_count ps) length_limit (omega (arith, le, long))) g.long_is), omega (arith, h.2), i ∙ ap₂ (λ (y : ℕ) (z : List ℕ). uleb y ++ z) (sym long) h.3)

        from : (t : Tree) (m w : ℕ) (b : List ℕ) → IsDecodable registry d (of (shape.map k v)) t → w ≡ nodes t
            → b ≡ plain registry t (of (shape.map k v)) → (m : ℕ) × (w ≡ suc m) × Counted tree.pairs EntriesOf t m b
        from (tree.pairs ps) m w b h i j =
            let p = and_parts (nat_le (pair_count ps) length_limit) (pairs_hold length_limit registry ps k v) h.sound.lengths in
            let all = are_pairs registry d None k v ps (record { fit_is = h.sound.fit; canonical_is = h.canonical; deep_is = h.sound.depth_holds; long_is = p.1 }) in
            (pairs_nodes ps, i, (pair_count ps, ps, plain_pairs registry ps k v, leb-true (pair_count ps) length_limit p.0, (refl, all, refl, refl), refl, j))
        from _ m w b h i j = absurd (let e = h.sound.fit in cc)
