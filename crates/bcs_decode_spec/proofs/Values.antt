-- The decoder reads a value exactly if the bytes start with one, and stops exactly where they stop.
use Rattle.bcs_decode_spec.proofs.Prelude.{◌≡◌, ℕ, zero, suc, ◌+◌, ◌^◌, false, List, ◌++◌, length, Option, Some, None, refl, sym, ap, ap₂, subst, ◌∙◌, arith, inl, inr, false≢true, and_from, lt-ltb, uleb, Shape, Shapes, no_shapes, shape, Entries, Content, of, one_of, nothing, Choice, Payload, content_at, choice_at, choice_numbered, payload_shape, option_map_or, Tree, Trees, no_trees, tree, nodes, trees_nodes, number_fits, payload_fits, plain, plain_each, Reason, TooDeep, UnknownVariant, Unsupported, IsDecodable, Parser, chain, give, node, shape_here, each_here, choice_here, variant_here, content_here, named_here, value_here, building, Stopping, NumberStop, NodeStop, ShapeStop, EachStop, ChoiceStop, VariantStop, ContentStop, NamedStop, Reads, Exact}
use Rattle.bcs_registry_model.specs.Shape as shape
use Rattle.bcs_value_model.specs.Tree as tree
use Rattle.bcs_decode_spec.proofs.Combine.{exact_give, exact_fail, exact_fail_here, exact_chain, exact_from, exact_same, GiveReads, ThenReads, ThenStop}
use Rattle.bcs_decode_spec.proofs.Numbers.{NumberReads, exact_number}
use Rattle.bcs_decode_spec.proofs.Items.{moved}
use Rattle.bcs_decode_spec.proofs.Makings.{Made, exact_made}
use Rattle.bcs_decode_spec.proofs.Decodable.{decodable, EachIs, each_is, is_each}
use Rattle.bcs_decode_spec.proofs.OneValue.{Here, exact_here, exact_unit, exact_truth, exact_unsigned_value, exact_signed_value, exact_unsupported, exact_text_value, exact_bytes_value, exact_option_value, exact_seq_value, exact_array_value, exact_map_value}

-- ---- formats, where r reads containers by name

module _ (registry : Entries) (d : ℕ) (N : List ℕ → Stopping) (r : List ℕ → Parser Tree) (named : (name : List ℕ) → Exact (Here registry d (of (shape.name name))) (N name) (r name)) where
  -- a value for each format
  abbrev EachReads : Shapes → Reads Trees
  EachReads ss ts w s = EachIs registry d ss ts × (w ≡ trees_nodes ts) × (s ≡ plain_each registry ts ss)

  abbrev Each : Shapes → Stopping
  Each = EachStop registry d N

  module _ (s : Shape) (ss : Shapes) where
    abbrev Next : Reads Trees
    Next = ThenReads (Here registry d (of s)) (λ t. Made (tree t) (EachReads ss))

    abbrev NextStop : Stopping
    NextStop = ThenStop (Here registry d (of s)) (ShapeStop registry d N s) (λ _ _. Each ss)

    each_to : (ts : Trees) (w : ℕ) (b : List ℕ) → Next ts w b → EachReads (shape s ss) ts w b
    each_to us w b (t, v, u, x, y, h, (ts, g, i), e, j) =
        subst (λ (z : Trees). EachReads (shape s ss) z w b) (sym i) (each_is registry d s ss t ts h.0 g.0, omega (arith, e, h.1, g.1), j ∙ ap₂ (λ (x y : List ℕ). x ++ y) h.2 g.2)

    each_from : (ts : Trees) (w : ℕ) (b : List ℕ) → EachReads (shape s ss) ts w b → Next ts w b
    each_from no_trees w b h = absurd (false≢true h.0.fit_is)
    each_from (tree t ts) w b h =
        let k = is_each registry d s ss t ts h.0 in
        (t, nodes t, trees_nodes ts, plain registry t (of s), plain_each registry ts ss, (k.0, refl, refl), (ts, (k.1, refl, refl), refl), h.1, h.2)

    each_on : (p m : ℕ) (b : List ℕ) (e : Reason) (o : ℕ) → NextStop p m b e o → Each (shape s ss) p m b e o
    each_on p m b e o (inl k) = inl k
    each_on p m b e o (inr (t, v, x, c, l, h, i, j, k)) =
        inr (t, c, l, h.0, i ∙ ap (λ (y : List ℕ). y ++ c) h.2, omega (arith, j, h.1), moved (Each ss) (ap (λ (y : List ℕ). p + length y) h.2) refl refl k)

    each_back : (p m : ℕ) (b : List ℕ) (e : Reason) (o : ℕ) → Each (shape s ss) p m b e o → NextStop p m b e o
    each_back p m b e o (inl k) = inl k
    each_back p m b e o (inr (t, c, l, h, i, j, k)) = inr (t, nodes t, plain registry t (of s), c, l, (h, refl, refl), i, j, k)

  none_to : (ts : Trees) (w : ℕ) (b : List ℕ) → GiveReads no_trees ts w b → EachReads no_shapes ts w b
  none_to ts w b h =
      subst (λ (z : Trees). EachReads no_shapes z w b) (sym h.0) (record { fit_is = refl; canonical_is = tt; deep_is = omega arith; long_is = refl }, h.1, h.2)

  none_from : (ts : Trees) (w : ℕ) (b : List ℕ) → EachReads no_shapes ts w b → GiveReads no_trees ts w b
  none_from no_trees w b h = (refl, h.1, h.2)
  none_from (tree t ts) w b h = absurd (false≢true h.0.fit_is)

  module _ (ss : Shapes) (ex : Exact (EachReads ss) (Each ss) (each_here building r ss)) where
    exact_tuple_value : Exact (Here registry d (of (shape.tuple ss))) (NodeStop (Each ss)) (node (chain (each_here building r ss) (λ ts. give (tree.items ts))))
    exact_tuple_value = exact_here registry d (of (shape.tuple ss)) (Made tree.items (EachReads ss)) (Each ss) (chain (each_here building r ss) (λ ts. give (tree.items ts))) (exact_made tree.items (EachReads ss) (Each ss) (each_here building r ss) ex) to from
      where
        to : (t : Tree) (v : ℕ) (b : List ℕ) → Made tree.items (EachReads ss) t v b → Here registry d (of (shape.tuple ss)) t (suc v) b
        to t v b (ts, h, e) =
            let k = h.0 in
            subst (λ (y : Tree). Here registry d (of (shape.tuple ss)) y (suc v) b) (sym e)
            (decodable registry d (of (shape.tuple ss)) (tree.items ts) k.fit_is k.canonical_is k.deep_is k.long_is, omega (arith, h.1), h.2)

        from : (t : Tree) (v w : ℕ) (b : List ℕ) → IsDecodable registry d (of (shape.tuple ss)) t → w ≡ nodes t
            → b ≡ plain registry t (of (shape.tuple ss)) → (v : ℕ) × (w ≡ suc v) × Made tree.items (EachReads ss) t v b
        from (tree.items ts) v w b h i j =
            (trees_nodes ts, i, (ts, (record { fit_is = h.sound.fit; canonical_is = h.canonical; deep_is = h.sound.depth_holds; long_is = h.sound.lengths }, refl, j), refl))
        from _ v w b h i j = absurd (let e = h.sound.fit in cc)

  mutual
    unfolding shape_here

    pub exact_shape : (s : Shape) → Exact (Here registry d (of s)) (ShapeStop registry d N s) (shape_here building r s)
    exact_shape shape.unit = exact_unit registry d
    exact_shape shape.truth = exact_truth registry d
    exact_shape (shape.unsigned w) = exact_unsigned_value registry d w
    exact_shape (shape.signed w) = exact_signed_value registry d w
    exact_shape (shape.unsupported u) = exact_unsupported registry d u
    exact_shape shape.text = exact_text_value registry d
    exact_shape shape.bytes = exact_bytes_value registry d
    exact_shape (shape.name n) = named n
    exact_shape (shape.option s) = exact_option_value registry d s (ShapeStop registry d N s) (shape_here building r s) (exact_shape s)
    exact_shape (shape.seq s) = exact_seq_value registry d s (ShapeStop registry d N s) (shape_here building r s) (exact_shape s)
    exact_shape (shape.map k v) =
        exact_map_value registry d k v (ShapeStop registry d N k) (ShapeStop registry d N v) (shape_here building r k) (shape_here building r v) (exact_shape k) (exact_shape v)
    exact_shape (shape.tuple ss) = exact_tuple_value ss (exact_each ss)
    exact_shape (shape.array s n) = exact_array_value registry d s (ShapeStop registry d N s) (shape_here building r s) (exact_shape s) n

    exact_each : (ss : Shapes) → Exact (EachReads ss) (Each ss) (each_here building r ss)
    exact_each no_shapes = exact_same (exact_give no_trees) none_to none_from (λ p m b e o s. absurd s) (λ p m b e o s. absurd s)
    exact_each (shape s ss) =
        exact_same (exact_chain (exact_shape s) (λ t v b h. exact_made (tree t) (EachReads ss) (Each ss) (each_here building r ss) (exact_each ss))) (each_to s ss) (each_from s ss) (each_on s ss) (each_back s ss)

  -- ---- variants

  nothing_here : (f : Content) → f ≡ nothing → (t : Tree) (w : ℕ) (s : List ℕ) → Here registry d f t w s → ⊥
  nothing_here f e t w s h = never t (subst (λ (x : Content). IsDecodable registry d x t) e h.0)
    where
      never : (t : Tree) → IsDecodable registry d nothing t → ⊥
      never t h = absurd (let e = h.sound.fit in cc)

  exact_choice : (start n : ℕ) (cs : List Choice)
      → Exact (Here registry d (choice_at n cs)) (ChoiceStop registry d N start (choice_at n cs)) (choice_here building r start (choice_at n cs))
  unfolding choice_here
  exact_choice start n cs = at (choice_numbered n cs)
    where
      at : (c : Option (List ℕ × Payload))
          → Exact (Here registry d (option_map_or (λ c. of (payload_shape c.1)) c nothing)) (ChoiceStop registry d N start (option_map_or (λ c. of (payload_shape c.1)) c nothing)) (choice_here building r start (option_map_or (λ c. of (payload_shape c.1)) c nothing))
      at (Some c) = exact_shape (payload_shape c.1)
      at None =
          exact_same (exact_fail UnknownVariant start) (λ t w s h. absurd h) (λ t w s h. absurd (nothing_here nothing refl t w s h)) (λ p m b e o s. s) (λ p m b e o s. s)

  module _ (cs : List Choice) where
    abbrev VariantReads : Reads Tree
    VariantReads = ThenReads NumberReads (λ n. Made (tree.variant n) (Here registry d (choice_at n cs)))

    abbrev AfterNumber : Stopping
    AfterNumber = ThenStop NumberReads NumberStop (λ p n. ChoiceStop registry d N p (choice_at n cs))

    variant_on : (p m : ℕ) (b : List ℕ) (e : Reason) (o : ℕ) → AfterNumber p m b e o → VariantStop registry d N cs p m b e o
    variant_on p m b e o (inl k) = inl k
    variant_on p m b e o (inr (n, v, x, c, l, h, i, j, k)) =
        inr (n, c, h.0, i ∙ ap (λ (y : List ℕ). y ++ c) h.2, moved (ChoiceStop registry d N p (choice_at n cs)) (ap (λ (y : List ℕ). p + length y) h.2) (let z : l ≡ m = omega (arith, j, h.1) in z) refl k)

    variant_back : (p m : ℕ) (b : List ℕ) (e : Reason) (o : ℕ) → VariantStop registry d N cs p m b e o → AfterNumber p m b e o
    variant_back p m b e o (inl k) = inl k
    variant_back p m b e o (inr (n, c, low, i, k)) = inr (n, 0, uleb n, c, m, (low, refl, refl), i, omega arith, k)

    pub exact_variant : Exact VariantReads (VariantStop registry d N cs) (variant_here building r cs)
    unfolding variant_here
    exact_variant = exact_same (exact_from {k = λ p n. chain (choice_here building r p (choice_at n cs)) (λ t. give (tree.variant n t))} exact_number
        (λ p n v x h. exact_made (tree.variant n) (Here registry d (choice_at n cs)) (ChoiceStop registry d N p (choice_at n cs)) (choice_here building r p (choice_at n cs)) (exact_choice p n cs)))
        (λ t w s h. h) (λ t w s h. h) variant_on variant_back

    exact_enum : Exact (Here registry d (one_of cs)) (NodeStop (VariantStop registry d N cs)) (node (variant_here building r cs))
    exact_enum = exact_here registry d (one_of cs) VariantReads (VariantStop registry d N cs) (variant_here building r cs) exact_variant to from
      where
        to : (t : Tree) (v : ℕ) (b : List ℕ) → VariantReads t v b → Here registry d (one_of cs) t (suc v) b
        to y v b (n, u, x, z, c, h, (t, g, i), e, j) =
            let k = g.0 in
            subst (λ (a : Tree). Here registry d (one_of cs) a (suc v) b) (sym i)
            (decodable registry d (one_of cs) (tree.variant n t) (and_from _ _ (lt-ltb n (2 ^ 32) h.0) k.sound.fit) k.canonical k.sound.depth_holds k.sound.lengths, omega (arith, e, h.1, g.1), j ∙ ap₂ (λ (x y : List ℕ). x ++ y) h.2 g.2)

        from : (t : Tree) (v w : ℕ) (b : List ℕ) → IsDecodable registry d (one_of cs) t → w ≡ nodes t → b ≡ plain registry t (one_of cs)
            → (v : ℕ) × (w ≡ suc v) × VariantReads t v b
        from (tree.variant n t) v w b h i j =
            (nodes t, i, (n, 0, nodes t, uleb n, plain registry t (choice_at n cs), (number_fits false registry n t cs h.sound.fit, refl, refl), (t, (decodable registry d (choice_at n cs) t (payload_fits false registry n t cs h.sound.fit) h.canonical h.sound.depth_holds h.sound.lengths, refl, refl), refl), omega arith, j))
        from _ v w b h i j = absurd (let e = h.sound.fit in cc)

  pub exact_content : (f : Content) → Exact (Here registry d f) (ContentStop registry d N f) (content_here building r f)
  unfolding content_here
  exact_content (of s) = exact_shape s
  exact_content (one_of cs) = exact_enum cs
  exact_content nothing =
      exact_same (exact_fail_here Unsupported) (λ t w s h. absurd h) (λ t w s h. absurd (nothing_here nothing refl t w s h)) (λ p m b e o s. s) (λ p m b e o s. s)

-- ---- names

module _ (registry : Entries) where
  module _ (d : ℕ) (name : List ℕ) where
    abbrev Inside : Content
    Inside = content_at name registry

    named_to : (t : Tree) (v : ℕ) (b : List ℕ) → Made tree.named (Here registry d Inside) t v b
        → Here registry (suc d) (of (shape.name name)) t (suc v) b
    named_to y v b (t, h, e) =
        let k = h.0 in
        subst (λ (x : Tree). Here registry (suc d) (of (shape.name name)) x (suc v) b) (sym e)
        (decodable registry (suc d) (of (shape.name name)) (tree.named t) k.sound.fit k.canonical (let z = k.sound.depth_holds in omega (arith, z)) k.sound.lengths, omega (arith, h.1), h.2)

    named_from : (t : Tree) (v w : ℕ) (b : List ℕ) → IsDecodable registry (suc d) (of (shape.name name)) t → w ≡ nodes t
        → b ≡ plain registry t (of (shape.name name)) → (v : ℕ) × (w ≡ suc v) × Made tree.named (Here registry d Inside) t v b
    named_from (tree.named t) v w b h i j =
        (nodes t, i, (t, (decodable registry d Inside t h.sound.fit h.canonical (let z = h.sound.depth_holds in omega (arith, z)) h.sound.lengths, refl, j), refl))
    named_from _ v w b h i j = absurd (let e = h.sound.fit in cc)

  not_deep : (name : List ℕ) (t : Tree) → IsDecodable registry 0 (of (shape.name name)) t → ⊥
  not_deep name (tree.named t) h = let z = h.sound.depth_holds in omega (arith, z)
  not_deep name _ h = absurd (let e = h.sound.fit in cc)

  pub exact_named : (d : ℕ) (name : List ℕ)
      → Exact (Here registry d (of (shape.name name))) (NamedStop registry d name) (named_here building registry d name)
  unfolding named_here
  exact_named zero name =
      exact_same (exact_fail_here TooDeep) (λ t w s h. absurd h) (λ t w s h. absurd (not_deep name t h.0)) (λ p m b e o s. s) (λ p m b e o s. s)
  exact_named (suc d) name =
      exact_here registry (suc d) (of (shape.name name)) (Made tree.named (Here registry d (content_at name registry))) (ContentStop registry d (NamedStop registry d) (content_at name registry))
      (chain (content_here building (named_here building registry d) (content_at name registry)) (λ t. give (tree.named t)))
      (exact_made tree.named (Here registry d (content_at name registry)) (ContentStop registry d (NamedStop registry d) (content_at name registry)) (content_here building (named_here building registry d) (content_at name registry))
      (exact_content registry d (NamedStop registry d) (named_here building registry d) (exact_named d) (content_at name registry)))
      (named_to d name) (named_from d name)

  pub exact_value : (d : ℕ) (s : Shape)
      → Exact (Here registry d (of s)) (ShapeStop registry d (NamedStop registry d) s) (value_here building registry d s)
  unfolding value_here
  exact_value d s = exact_shape registry d (NamedStop registry d) (named_here building registry d) (exact_named d) s
