-- When a registry grows, what is accepted stays accepted, and stops stay, except where a variant may have been added.
use Rattle.bcs_decode_spec.proofs.Prelude.{◌≡◌, ◌≢◌, ℕ, zero, suc, ◌+◌, true, is_some, List, ◌++◌, length, Option, Some, None, refl, sym, ap, ap₂, subst, ◌∙◌, inl, inr, option_map_or, false≢true, and_parts, uleb, Shape, Shapes, no_shapes, shape, Container, unit_struct, newtype_struct, tuple_struct, field_struct, enumeration, Entries, Content, of, one_of, nothing, Choice, content, container_at, content_at, choice_at, Grows, IsWellFormed, has_few_levels, is_known, are_known, StaysIn, HasChoices, content_at-grows, choice_at-grows, content_at-inside, choice_at-inside, Tree, Trees, no_trees, tree, Pairs, no_pairs, pair, plain, plain_items, plain_pairs, keeps_soundness, keeps_order, keeps_bytes, Reason, UnknownVariant, IsDecodable, Stopping, AfterLength, OptionStop, NodeStop, AllAre, ItemsStop, Follows, AllRise, last_key, Misplaced, EntryStop, PairsStop, ShapeStop, EachStop, ChoiceStop, VariantStop, ContentStop, NamedStop, GrowthKeepsAccepting, GrowthKeepsStops, GrowthKeepsStopsAll}
use Rattle.bcs_registry_model.specs.Shape as shape

-- a stop for any reason except UnknownVariant stays
abbrev pub Keeps : Stopping → Stopping → Type 0
Keeps S T = (p m : ℕ) (b : List ℕ) (e : Reason) (o : ℕ) → e ≢ UnknownVariant → S p m b e o → T p m b e o

keeps_itself : (S : Stopping) → Keeps S S
keeps_itself S p m b e o ne h = h

keeps_node : (S T : Stopping) → Keeps S T → Keeps (NodeStop S) (NodeStop T)
keeps_node S T k p zero b e o ne h = h
keeps_node S T k p (suc m) b e o ne h = k p m b e o ne h

keeps_after : (S T : ℕ → Stopping) → ((n : ℕ) → Keeps (S n) (T n)) → Keeps (AfterLength S) (AfterLength T)
keeps_after S T k p m b e o ne (inl h) = inl h
keeps_after S T k p m b e o ne (inr (n, c, le, d, h)) = inr (n, c, le, d, k n (p + length (uleb n)) m c e o ne h)

keeps_option : (S T : Stopping) → Keeps S T → Keeps (OptionStop S) (OptionStop T)
keeps_option S T k p m b e o ne (inl h) = inl h
keeps_option S T k p m b e o ne (inr (c, d, h)) = inr (c, d, k (p + 1) m c e o ne h)

module _ (older newer : Entries) (grows : Grows older newer) where
  pub decodable_newer : (d : ℕ) (f : Content) (t : Tree) → IsDecodable older d f t → IsDecodable newer d f t
  decodable_newer d f t h = record {
    sound = keeps_soundness older newer _ f t grows h.sound;
    canonical = keeps_order older newer f t grows h.sound.fit h.canonical;
  }

  -- ---- lists of parts

  bytes_are : (d : ℕ) (f : Content) (t : Tree) → IsDecodable older d f t → plain older t f ≡ plain newer t f
  bytes_are d f t h = sym (keeps_bytes older newer f t grows h.sound.fit)

  all_newer : (d : ℕ) (s : Shape) (ts : Trees) → AllAre (IsDecodable older d (of s)) ts → AllAre (IsDecodable newer d (of s)) ts
  all_newer d s no_trees h = tt
  all_newer d s (tree t ts) h = (decodable_newer d (of s) t h.0, all_newer d s ts h.1)

  items_bytes : (d : ℕ) (s : Shape) (ts : Trees) → AllAre (IsDecodable older d (of s)) ts → plain_items older ts s ≡ plain_items newer ts s
  items_bytes d s no_trees h = refl
  items_bytes d s (tree t ts) h = ap₂ (λ (x y : List ℕ). x ++ y) (bytes_are d (of s) t h.0) (items_bytes d s ts h.1)

  keeps_items : (d : ℕ) (s : Shape) (S T : Stopping) → Keeps S T → (n : ℕ)
      → Keeps (ItemsStop older s (IsDecodable older d (of s)) S n) (ItemsStop newer s (IsDecodable newer d (of s)) T n)
  keeps_items d s S T k n p m b e o ne (ts, c, l, lt, all, i, j, h) =
      let same : plain_items older ts s ≡ plain_items newer ts s = items_bytes d s ts all in
      (ts, c, l, lt, all_newer d s ts all, i ∙ ap (λ (x : List ℕ). x ++ c) same, j, subst (λ (x : List ℕ). T (p + length x) l c e o) same (k (p + length (plain_items older ts s)) l c e o ne h))

  module _ (d : ℕ) (f g : Shape) where
    rise_newer : (last : Option (List ℕ)) (ps : Pairs) → AllRise older f (IsDecodable older d (of f)) (IsDecodable older d (of g)) last ps
        → AllRise newer f (IsDecodable newer d (of f)) (IsDecodable newer d (of g)) last ps
    rise_newer last no_pairs h = tt
    rise_newer last (pair a x ps) h =
        let same = bytes_are d (of f) a h.0 in (
          decodable_newer d (of f) a h.0,
          subst (λ (y : List ℕ). Follows last y) same h.1,
          decodable_newer d (of g) x h.2,
          subst (λ (y : List ℕ). AllRise newer f (IsDecodable newer d (of f)) (IsDecodable newer d (of g)) (Some y) ps) same (rise_newer (Some (plain older a (of f))) ps h.3),
        )

    last_newer : (last : Option (List ℕ)) (ps : Pairs) → AllRise older f (IsDecodable older d (of f)) (IsDecodable older d (of g)) last ps
        → last_key older f last ps ≡ last_key newer f last ps
    last_newer last no_pairs h = refl
    last_newer last (pair a x ps) h =
        last_newer (Some (plain older a (of f))) ps h.3 ∙ ap (λ (y : List ℕ). last_key newer f (Some y) ps) (bytes_are d (of f) a h.0)

    pairs_bytes : (last : Option (List ℕ)) (ps : Pairs) → AllRise older f (IsDecodable older d (of f)) (IsDecodable older d (of g)) last ps
        → plain_pairs older ps f g ≡ plain_pairs newer ps f g
    pairs_bytes last no_pairs h = refl
    pairs_bytes last (pair a x ps) h =
        ap₂ (λ (y z : List ℕ). y ++ z) (bytes_are d (of f) a h.0) (ap₂ (λ (y z : List ℕ). y ++ z) (bytes_are d (of g) x h.2) (pairs_bytes (Some (plain older a (of f))) ps h.3))

    module _ (KS VS KT VT : Stopping) (keys : Keeps KS KT) (values : Keeps VS VT) where
      keeps_entry : (last : Option (List ℕ))
          → Keeps (EntryStop older f (IsDecodable older d (of f)) KS VS last) (EntryStop newer f (IsDecodable newer d (of f)) KT VT last)
      keeps_entry last p m b e o ne (inl h) = inl (keys p m b e o ne h)
      keeps_entry last p m b e o ne (inr (a, c, l, h, i, j, inl k)) =
          let same = bytes_are d (of f) a h in
          inr (a, c, l, decodable_newer d (of f) a h, i ∙ ap (λ (x : List ℕ). x ++ c) same, j, inl (subst (λ (y : List ℕ). Misplaced last y e) same k.0, k.1))
      keeps_entry last p m b e o ne (inr (a, c, l, h, i, j, inr k)) =
          let same = bytes_are d (of f) a h in
          inr (
            a,
            c,
            l,
            decodable_newer d (of f) a h,
            i ∙ ap (λ (x : List ℕ). x ++ c) same,
            j,
            inr (
              subst (λ (y : List ℕ). Follows last y) same k.0,
              subst (λ (y : List ℕ). VT (p + length y) l c e o) same (values (p + length (plain older a (of f))) l c e o ne k.1),
            ),
          )

      keeps_pairs : (n : ℕ)
          → Keeps (PairsStop older f g (IsDecodable older d (of f)) (IsDecodable older d (of g)) KS VS None n) (PairsStop newer f g (IsDecodable newer d (of f)) (IsDecodable newer d (of g)) KT VT None n)
      keeps_pairs n p m b e o ne (ps, c, l, lt, all, i, j, h) =
          let same : plain_pairs older ps f g ≡ plain_pairs newer ps f g = pairs_bytes None ps all in
          let entry = keeps_entry (last_key older f None ps) (p + length (plain_pairs older ps f g)) l c e o ne h in (
            ps,
            c,
            l,
            lt,
            rise_newer None ps all,
            i ∙ ap (λ (x : List ℕ). x ++ c) same,
            j,
            subst (λ (y : List ℕ). EntryStop newer f (IsDecodable newer d (of f)) KT VT (last_key newer f None ps) (p + length y) l c e o) same
                (subst (λ (y : Option (List ℕ)). EntryStop newer f (IsDecodable newer d (of f)) KT VT y (p + length (plain_pairs older ps f g)) l c e o) (last_newer None ps all) entry),
          )

  -- ---- formats of the older registry

  module _ (d : ℕ) (N M : List ℕ → Stopping) (names : (n : List ℕ) → is_known older (shape.name n) ≡ true → Keeps (N n) (M n)) where
    keeps_next : (s : Shape) (ss : Shapes) → Keeps (ShapeStop older d N s) (ShapeStop newer d M s)
        → Keeps (EachStop older d N ss) (EachStop newer d M ss) → Keeps (EachStop older d N (shape s ss)) (EachStop newer d M (shape s ss))
    keeps_next s ss first rest p m b e o ne (inl h) = inl (first p m b e o ne h)
    keeps_next s ss first rest p m b e o ne (inr (t, c, l, h, i, j, k)) =
        let same = bytes_are d (of s) t h in
        inr (t, c, l, decodable_newer d (of s) t h, i ∙ ap (λ (x : List ℕ). x ++ c) same, j, subst (λ (y : List ℕ). EachStop newer d M ss (p + length y) l c e o) same (rest (p + length (plain older t (of s))) l c e o ne k))

    mutual
      keeps_shape : (s : Shape) → is_known older s ≡ true → Keeps (ShapeStop older d N s) (ShapeStop newer d M s)
      keeps_shape shape.unit h = keeps_itself (ShapeStop older d N shape.unit)
      keeps_shape shape.truth h = keeps_itself (ShapeStop older d N shape.truth)
      keeps_shape (shape.unsigned w) h = keeps_itself (ShapeStop older d N (shape.unsigned w))
      keeps_shape (shape.signed w) h = keeps_itself (ShapeStop older d N (shape.signed w))
      keeps_shape (shape.unsupported u) h = keeps_itself (ShapeStop older d N (shape.unsupported u))
      keeps_shape shape.text h = keeps_itself (ShapeStop older d N shape.text)
      keeps_shape shape.bytes h = keeps_itself (ShapeStop older d N shape.bytes)
      keeps_shape (shape.name n) h = names n h
      keeps_shape (shape.option s) h =
          keeps_node (OptionStop (ShapeStop older d N s)) (OptionStop (ShapeStop newer d M s)) (keeps_option (ShapeStop older d N s) (ShapeStop newer d M s) (keeps_shape s h))
      keeps_shape (shape.seq s) h =
          let S = ItemsStop older s (IsDecodable older d (of s)) (ShapeStop older d N s) in
          let T = ItemsStop newer s (IsDecodable newer d (of s)) (ShapeStop newer d M s) in
          keeps_node (AfterLength S) (AfterLength T) (keeps_after S T (keeps_items d s (ShapeStop older d N s) (ShapeStop newer d M s) (keeps_shape s h)))
      keeps_shape (shape.map k v) h =
          let both = and_parts (is_known older k) (is_known older v) h in
          let S = PairsStop older k v (IsDecodable older d (of k)) (IsDecodable older d (of v)) (ShapeStop older d N k) (ShapeStop older d N v) None in
          let T = PairsStop newer k v (IsDecodable newer d (of k)) (IsDecodable newer d (of v)) (ShapeStop newer d M k) (ShapeStop newer d M v) None in
          keeps_node (AfterLength S) (AfterLength T) (keeps_after S T (keeps_pairs d k v (ShapeStop older d N k) (ShapeStop older d N v) (ShapeStop newer d M k) (ShapeStop newer d M v) (keeps_shape k both.0) (keeps_shape v both.1)))
      keeps_shape (shape.tuple ss) h = keeps_node (EachStop older d N ss) (EachStop newer d M ss) (keeps_each ss h)
      keeps_shape (shape.array s n) h =
          keeps_node (ItemsStop older s (IsDecodable older d (of s)) (ShapeStop older d N s) n) (ItemsStop newer s (IsDecodable newer d (of s)) (ShapeStop newer d M s) n)
          (keeps_items d s (ShapeStop older d N s) (ShapeStop newer d M s) (keeps_shape s h) n)

      keeps_each : (ss : Shapes) → are_known older ss ≡ true → Keeps (EachStop older d N ss) (EachStop newer d M ss)
      keeps_each no_shapes h = λ p m b e o ne k. k
      keeps_each (shape s ss) h =
          let both = and_parts (is_known older s) (are_known older ss) h in keeps_next s ss (keeps_shape s both.0) (keeps_each ss both.1)

    -- an existing variant stays
    keeps_choice : (start : ℕ) (f g : Content) → StaysIn f g → ((s : Shape) → f ≡ of s → is_known older s ≡ true)
        → Keeps (ChoiceStop older d N start f) (ChoiceStop newer d M start g)
    keeps_choice start (of s) (of u) stays known =
        subst (λ (x : Shape). Keeps (ShapeStop older d N s) (ShapeStop newer d M x)) stays (keeps_shape s (known s refl))
    keeps_choice start (of s) (one_of ds) stays known = absurd stays
    keeps_choice start (of s) nothing stays known = absurd stays
    keeps_choice start (one_of cs) g stays known = λ p m b e o ne h. absurd (ne h.0)
    keeps_choice start nothing g stays known = λ p m b e o ne h. absurd (ne h.0)

    keeps_variant : (cs ds : List Choice) → HasChoices cs ds → ((k : ℕ) (s : Shape) → choice_at k cs ≡ of s → is_known older s ≡ true)
        → Keeps (VariantStop older d N cs) (VariantStop newer d M ds)
    keeps_variant cs ds has known p m b e o ne (inl h) = inl h
    keeps_variant cs ds has known p m b e o ne (inr (n, c, low, i, h)) =
        inr (n, c, low, i, keeps_choice p (choice_at n cs) (choice_at n ds) (choice_at-grows cs ds has n) (known n) (p + length (uleb n)) m c e o ne h)

    keeps_content : (f g : Content) → StaysIn f g → f ≢ nothing → ((s : Shape) → f ≡ of s → is_known older s ≡ true)
        → ((cs : List Choice) → f ≡ one_of cs → (k : ℕ) (s : Shape) → choice_at k cs ≡ of s → is_known older s ≡ true)
        → Keeps (ContentStop older d N f) (ContentStop newer d M g)
    keeps_content (of s) (of u) stays some known chosen =
        subst (λ (x : Shape). Keeps (ShapeStop older d N s) (ShapeStop newer d M x)) stays (keeps_shape s (known s refl))
    keeps_content (of s) (one_of ds) stays some known chosen = absurd stays
    keeps_content (of s) nothing stays some known chosen = absurd stays
    keeps_content (one_of cs) (one_of ds) stays some known chosen =
        keeps_node (VariantStop older d N cs) (VariantStop newer d M ds) (keeps_variant cs ds stays (chosen cs refl))
    keeps_content (one_of cs) (of u) stays some known chosen = absurd stays
    keeps_content (one_of cs) nothing stays some known chosen = absurd stays
    keeps_content nothing g stays some known chosen = absurd (some refl)

  -- ---- names

  some_content : (n : List ℕ) → is_known older (shape.name n) ≡ true → content_at n older ≢ nothing
  some_content n h e = at (container_at n older) h e
    where
      in_container : (c : Container) → content c ≡ nothing → ⊥
      in_container unit_struct h = absurd cc
      in_container (newtype_struct s) h = absurd cc
      in_container (tuple_struct ss) h = absurd cc
      in_container (field_struct fs) h = absurd cc
      in_container (enumeration cs) h = absurd cc

      at : (c : Option Container) → is_some c ≡ true → option_map_or content c nothing ≡ nothing → ⊥
      at None h e = absurd (false≢true h)
      at (Some c) h e = in_container c e

  keeps_named : IsWellFormed older → (d : ℕ) (n : List ℕ) → is_known older (shape.name n) ≡ true → Keeps (NamedStop older d n) (NamedStop newer d n)
  keeps_named good zero n h = λ p m b e o ne k. k
  keeps_named good (suc d) n h =
      keeps_node (ContentStop older d (NamedStop older d) (content_at n older)) (ContentStop newer d (NamedStop newer d) (content_at n newer))
      (keeps_content d (NamedStop older d) (NamedStop newer d) (keeps_named good d) (content_at n older) (content_at n newer) (content_at-grows older newer grows n) (some_content n h)
      (λ s e. (content_at-inside older good n s e).0) (λ cs e k s i. (choice_at-inside older good n cs e k s i).0))

-- ---- the laws

pub keeps_accepting : GrowthKeepsAccepting
keeps_accepting = λ older newer limits s b n c grows h. record {
  sound = keeps_soundness older newer limits (of s) c grows h.sound;
  canonical = keeps_order older newer (of s) c grows h.sound.fit h.canonical;
  within = h.within;
  is = h.is ∙ sym (keeps_bytes older newer (of s) c grows h.sound.fit);
}

pub keeps_stops : GrowthKeepsStops
keeps_stops = λ older newer limits s b e o good admitted grows ne h.
    keeps_shape older newer grows limits.depth (NamedStop older limits.depth) (NamedStop newer limits.depth) (keeps_named older newer grows good limits.depth)
    s (and_parts (has_few_levels s) (is_known older s) admitted).1 0 limits.nodes b e o ne h

pub keeps_stops_all : GrowthKeepsStopsAll
keeps_stops_all = λ older newer limits s b e o good admitted grows ne h.
    elim h [
      | inl k ↦ inl (keeps_stops older newer limits s b e o good admitted grows ne k)
      | inr (n, c, a, lt, i, j) ↦ inr (n, c, keeps_accepting older newer limits s b n c grows a, lt, i, j)
    ]
