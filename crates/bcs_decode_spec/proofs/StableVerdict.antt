-- Appending bytes changes a stop only if the bytes ended too early.
use Rattle.bcs_decode_spec.proofs.Prelude.{◌≡◌, ◌≢◌, ℕ, zero, suc, ◌+◌, ◌≤◌, List, [], ◌∷◌, ◌++◌, length, take, Option, Some, None, refl, sym, ap, ◌∙◌, append_assoc, arith, inl, inr, ◌⊎◌, length-append, byte_len, uleb, IsLongForm, IsTooLarge, Shape, Shapes, no_shapes, shape, Entries, Content, of, one_of, nothing, Choice, content_at, choice_at, Tree, Bounds, plain, plain_items, plain_pairs, Reason, EndOfInput, BadBool, BadOption, TooDeep, Unsupported, IsDecodable, Accepts, Stopping, NumberStop, LengthStop, AfterLength, BytesStop, TextStop, FlagStop, OptionStop, FailStop, NodeStop, ItemsStop, PairsStop, EntryStop, Misplaced, last_key, ShapeStop, EachStop, ChoiceStop, VariantStop, ContentStop, NamedStop, Stops, StopsAll, VerdictIsStable}
use Rattle.bcs_registry_model.specs.Shape as shape

-- a stop with EndOfInput is at the end of the bytes; any other one stays if z is appended
abbrev Still : List ℕ → Stopping → Stopping
Still z S p m b e o = ((e ≡ EndOfInput) × (o ≡ p + length b)) ⊎ ((e ≡ EndOfInput → ⊥) × S p m (b ++ z) e o)

abbrev IsStableUnderMore : List ℕ → Stopping → Type 0
IsStableUnderMore z S = (p m : ℕ) (b : List ℕ) (e : Reason) (o : ℕ) → S p m b e o → Still z S p m b e o

longer : (b r c s : List ℕ) → b ≡ r ++ c → b ++ s ≡ r ++ (c ++ s)
longer b r c s d = ap (λ (x : List ℕ). x ++ s) d ∙ append_assoc r c s

-- a part stops at the start of the whole, or after the bytes r
at_front : {E N A B : Type 0} → E ⊎ (N × A) → (A → B) → E ⊎ (N × B)
at_front (inl h) f = inl h
at_front (inr h) f = inr (h.0, f h.1)

behind : {E N A B : Type 0} (p o : ℕ) (b r c : List ℕ) → b ≡ r ++ c → (E × (o ≡ (p + length r) + length c)) ⊎ (N × A) → (A → B) → (E × (o ≡ p + length b)) ⊎ (N × B)
behind p o b r c d (inl h) f = inl (h.0, omega (arith, h.1, ap length d, length-append r c))
behind p o b r c d (inr h) f = inr (h.0, f h.1)

-- ---- numbers and bytes

large_more : (b s : List ℕ) → IsTooLarge b → IsTooLarge (b ++ s)
large_more b s h =
    record { front = h.front; last = h.last; rest = h.rest ++ s; high = h.high; four = h.four; above = h.above; is = longer b h.front (h.last ∷ h.rest) s h.is }

long_more : (b s : List ℕ) → IsLongForm b → IsLongForm (b ++ s)
long_more b s h =
    record { front = h.front; rest = h.rest ++ s; high = h.high; some = h.some; short = h.short; is = longer b h.front (0 ∷ h.rest) s h.is }

never_ended : (last : Option (List ℕ)) (key : List ℕ) (e : Reason) → Misplaced last key e → e ≡ EndOfInput → ⊥
never_ended None key e h i = h
never_ended (Some last) key e (inl h) i = let j = h.1 in cc
never_ended (Some last) key e (inr h) i = let j = h.1 in cc

module _ (z : List ℕ) where
  stable_number : IsStableUnderMore z NumberStop
  stable_number p m b e o (inl k) = inl (k.1, k.2)
  stable_number p m b e o (inr (inl k)) = inr ((λ h. let i = k.1 in cc), inr (inl (large_more b z k.0, k.1, k.2)))
  stable_number p m b e o (inr (inr k)) = inr ((λ h. let i = k.1 in cc), inr (inr (long_more b z k.0, k.1, k.2)))

  stable_length : IsStableUnderMore z LengthStop
  stable_length p m b e o (inl k) = at_front (stable_number p m b e o k) (λ x. inl x)
  stable_length p m b e o (inr (n, c, lt, low, d, i, j)) = inr ((λ h. cc), inr (n, c ++ z, lt, low, longer b (uleb n) c z d, i, j))

  stable_after : (T : ℕ → Stopping) → ((n : ℕ) → IsStableUnderMore z (T n)) → IsStableUnderMore z (AfterLength T)
  stable_after T st p m b e o (inl k) = at_front (stable_length p m b e o k) (λ x. inl x)
  stable_after T st p m b e o (inr (n, c, le, d, k)) = behind p o b (uleb n) c d (st n _ m c e o k) (λ x. inr (n, c ++ z, le, longer b (uleb n) c z d, x))

  stable_bytes : (n : ℕ) → IsStableUnderMore z (BytesStop n)
  stable_bytes n p m b e o k = inl (k.1, k.2)

  stable_text : (n : ℕ) → IsStableUnderMore z (TextStop n)
  stable_text n p m b e o (inl k) = inl (k.1, k.2)
  stable_text n p m b e o (inr (x, c, long, d, wrong, i, j)) = inr ((λ h. cc), inr (x, c ++ z, long, longer b x c z d, wrong, i, j))

  stable_flag : (bad : Reason) → (bad ≡ EndOfInput → ⊥) → IsStableUnderMore z (FlagStop bad)
  stable_flag bad other p m b e o (inl k) = inl (k.1, let l = ap length k.0 in omega (arith, k.2, l))
  stable_flag bad other p m b e o (inr (x, c, lt, d, i, j)) = inr ((λ h. other (sym i ∙ h)), inr (x, c ++ z, lt, longer b (x ∷ []) c z d, i, j))

  stable_option : (S : Stopping) → IsStableUnderMore z S → IsStableUnderMore z (OptionStop S)
  stable_option S st p m b e o (inl k) = at_front (stable_flag BadOption (λ i. cc) p m b e o k) (λ x. inl x)
  stable_option S st p m b e o (inr (c, d, k)) = behind p o b (1 ∷ []) c d (st (p + 1) m c e o k) (λ x. inr (c ++ z, longer b (1 ∷ []) c z d, x))

  -- a stop that doesn't depend on any byte
  stable_fail : (reason : Reason) → (reason ≡ EndOfInput → ⊥) → IsStableUnderMore z (FailStop reason)
  stable_fail reason other p m b e o k = inr ((λ h. other (sym k.0 ∙ h)), k)

  stable_node : (S : Stopping) → IsStableUnderMore z S → IsStableUnderMore z (NodeStop S)
  stable_node S st p zero b e o k = inr ((λ h. let i = k.0 in cc), k)
  stable_node S st p (suc m) b e o k = st p m b e o k

  -- ---- lists

  module _ (registry : Entries) where
    stable_items : (f : Shape) (Good : Tree → Type 0) (S : Stopping) → IsStableUnderMore z S → (n : ℕ) → IsStableUnderMore z (ItemsStop registry f Good S n)
    stable_items f Good S st n p m b e o (ts, c, l, lt, all, d, j, k) =
        behind p o b (plain_items registry ts f) c d (st _ l c e o k) (λ x. (ts, c ++ z, l, lt, all, longer b (plain_items registry ts f) c z d, j, x))

    module _ (f g : Shape) (K V : Tree → Type 0) (KS VS : Stopping) (ks : IsStableUnderMore z KS) (vs : IsStableUnderMore z VS) where
      abbrev key : Tree → List ℕ
      key a = plain registry a (of f)

      stable_entry : (last : Option (List ℕ)) → IsStableUnderMore z (EntryStop registry f K KS VS last)
      stable_entry last p m b e o (inl k) = at_front (ks p m b e o k) (λ x. inl x)
      stable_entry last p m b e o (inr (a, c, l, h, d, j, inl k)) = inr (never_ended last (key a) e k.0, inr (a, c ++ z, l, h, longer b (key a) c z d, j, inl k))
      stable_entry last p m b e o (inr (a, c, l, h, d, j, inr k)) =
          behind p o b (key a) c d (vs _ l c e o k.1) (λ x. inr (a, c ++ z, l, h, longer b (key a) c z d, j, inr (k.0, x)))

      stable_pairs : (last : Option (List ℕ)) (n : ℕ) → IsStableUnderMore z (PairsStop registry f g K V KS VS last n)
      stable_pairs last n p m b e o (ps, c, l, lt, all, d, j, k) =
          behind p o b (plain_pairs registry ps f g) c d (stable_entry (last_key registry f last ps) _ l c e o k)
          (λ x. (ps, c ++ z, l, lt, all, longer b (plain_pairs registry ps f g) c z d, j, x))

    -- ---- formats

    module _ (d : ℕ) (N : List ℕ → Stopping) (names : (n : List ℕ) → IsStableUnderMore z (N n)) where
      stable_next : (s : Shape) (ss : Shapes) → IsStableUnderMore z (ShapeStop registry d N s) → IsStableUnderMore z (EachStop registry d N ss)
          → IsStableUnderMore z (EachStop registry d N (shape s ss))
      stable_next s ss first rest p m b e o (inl k) = at_front (first p m b e o k) (λ x. inl x)
      stable_next s ss first rest p m b e o (inr (t, c, l, h, i, j, k)) =
          behind p o b (plain registry t (of s)) c i (rest _ l c e o k) (λ x. inr (t, c ++ z, l, h, longer b (plain registry t (of s)) c z i, j, x))

      mutual
        stable_shape : (s : Shape) → IsStableUnderMore z (ShapeStop registry d N s)
        stable_shape shape.unit = stable_node (λ p m b e o. ⊥) (λ p m b e o k. absurd k)
        stable_shape shape.truth = stable_node (FlagStop BadBool) (stable_flag BadBool (λ e. cc))
        stable_shape (shape.unsigned w) = stable_node (BytesStop (byte_len w)) (stable_bytes (byte_len w))
        stable_shape (shape.signed w) = stable_node (BytesStop (byte_len w)) (stable_bytes (byte_len w))
        stable_shape (shape.unsupported u) = stable_node (FailStop Unsupported) (stable_fail Unsupported (λ e. cc))
        stable_shape shape.text = stable_node (AfterLength TextStop) (stable_after TextStop stable_text)
        stable_shape shape.bytes = stable_node (AfterLength BytesStop) (stable_after BytesStop stable_bytes)
        stable_shape (shape.name n) = names n
        stable_shape (shape.option s) = stable_node (OptionStop (ShapeStop registry d N s)) (stable_option (ShapeStop registry d N s) (stable_shape s))
        stable_shape (shape.seq s) =
            let T = ItemsStop registry s (IsDecodable registry d (of s)) (ShapeStop registry d N s) in stable_node (AfterLength T) (stable_after T (stable_items s (IsDecodable registry d (of s)) (ShapeStop registry d N s) (stable_shape s)))
        stable_shape (shape.map k v) =
            let T = PairsStop registry k v (IsDecodable registry d (of k)) (IsDecodable registry d (of v)) (ShapeStop registry d N k) (ShapeStop registry d N v) None in
            stable_node (AfterLength T) (stable_after T (stable_pairs k v (IsDecodable registry d (of k)) (IsDecodable registry d (of v)) (ShapeStop registry d N k) (ShapeStop registry d N v) (stable_shape k) (stable_shape v) None))
        stable_shape (shape.tuple ss) = stable_node (EachStop registry d N ss) (stable_each ss)
        stable_shape (shape.array s n) =
            stable_node (ItemsStop registry s (IsDecodable registry d (of s)) (ShapeStop registry d N s) n) (stable_items s (IsDecodable registry d (of s)) (ShapeStop registry d N s) (stable_shape s) n)

        stable_each : (ss : Shapes) → IsStableUnderMore z (EachStop registry d N ss)
        stable_each no_shapes = λ p m b e o k. absurd k
        stable_each (shape s ss) = stable_next s ss (stable_shape s) (stable_each ss)

      stable_choice : (start : ℕ) (c : Content) → IsStableUnderMore z (ChoiceStop registry d N start c)
      stable_choice start (of s) = stable_shape s
      stable_choice start (one_of cs) = λ p m b e o k. inr ((λ h. let i = k.0 in cc), k)
      stable_choice start nothing = λ p m b e o k. inr ((λ h. let i = k.0 in cc), k)

      stable_variant : (cs : List Choice) → IsStableUnderMore z (VariantStop registry d N cs)
      stable_variant cs p m b e o (inl k) = at_front (stable_number p m b e o k) (λ x. inl x)
      stable_variant cs p m b e o (inr (n, c, low, i, k)) =
          behind p o b (uleb n) c i (stable_choice p (choice_at n cs) _ m c e o k) (λ x. inr (n, c ++ z, low, longer b (uleb n) c z i, x))

      stable_content : (c : Content) → IsStableUnderMore z (ContentStop registry d N c)
      stable_content (of s) = stable_shape s
      stable_content (one_of cs) = stable_node (VariantStop registry d N cs) (stable_variant cs)
      stable_content nothing = stable_fail Unsupported (λ e. cc)

    stable_named : (d : ℕ) (name : List ℕ) → IsStableUnderMore z (NamedStop registry d name)
    stable_named zero name = stable_fail TooDeep (λ e. cc)
    stable_named (suc d) name =
        stable_node (ContentStop registry d (NamedStop registry d) (content_at name registry)) (stable_content d (NamedStop registry d) (stable_named d) (content_at name registry))

-- ---- the law

taken : (b s : List ℕ) (n : ℕ) → n ≤ length b → take n (b ++ s) ≡ take n b
taken b s zero le = refl
taken [] s (suc n) le = absurd (omega arith)
taken (x ∷ b) s (suc n) le = ap (λ (z : List ℕ). x ∷ z) (taken b s n (omega arith))

module _ (registry : Entries) (limits : Bounds) (s : Shape) (b t : List ℕ) where
  stable_here : IsStableUnderMore t (ShapeStop registry limits.depth (NamedStop registry limits.depth) s)
  stable_here = stable_shape t registry limits.depth (NamedStop registry limits.depth) (stable_named t registry limits.depth) s

  ended_here : (o : ℕ) → Stops registry limits s b EndOfInput o → o ≡ length b
  ended_here o h = elim (stable_here 0 limits.nodes b EndOfInput o h) [
    | inl k ↦ omega (arith, k.1)
    | inr k ↦ absurd (k.0 refl)
  ]

  accepted_here : (n : ℕ) (c : Tree) → Accepts registry limits s b n c → Accepts registry limits s (b ++ t) n c
  accepted_here n c h = record {
    sound = h.sound;
    canonical = h.canonical;
    within = (let k = h.within in omega (arith, k, length-append b t));
    is = taken b t n h.within ∙ h.is;
  }

  stopped_here : (e : Reason) (o : ℕ) → e ≢ EndOfInput → Stops registry limits s b e o → Stops registry limits s (b ++ t) e o
  stopped_here e o ne h = elim (stable_here 0 limits.nodes b e o h) [
    | inl k ↦ absurd (ne k.0)
    | inr k ↦ k.1
  ]

  ended_of_all_here : (o : ℕ) → StopsAll registry limits s b EndOfInput o → o ≡ length b
  ended_of_all_here o (inl h) = ended_here o h
  ended_of_all_here o (inr (n, c, h, lt, e, i)) = absurd cc

  stopped_of_all_here : (e : Reason) (o : ℕ) → e ≢ EndOfInput → StopsAll registry limits s b e o → StopsAll registry limits s (b ++ t) e o
  stopped_of_all_here e o ne (inl h) = inl (stopped_here e o ne h)
  stopped_of_all_here e o ne (inr (n, c, h, lt, i, j)) = inr (n, c, accepted_here n c h, omega (arith, lt, length-append b t), i, j)

pub verdict_is_stable_is : VerdictIsStable
verdict_is_stable_is = λ registry limits s b t. record {
  ended = ended_here registry limits s b t;
  accepted = accepted_here registry limits s b t;
  stopped = stopped_here registry limits s b t;
  ended_of_all = ended_of_all_here registry limits s b t;
  stopped_of_all = stopped_of_all_here registry limits s b t;
}
