-- Validation succeeds exactly if the value fits, depth and nodes are within the limits, and no length is too large.
use Rattle.bcs_encode_impl.proofs.Prelude.{◌≡◌, ℕ, ◌+◌, ◌-◌, ◌≤◌, ◌^◌, Bool, true, false, ◌&&◌, ◌==◌, nat_le, nat_lt, length, Option, Some, None, is_some, IsTrue, ◌↔◌, refl, sym, ap, ◌∙◌, arith, and_parts, and_from, false≢true, none-some, same_Some, option_and_then, is_utf8, Entries, Content, of, one_of, content_at, choice_at, Shape, Shapes, no_shapes, shape, Tree, Trees, no_trees, tree, Pairs, no_pairs, pair, count, pair_count, depth, trees_depth, pairs_depth, nodes, trees_nodes, pairs_nodes, fits, all_fit, each_fits, pairs_fit, are_bytes, Bounds, fits-unsupported, length_limit, lengths_hold, all_hold, each_holds, pairs_hold, IsSoundBesidesKeys, less, validated, all_validated, each_validated, pairs_validated}
use Rattle.bcs_registry_model.specs.Shape as shape
use Rattle.bcs_value_model.specs.Tree as tree
use Rattle.bcs_encode_impl.proofs.Options.{then_some, then_is, if_some, if_is, less_some, less_is, leaf_some, leaf_is}

-- it fits, its lengths are valid, `depth` is within `d`, and its nodes leave `m` of `n`
abbrev Kept : Bool → Bool → ℕ → ℕ → ℕ → ℕ → ℕ → Type 0
Kept fitting lengths depth nodes d n m = (fitting ≡ true) × (lengths ≡ true) × (depth ≤ d) × (nodes + m ≡ n)

module _ (registry : Entries) where
  mutual
    validated_keeps : (t : Tree) (f : Content) (d n m : ℕ) → validated registry t f d n ≡ Some m
        → Kept (fits false registry t f) (lengths_hold length_limit registry t f) (depth t) (nodes t) d n m
    validated_keeps tree.unit (of shape.unit) d n m h = (refl, refl, omega arith, less_some 1 n m h)
    validated_keeps (tree.truth b) (of shape.truth) d n m h = (refl, refl, omega arith, less_some 1 n m h)
    validated_keeps (tree.unsigned k) (of (shape.unsigned w)) d n m h = let p = leaf_some _ n m h in (p.0, refl, omega arith, p.1)
    validated_keeps (tree.signed z) (of (shape.signed w)) d n m h = let p = leaf_some _ n m h in (p.0, refl, omega arith, p.1)
    validated_keeps (tree.text s) (of shape.text) d n m h =
        let p = leaf_some (is_utf8 s && nat_le (length s) length_limit) n m h in
        let q = and_parts (is_utf8 s) (nat_le (length s) length_limit) p.0 in
        (q.0, q.1, omega arith, p.1)
    validated_keeps (tree.bytes s) (of shape.bytes) d n m h =
        let p = leaf_some (are_bytes s && nat_le (length s) length_limit) n m h in
        let q = and_parts (are_bytes s) (nat_le (length s) length_limit) p.0 in
        (q.0, q.1, omega arith, p.1)
    validated_keeps tree.absent (of (shape.option s)) d n m h = (refl, refl, omega arith, less_some 1 n m h)
    validated_keeps (tree.present t) (of (shape.option s)) d n m h =
        let p = then_some (validated registry t (of s) d) (less 1 n) m h in
        let k = validated_keeps t (of s) d p.0 m p.2 in
        (k.0, k.1, k.2, omega (arith, k.3, less_some 1 n p.0 p.1))
    validated_keeps (tree.items ts) (of (shape.seq s)) d n m h =
        let g = if_some (nat_le (count ts) length_limit) (option_and_then (all_validated registry ts s d) (less 1 n)) m h in
        let p = then_some (all_validated registry ts s d) (less 1 n) m g.1 in
        let k = all_validated_keep ts s d p.0 m p.2 in
        (k.0, and_from _ _ g.0 k.1, k.2, omega (arith, k.3, less_some 1 n p.0 p.1))
    validated_keeps (tree.items ts) (of (shape.tuple ss)) d n m h =
        let p = then_some (each_validated registry ts ss d) (less 1 n) m h in
        let k = each_validated_keeps ts ss d p.0 m p.2 in
        (k.0, k.1, k.2, omega (arith, k.3, less_some 1 n p.0 p.1))
    validated_keeps (tree.items ts) (of (shape.array s size)) d n m h =
        let g = if_some (count ts == size) (option_and_then (all_validated registry ts s d) (less 1 n)) m h in
        let p = then_some (all_validated registry ts s d) (less 1 n) m g.1 in
        let k = all_validated_keep ts s d p.0 m p.2 in
        (and_from _ _ g.0 k.0, k.1, k.2, omega (arith, k.3, less_some 1 n p.0 p.1))
    validated_keeps (tree.pairs ps) (of (shape.map f g)) d n m h =
        let e = if_some (nat_le (pair_count ps) length_limit) (option_and_then (pairs_validated registry ps f g d) (less 1 n)) m h in
        let p = then_some (pairs_validated registry ps f g d) (less 1 n) m e.1 in
        let k = pairs_validated_keep ps f g d p.0 m p.2 in
        (k.0, and_from _ _ e.0 k.1, k.2, omega (arith, k.3, less_some 1 n p.0 p.1))
    validated_keeps (tree.named t) (of (shape.name name)) d n m h =
        let p = then_some (λ (o : ℕ). option_and_then (validated registry t (content_at name registry) o) (less 1 n)) (less 1 d) m h in
        let q = then_some (validated registry t (content_at name registry) p.0) (less 1 n) m p.2 in
        let k = validated_keeps t (content_at name registry) p.0 q.0 m q.2 in
        (k.0, k.1, omega (arith, k.2, less_some 1 d p.0 p.1), omega (arith, k.3, less_some 1 n q.0 q.1))
    validated_keeps (tree.variant number t) (one_of cs) d n m h =
        let g = if_some (nat_lt number (2 ^ 32)) (option_and_then (validated registry t (choice_at number cs) d) (less 1 n)) m h in
        let p = then_some (validated registry t (choice_at number cs) d) (less 1 n) m g.1 in
        let k = validated_keeps t (choice_at number cs) d p.0 m p.2 in
        (and_from _ _ g.0 k.0, k.1, k.2, omega (arith, k.3, less_some 1 n p.0 p.1))
    validated_keeps _ _ d n m h = absurd (none-some m h)

    all_validated_keep : (ts : Trees) (s : Shape) (d n m : ℕ) → all_validated registry ts s d n ≡ Some m
        → Kept (all_fit false registry ts s) (all_hold length_limit registry ts s) (trees_depth ts) (trees_nodes ts) d n m
    all_validated_keep no_trees s d n m h = (refl, refl, omega arith, omega (arith, same_Some n m h))
    all_validated_keep (tree t ts) s d n m h =
        let p = then_some (all_validated registry ts s d) (validated registry t (of s) d n) m h in
        let a = validated_keeps t (of s) d n p.0 p.1 in
        let b = all_validated_keep ts s d p.0 m p.2 in
        (and_from _ _ a.0 b.0, and_from _ _ a.1 b.1, omega (arith, a.2, b.2), omega (arith, a.3, b.3))

    each_validated_keeps : (ts : Trees) (ss : Shapes) (d n m : ℕ) → each_validated registry ts ss d n ≡ Some m
        → Kept (each_fits false registry ts ss) (each_holds length_limit registry ts ss) (trees_depth ts) (trees_nodes ts) d n m
    each_validated_keeps no_trees no_shapes d n m h = (refl, refl, omega arith, omega (arith, same_Some n m h))
    each_validated_keeps (tree t ts) (shape s ss) d n m h =
        let p = then_some (each_validated registry ts ss d) (validated registry t (of s) d n) m h in
        let a = validated_keeps t (of s) d n p.0 p.1 in
        let b = each_validated_keeps ts ss d p.0 m p.2 in
        (and_from _ _ a.0 b.0, and_from _ _ a.1 b.1, omega (arith, a.2, b.2), omega (arith, a.3, b.3))
    each_validated_keeps _ _ d n m h = absurd (none-some m h)

    pairs_validated_keep : (ps : Pairs) (f g : Shape) (d n m : ℕ) → pairs_validated registry ps f g d n ≡ Some m
        → Kept (pairs_fit false registry ps f g) (pairs_hold length_limit registry ps f g) (pairs_depth ps) (pairs_nodes ps) d n m
    pairs_validated_keep no_pairs f g d n m h = (refl, refl, omega arith, omega (arith, same_Some n m h))
    pairs_validated_keep (pair k v ps) f g d n m h =
        let p = then_some (λ (x : ℕ). option_and_then (pairs_validated registry ps f g d) (validated registry v (of g) d x)) (validated registry k (of f) d n) m h in
        let q = then_some (pairs_validated registry ps f g d) (validated registry v (of g) d p.0) m p.2 in
        let a = validated_keeps k (of f) d n p.0 p.1 in
        let b = validated_keeps v (of g) d p.0 q.0 q.1 in
        let c = pairs_validated_keep ps f g d q.0 m q.2 in
        (and_from _ _ (and_from _ _ a.0 b.0) c.0, and_from _ _ (and_from _ _ a.1 b.1) c.1, omega (arith, a.2, b.2, c.2), omega (arith, a.3, b.3, c.3))

  mutual
    kept_is_validated : (t : Tree) (f : Content) (d n m : ℕ) → fits false registry t f ≡ true → lengths_hold length_limit registry t f ≡ true → depth t ≤ d → nodes t + m ≡ n
        → validated registry t f d n ≡ Some m
    kept_is_validated tree.unit (of shape.unit) d n m fit short deep e = less_is 1 n m e
    kept_is_validated (tree.truth b) (of shape.truth) d n m fit short deep e = less_is 1 n m e
    kept_is_validated (tree.unsigned k) (of (shape.unsigned w)) d n m fit short deep e = leaf_is _ n m fit e
    kept_is_validated (tree.signed z) (of (shape.signed w)) d n m fit short deep e = leaf_is _ n m fit e
    kept_is_validated (tree.text s) (of shape.text) d n m fit short deep e = leaf_is _ n m (and_from _ _ fit short) e
    kept_is_validated (tree.bytes s) (of shape.bytes) d n m fit short deep e = leaf_is _ n m (and_from _ _ fit short) e
    kept_is_validated tree.absent (of (shape.option s)) d n m fit short deep e = less_is 1 n m e
    kept_is_validated (tree.present t) (of (shape.option s)) d n m fit short deep e =
        then_is (validated registry t (of s) d) (less 1 n) (nodes t + m) m (less_is 1 n (nodes t + m) (omega (arith, e)))
        (kept_is_validated t (of s) d (nodes t + m) m fit short deep refl)
    kept_is_validated (tree.items ts) (of (shape.seq s)) d n m fit short deep e =
        let l = and_parts (nat_le (count ts) length_limit) (all_hold length_limit registry ts s) short in
        if_is (nat_le (count ts) length_limit) (option_and_then (all_validated registry ts s d) (less 1 n)) m l.0
        (then_is (all_validated registry ts s d) (less 1 n) (trees_nodes ts + m) m (less_is 1 n (trees_nodes ts + m) (omega (arith, e)))
        (all_kept_are_validated ts s d (trees_nodes ts + m) m fit l.1 deep refl))
    kept_is_validated (tree.items ts) (of (shape.tuple ss)) d n m fit short deep e =
        then_is (each_validated registry ts ss d) (less 1 n) (trees_nodes ts + m) m (less_is 1 n (trees_nodes ts + m) (omega (arith, e)))
        (each_kept_is_validated ts ss d (trees_nodes ts + m) m fit short deep refl)
    kept_is_validated (tree.items ts) (of (shape.array s size)) d n m fit short deep e =
        let l = and_parts (count ts == size) (all_fit false registry ts s) fit in
        if_is (count ts == size) (option_and_then (all_validated registry ts s d) (less 1 n)) m l.0
        (then_is (all_validated registry ts s d) (less 1 n) (trees_nodes ts + m) m (less_is 1 n (trees_nodes ts + m) (omega (arith, e)))
        (all_kept_are_validated ts s d (trees_nodes ts + m) m l.1 short deep refl))
    kept_is_validated (tree.pairs ps) (of (shape.map f g)) d n m fit short deep e =
        let l = and_parts (nat_le (pair_count ps) length_limit) (pairs_hold length_limit registry ps f g) short in
        if_is (nat_le (pair_count ps) length_limit) (option_and_then (pairs_validated registry ps f g d) (less 1 n)) m l.0
        (then_is (pairs_validated registry ps f g d) (less 1 n) (pairs_nodes ps + m) m (less_is 1 n (pairs_nodes ps + m) (omega (arith, e)))
        (pairs_kept_are_validated ps f g d (pairs_nodes ps + m) m fit l.1 deep refl))
    kept_is_validated (tree.named t) (of (shape.name name)) d n m fit short deep e =
        then_is (λ (o : ℕ). option_and_then (validated registry t (content_at name registry) o) (less 1 n)) (less 1 d) (d - 1) m (less_is 1 d (d - 1) (omega (arith, deep)))
        (then_is (validated registry t (content_at name registry) (d - 1)) (less 1 n) (nodes t + m) m (less_is 1 n (nodes t + m) (omega (arith, e)))
        (kept_is_validated t (content_at name registry) (d - 1) (nodes t + m) m fit short (omega (arith, deep)) refl))
    kept_is_validated (tree.variant number t) (one_of cs) d n m fit short deep e =
        let l = and_parts (nat_lt number (2 ^ 32)) (fits false registry t (choice_at number cs)) fit in
        if_is (nat_lt number (2 ^ 32)) (option_and_then (validated registry t (choice_at number cs) d) (less 1 n)) m l.0
        (then_is (validated registry t (choice_at number cs) d) (less 1 n) (nodes t + m) m (less_is 1 n (nodes t + m) (omega (arith, e)))
        (kept_is_validated t (choice_at number cs) d (nodes t + m) m l.1 short deep refl))
    kept_is_validated t (of (shape.unsupported u)) d n m fit short deep e = absurd (false≢true (sym (fits-unsupported false registry t u) ∙ fit))
    kept_is_validated _ _ d n m fit short deep e = absurd (false≢true fit)

    all_kept_are_validated : (ts : Trees) (s : Shape) (d n m : ℕ) → all_fit false registry ts s ≡ true → all_hold length_limit registry ts s ≡ true → trees_depth ts ≤ d → trees_nodes ts + m ≡ n
        → all_validated registry ts s d n ≡ Some m
    all_kept_are_validated no_trees s d n m fit short deep e = let is : n ≡ m = omega (arith, e) in ap (λ (x : ℕ). Some x) is
    all_kept_are_validated (tree t ts) s d n m fit short deep e =
        let p = and_parts (fits false registry t (of s)) (all_fit false registry ts s) fit in
        let l = and_parts (lengths_hold length_limit registry t (of s)) (all_hold length_limit registry ts s) short in
        then_is (all_validated registry ts s d) (validated registry t (of s) d n) (trees_nodes ts + m) m
        (kept_is_validated t (of s) d n (trees_nodes ts + m) p.0 l.0 (omega (arith, deep)) (omega (arith, e)))
        (all_kept_are_validated ts s d (trees_nodes ts + m) m p.1 l.1 (omega (arith, deep)) refl)

    each_kept_is_validated : (ts : Trees) (ss : Shapes) (d n m : ℕ) → each_fits false registry ts ss ≡ true → each_holds length_limit registry ts ss ≡ true → trees_depth ts ≤ d → trees_nodes ts + m ≡ n
        → each_validated registry ts ss d n ≡ Some m
    each_kept_is_validated no_trees no_shapes d n m fit short deep e = let is : n ≡ m = omega (arith, e) in ap (λ (x : ℕ). Some x) is
    each_kept_is_validated (tree t ts) (shape s ss) d n m fit short deep e =
        let p = and_parts (fits false registry t (of s)) (each_fits false registry ts ss) fit in
        let l = and_parts (lengths_hold length_limit registry t (of s)) (each_holds length_limit registry ts ss) short in
        then_is (each_validated registry ts ss d) (validated registry t (of s) d n) (trees_nodes ts + m) m
        (kept_is_validated t (of s) d n (trees_nodes ts + m) p.0 l.0 (omega (arith, deep)) (omega (arith, e)))
        (each_kept_is_validated ts ss d (trees_nodes ts + m) m p.1 l.1 (omega (arith, deep)) refl)
    each_kept_is_validated _ _ d n m fit short deep e = absurd (false≢true fit)

    pairs_kept_are_validated : (ps : Pairs) (f g : Shape) (d n m : ℕ) → pairs_fit false registry ps f g ≡ true → pairs_hold length_limit registry ps f g ≡ true → pairs_depth ps ≤ d → pairs_nodes ps + m ≡ n
        → pairs_validated registry ps f g d n ≡ Some m
    pairs_kept_are_validated no_pairs f g d n m fit short deep e = let is : n ≡ m = omega (arith, e) in ap (λ (x : ℕ). Some x) is
    pairs_kept_are_validated (pair k v ps) f g d n m fit short deep e =
        let p = and_parts (fits false registry k (of f) && fits false registry v (of g)) (pairs_fit false registry ps f g) fit in
        let q = and_parts (fits false registry k (of f)) (fits false registry v (of g)) p.0 in
        let l = and_parts (lengths_hold length_limit registry k (of f) && lengths_hold length_limit registry v (of g)) (pairs_hold length_limit registry ps f g) short in
        let j = and_parts (lengths_hold length_limit registry k (of f)) (lengths_hold length_limit registry v (of g)) l.0 in
        let rest = pairs_nodes ps + m in
        then_is (λ (x : ℕ). option_and_then (pairs_validated registry ps f g d) (validated registry v (of g) d x)) (validated registry k (of f) d n) (nodes v + rest) m
        (kept_is_validated k (of f) d n (nodes v + rest) q.0 j.0 (omega (arith, deep)) (omega (arith, e)))
        (then_is (pairs_validated registry ps f g d) (validated registry v (of g) d (nodes v + rest)) rest m
        (kept_is_validated v (of g) d (nodes v + rest) rest q.1 j.1 (omega (arith, deep)) refl)
        (pairs_kept_are_validated ps f g d rest m p.1 l.1 (omega (arith, deep)) refl))

validated_is_sound : (registry : Entries) (limits : Bounds) (s : Shape) (t : Tree) (m : ℕ) → validated registry t (of s) limits.depth limits.nodes ≡ Some m
    → IsSoundBesidesKeys registry limits s t
validated_is_sound registry limits s t m h =
    let k = validated_keeps registry t (of s) limits.depth limits.nodes m h in
    record { fit = k.0; depth_holds = k.2; nodes_hold = omega (arith, k.3); lengths = k.1 }

sound_is_validated : (registry : Entries) (limits : Bounds) (s : Shape) (t : Tree) → IsSoundBesidesKeys registry limits s t
    → validated registry t (of s) limits.depth limits.nodes ≡ Some (limits.nodes - nodes t)
sound_is_validated registry limits s t h =
    kept_is_validated registry t (of s) limits.depth limits.nodes (limits.nodes - nodes t) h.fit h.lengths h.depth_holds (omega (arith, h.nodes_hold))

-- validation succeeds exactly if the tree is sound besides its keys
pub validated_exactly : (registry : Entries) (limits : Bounds) (s : Shape) (t : Tree) (o : Option ℕ) → o ≡ validated registry t (of s) limits.depth limits.nodes
    → IsTrue (is_some o) ↔ IsSoundBesidesKeys registry limits s t
validated_exactly registry limits s t (Some m) e = (λ _. validated_is_sound registry limits s t m (sym e), λ _. refl)
validated_exactly registry limits s t None e = (λ h. absurd (false≢true h), λ h. absurd (none-some _ (e ∙ sound_is_validated registry limits s t h)))
