-- What is written for a fitting tree is the bytes of its canonical form, unless a map repeats a key.
use Rattle.bcs_encode_impl.proofs.Prelude.{◌≡◌, ℕ, suc, Bool, true, false, not, ◌&&◌, ◌==◌, List, [], ◌∷◌, ◌++◌, refl, sym, ap, subst, ◌∙◌, append_assoc, append-nil, length, inl, inr, Result, Ok, Err, flat_map, and_left, and_parts, and_from, false≢true, false_from_ne_true, eq-eqb, uleb, Shape, Shapes, no_shapes, shape, Entries, Content, of, one_of, content_at, choice_at, Tree, Trees, no_trees, tree, Pairs, no_pairs, pair, count, pair_count, fits, all_fit, each_fits, pairs_fit, payload_fits, same, all_pairs, distinct, all_distinct, pairs_distinct, length_limit, lengths_hold, all_hold, each_holds, pairs_hold, plain, plain_items, plain_each, Entry, EntriesOf, entry_bytes, map_bytes, Verdict, chain, length_written, in_order, sorted_entries_written, shape_count, written, items_written, each_written, entries_written, EncodeFault, RepeatedKey, form_of, items_form, each_form, count-items_form, form_entries, form_has_bytes, has_bytes_of_form, sorted_entries, equal_neighbours_repeat}
use Rattle.std.specs.Prelude.{nat_le}
use Rattle.bcs_registry_model.specs.Shape as shape
use Rattle.bcs_value_model.specs.Tree as tree
use Rattle.bcs_encode_impl.proofs.EntryArranging.{in_order_moves, in_order_rises_or_equal_neighbours, sorted_written, equal_neighbours_written}

-- the verdict is `good` and no key is repeated, or it is `RepeatedKey` and some key is
abbrev pub Told : {A : Type 0} → Bool → A → Result A EncodeFault → Type 0
Told d good (Ok a) = (d ≡ true) × (a ≡ good)
Told d good (Err RepeatedKey) = d ≡ false
Told d good (Err _) = ⊥

and_assoc : (a b c : Bool) → (a && (b && c)) ≡ ((a && b) && c)
and_assoc true b c = refl
and_assoc false b c = refl

-- one part after another
pub chain_told : {A B : Type 0} (d e : Bool) (x : A) (y : B) (v : Result A EncodeFault) (rest : A → Result B EncodeFault)
    → Told d x v → Told e y (rest x) → Told (d && e) y (chain v rest)
chain_told {B = B} d e x y (Ok a) rest h g =
    subst (λ (z : Bool). Told (z && e) y (rest a)) (sym h.0) (subst (λ z. Told e y (rest z)) (sym h.1) g)
chain_told d e x y (Err RepeatedKey) rest h g = and_left d e h
chain_told d e x y (Err _) rest h g = h

pub told_good : {A : Type 0} (d : Bool) (x y : A) (v : Result A EncodeFault) → x ≡ y → Told d x v → Told d y v
told_good d x y v e h = subst (λ z. Told d z v) e h

-- a length within the maximum
length_told : (n : ℕ) (b : List ℕ) → nat_le n length_limit ≡ true → length_written n b ≡ Ok (b ++ uleb n)
length_told n b h = rw h refl

abbrev pub parts_distinct : Pairs → Bool
parts_distinct ps = all_pairs (λ l w. distinct l && distinct w) ps

pub parts_of_distinct : (ps : Pairs) → pairs_distinct ps ≡ true → parts_distinct ps ≡ true
parts_of_distinct no_pairs h = refl
parts_of_distinct (pair k v ps) h =
    let p = and_parts (distinct k && distinct v) (all_pairs (λ l w. not (same k l)) ps && pairs_distinct ps) h in
    let q = and_parts (all_pairs (λ l w. not (same k l)) ps) (pairs_distinct ps) p.1 in
    and_from _ _ p.0 (parts_of_distinct ps q.1)

pub parts_repeat : (ps : Pairs) → parts_distinct ps ≡ false → pairs_distinct ps ≡ false
parts_repeat ps h = false_from_ne_true (pairs_distinct ps) (λ d. false≢true (sym h ∙ parts_of_distinct ps d))

module _ (registry : Entries) where
  pub forms_are_entries : (ps : Pairs) (f g : Shape) → pairs_fit false registry ps f g ≡ true → parts_distinct ps ≡ true → EntriesOf registry f g ps (form_entries registry ps f g)
  forms_are_entries no_pairs f g h d = tt
  forms_are_entries (pair k v ps) f g h d =
      let p = and_parts (fits false registry k (of f) && fits false registry v (of g)) (pairs_fit false registry ps f g) h in
      let p2 = and_parts (fits false registry k (of f)) (fits false registry v (of g)) p.0 in
      let q = and_parts (distinct k && distinct v) (parts_distinct ps) d in
      let q2 = and_parts (distinct k) (distinct v) q.0 in
      (form_has_bytes registry (of f) k p2.0 q2.0, form_has_bytes registry (of g) v p2.1 q2.1, forms_are_entries ps f g p.1 q.1)

  -- the entries of a map, after its length
  forms_told : (ps : Pairs) (f g : Shape) (b : List ℕ) → pairs_fit false registry ps f g ≡ true → parts_distinct ps ≡ true
      → Told (pairs_distinct ps) (b ++ plain registry (form_of registry (tree.pairs ps) (of (shape.map f g))) (of (shape.map f g))) (sorted_entries_written (form_entries registry ps f g) (b ++ uleb (pair_count ps)))
  forms_told ps f g b h d =
      let es : List Entry = form_entries registry ps f g in
      let are = forms_are_entries ps f g h d in
      elim (in_order_rises_or_equal_neighbours es) [
        | inl rises ↦
            (let has = sorted_entries registry f g ps es (in_order es) are (in_order_moves es) rises in
            subst (Told (pairs_distinct ps) (b ++ plain registry (form_of registry (tree.pairs ps) (of (shape.map f g))) (of (shape.map f g))))
            (sym (sorted_written es (in_order es) (b ++ uleb (pair_count ps)) (in_order_moves es) rises)) (
              has.distinct,
              append_assoc b (uleb (pair_count ps)) (flat_map entry_bytes (in_order es))
                  ∙ ap (λ (x : List ℕ). b ++ x) (has_bytes_of_form registry (of (shape.map f g)) (tree.pairs ps) (map_bytes (pair_count ps) (in_order es)) has),
            ))
        | inr equal_neighbours ↦
            subst (Told (pairs_distinct ps) (b ++ plain registry (form_of registry (tree.pairs ps) (of (shape.map f g))) (of (shape.map f g))))
            (sym (equal_neighbours_written es (in_order es) (b ++ uleb (pair_count ps)) (in_order_moves es) equal_neighbours))
            (equal_neighbours_repeat registry f g ps es (in_order es) are (in_order_moves es) equal_neighbours)
      ]

  map_told : (ps : Pairs) (f g : Shape) (b : List ℕ) (v : Result (List Entry) EncodeFault) → pairs_fit false registry ps f g ≡ true
      → Told (parts_distinct ps) (form_entries registry ps f g) v
      → Told (pairs_distinct ps) (b ++ plain registry (form_of registry (tree.pairs ps) (of (shape.map f g))) (of (shape.map f g))) (chain v (λ es. sorted_entries_written es (b ++ uleb (pair_count ps))))
  map_told ps f g b (Ok es) h t =
      subst (λ (x : List Entry). Told (pairs_distinct ps) (b ++ plain registry (form_of registry (tree.pairs ps) (of (shape.map f g))) (of (shape.map f g))) (sorted_entries_written x (b ++ uleb (pair_count ps))))
      (sym t.1) (forms_told ps f g b h t.0)
  map_told ps f g b (Err RepeatedKey) h t = parts_repeat ps t
  map_told ps f g b (Err _) h t = t

  pub each_count : (ts : Trees) (ss : Shapes) → each_fits false registry ts ss ≡ true → count ts ≡ shape_count ss
  each_count no_trees no_shapes h = refl
  each_count (tree t ts) (shape s ss) h = ap (λ (n : ℕ). suc n) (each_count ts ss (and_parts (fits false registry t (of s)) (each_fits false registry ts ss) h).1)
  each_count no_trees (shape s ss) h = absurd (false≢true h)
  each_count (tree t ts) no_shapes h = absurd (false≢true h)

  mutual
    pub written_told : (t : Tree) (f : Content) (b : List ℕ) → fits false registry t f ≡ true → lengths_hold length_limit registry t f ≡ true
        → Told (distinct t) (b ++ plain registry (form_of registry t f) f) (written registry t f b)
    written_told tree.unit (of shape.unit) b h g = (refl, sym (append-nil b))
    written_told (tree.truth t) (of shape.truth) b h g = (refl, refl)
    written_told (tree.unsigned n) (of (shape.unsigned w)) b h g = rw h (refl, refl)
    written_told (tree.signed z) (of (shape.signed w)) b h g = rw h (refl, refl)
    written_told (tree.text s) (of shape.text) b h g = rw g (refl, append_assoc b (uleb (length s)) s)
    written_told (tree.bytes s) (of shape.bytes) b h g = rw g (refl, append_assoc b (uleb (length s)) s)
    written_told tree.absent (of (shape.option s)) b h g = (refl, refl)
    written_told (tree.present t) (of (shape.option s)) b h g =
        told_good (distinct t) _ _ (written registry t (of s) (b ++ (1 ∷ []))) (append_assoc b (1 ∷ []) (plain registry (form_of registry t (of s)) (of s))) (written_told t (of s) (b ++ (1 ∷ [])) h g)
    written_told (tree.items ts) (of (shape.seq s)) b h g =
        let p = and_parts (nat_le (count ts) length_limit) (all_hold length_limit registry ts s) g in
        subst (λ (v : Verdict). Told (all_distinct ts) (b ++ (uleb (count (items_form registry ts s)) ++ plain_items registry (items_form registry ts s) s)) (chain v (items_written registry ts s)))
        (sym (length_told (count ts) b p.0))
        (told_good (all_distinct ts) _ _ (items_written registry ts s (b ++ uleb (count ts)))
        (append_assoc b (uleb (count ts)) (plain_items registry (items_form registry ts s) s)
        ∙ ap (λ (n : ℕ). b ++ (uleb n ++ plain_items registry (items_form registry ts s) s)) (sym (count-items_form registry ts s)))
        (items_told ts s (b ++ uleb (count ts)) h p.1))
    written_told (tree.items ts) (of (shape.tuple ss)) b h g = rw (eq-eqb (count ts) (shape_count ss) (each_count ts ss h)) (each_told ts ss b h g)
    written_told (tree.items ts) (of (shape.array s n)) b h g =
        let p = and_parts (count ts == n) (all_fit false registry ts s) h in
        rw p.0 (items_told ts s b p.1 g)
    written_told (tree.pairs ps) (of (shape.map k v)) b h g =
        let p = and_parts (nat_le (pair_count ps) length_limit) (pairs_hold length_limit registry ps k v) g in
        subst (λ (x : Verdict). Told (pairs_distinct ps) (b ++ plain registry (form_of registry (tree.pairs ps) (of (shape.map k v))) (of (shape.map k v))) (chain x (λ c. chain (entries_written registry ps k v []) (λ es. sorted_entries_written es c))))
        (sym (length_told (pair_count ps) b p.0))
        (map_told ps k v b (entries_written registry ps k v []) h (entries_told ps k v [] h p.1))
    written_told (tree.named t) (of (shape.name n)) b h g = written_told t (content_at n registry) b h g
    written_told (tree.variant n t) (one_of cs) b h g =
        told_good (distinct t) _ _ (written registry t (choice_at n cs) (b ++ uleb n)) (append_assoc b (uleb n) (plain registry (form_of registry t (choice_at n cs)) (choice_at n cs))) (written_told t (choice_at n cs) (b ++ uleb n) (payload_fits false registry n t cs h) g)
    written_told (tree.variant n t) (of shape.unit) b h g = absurd (false≢true h)
    written_told t f b h g = absurd (search (false≢true))

    items_told : (ts : Trees) (s : Shape) (b : List ℕ) → all_fit false registry ts s ≡ true → all_hold length_limit registry ts s ≡ true
        → Told (all_distinct ts) (b ++ plain_items registry (items_form registry ts s) s) (items_written registry ts s b)
    items_told no_trees s b h g = (refl, sym (append-nil b))
    items_told (tree t ts) s b h g =
        let p = and_parts (fits false registry t (of s)) (all_fit false registry ts s) h in
        let q = and_parts (lengths_hold length_limit registry t (of s)) (all_hold length_limit registry ts s) g in
        let x : List ℕ = plain registry (form_of registry t (of s)) (of s) in
        let y : List ℕ = plain_items registry (items_form registry ts s) s in
        chain_told (distinct t) (all_distinct ts) (b ++ x) (b ++ (x ++ y)) (written registry t (of s) b) (items_written registry ts s)
        (written_told t (of s) b p.0 q.0)
        (told_good (all_distinct ts) _ _ (items_written registry ts s (b ++ x)) (append_assoc b x y) (items_told ts s (b ++ x) p.1 q.1))

    each_told : (ts : Trees) (ss : Shapes) (b : List ℕ) → each_fits false registry ts ss ≡ true → each_holds length_limit registry ts ss ≡ true
        → Told (all_distinct ts) (b ++ plain_each registry (each_form registry ts ss) ss) (each_written registry ts ss b)
    each_told no_trees no_shapes b h g = (refl, sym (append-nil b))
    each_told (tree t ts) (shape s ss) b h g =
        let p = and_parts (fits false registry t (of s)) (each_fits false registry ts ss) h in
        let q = and_parts (lengths_hold length_limit registry t (of s)) (each_holds length_limit registry ts ss) g in
        let x : List ℕ = plain registry (form_of registry t (of s)) (of s) in
        let y : List ℕ = plain_each registry (each_form registry ts ss) ss in
        chain_told (distinct t) (all_distinct ts) (b ++ x) (b ++ (x ++ y)) (written registry t (of s) b) (each_written registry ts ss)
        (written_told t (of s) b p.0 q.0)
        (told_good (all_distinct ts) _ _ (each_written registry ts ss (b ++ x)) (append_assoc b x y) (each_told ts ss (b ++ x) p.1 q.1))
    each_told no_trees (shape s ss) b h g = absurd (false≢true h)
    each_told (tree t ts) no_shapes b h g = absurd (false≢true h)

    entries_told : (ps : Pairs) (f g : Shape) (es : List Entry) → pairs_fit false registry ps f g ≡ true → pairs_hold length_limit registry ps f g ≡ true
        → Told (parts_distinct ps) (es ++ form_entries registry ps f g) (entries_written registry ps f g es)
    entries_told no_pairs f g es h l = (refl, sym (append-nil es))
    entries_told (pair k v ps) f g es h l =
        let p = and_parts (fits false registry k (of f) && fits false registry v (of g)) (pairs_fit false registry ps f g) h in
        let p2 = and_parts (fits false registry k (of f)) (fits false registry v (of g)) p.0 in
        let q = and_parts (lengths_hold length_limit registry k (of f) && lengths_hold length_limit registry v (of g)) (pairs_hold length_limit registry ps f g) l in
        let q2 = and_parts (lengths_hold length_limit registry k (of f)) (lengths_hold length_limit registry v (of g)) q.0 in
        let x : List ℕ = plain registry (form_of registry k (of f)) (of f) in
        let y : List ℕ = plain registry (form_of registry v (of g)) (of g) in
        let zs : List Entry = form_entries registry ps f g in
        subst (λ (d : Bool). Told d (es ++ ((x, y) ∷ zs)) (entries_written registry (pair k v ps) f g es)) (and_assoc (distinct k) (distinct v) (parts_distinct ps))
        (chain_told (distinct k) (distinct v && parts_distinct ps) x (es ++ ((x, y) ∷ zs)) (written registry k (of f) []) (λ a. chain (written registry v (of g) []) (λ c. entries_written registry ps f g (es ++ ((a, c) ∷ []))))
        (written_told k (of f) [] p2.0 q2.0)
        (chain_told (distinct v) (parts_distinct ps) y (es ++ ((x, y) ∷ zs)) (written registry v (of g) []) (λ c. entries_written registry ps f g (es ++ ((x, c) ∷ [])))
        (written_told v (of g) [] p2.1 q2.1)
        (told_good (parts_distinct ps) _ _ (entries_written registry ps f g (es ++ ((x, y) ∷ []))) (append_assoc es ((x, y) ∷ []) zs) (entries_told ps f g (es ++ ((x, y) ∷ [])) p.1 q.1))))
