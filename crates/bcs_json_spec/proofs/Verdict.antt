-- JSON is read exactly if it is spelled, and refused exactly if it is refused, for each format and limit of containers.
use Rattle.bcs_json_spec.proofs.Prelude.{◌≡◌, ◌∙◌, ◌⊎◌, inl, inr, ℕ, zero, suc, ◌≤◌, max, List, [], ◌∷◌, true, Ok, Err, Option, Some, None, refl, ap, subst, arith, max-le, le-max_left, le-max_right, Data, string, object, Items, no_items, item, Members, no_members, member, get_member, Field, Choice, Payload, newtype, tuple, Entries, choice_called, Shape, Shapes, no_shapes, shape, Tree, Trees, no_trees, tree, trees_depth, JsonContent, of, fields, one_of, nothing, json_content_at, payload_content, OneTree, OneVerdict, IfObject, IfWordOrOne, IfThere, item_count, shape_count, without, Read, read_shape, read_each, read_member, read_fields, read_struct, read_part, read_word, read_choice, read_enum, read_content, read_named, read_data, Bad, ShapeRefuses, EachRefuses, MemberRefuses, FieldsRefuse, StructRefuses, PartRefuses, WordRefuses, ChoiceRefuses, EnumRefuses, ContentRefuses, NameRefuses, Refuses, Spells, FieldsSpell, SpellsWithin, IsWordOf, JsonFault, BadShape, UnknownField, MissingField, UnknownVariant, TooDeep}
use Rattle.bcs_registry_model.specs.Container as container
use Rattle.bcs_registry_model.specs.Shape as shape
use Rattle.bcs_value_model.specs.Tree as tree
use Rattle.bcs_value_model.specs.Tree.{depth}
use Rattle.bcs_json_spec.proofs.Exact.{Exact, is_walk_fault, same_ok, same_err, not_both, done, refused, allows, refuses, made, both, left, right}
use Rattle.bcs_json_spec.proofs.LeafVerdicts.{Within, exact_unit, exact_truth, exact_unsigned, exact_signed, exact_unsupported, exact_text, exact_bytes}
use Rattle.bcs_json_spec.proofs.PartVerdicts.{EachWithin, exact_option, exact_seq, exact_array, exact_map, exact_tuple}

module _ (registry : Entries) (n : ℕ) where
  abbrev In : JsonContent → Data → Tree → Type 0
  In = SpellsWithin registry n

  each_none : (ts : Trees) → EachWithin registry n no_shapes no_items ts → no_trees ≡ ts
  each_none no_trees s = refl
  each_none (tree t ts) s = absurd s.0

  each_more : (f : Shape) (fs : Shapes) (d : Data) (ds : Items) (us : Trees) → EachWithin registry n (shape f fs) (item d ds) us
      → (t : Tree) × (ts : Trees) × In (of f) d t × EachWithin registry n fs ds ts × (tree t ts ≡ us)
  each_more f fs d ds (tree t ts) s = (t, ts, (s.0.0, left _ _ s.1), (s.0.1, right _ _ s.1), refl)
  each_more f fs d ds no_trees s = absurd s.0

  abbrev MemberWithin : Shape → Option Data → Tree → Type 0
  MemberWithin f o t = IfThere (λ d. In (of f) d t) o

  apart : (f : Shape) (o : Option Data) (t : Tree) → MemberWithin f o t → IfThere (Spells registry t (of f)) o × (depth t ≤ n)
  apart f None t s = absurd s
  apart f (Some d) t s = s

  together : (f : Shape) (o : Option Data) (t : Tree) → IfThere (Spells registry t (of f)) o → depth t ≤ n → MemberWithin f o t
  together f None t s h = absurd s
  together f (Some d) t s h = (s, h)

  abbrev FieldsWithin : List Field → Members → Trees → Type 0
  FieldsWithin fs ms ts = FieldsSpell registry ts fs ms × (trees_depth ts ≤ n)

  fields_none : (ms : Members) (ts : Trees) → FieldsWithin [] ms ts → (ms ≡ no_members) × (no_trees ≡ ts)
  fields_none no_members no_trees s = (refl, refl)
  fields_none (member k d ms) no_trees s = absurd s.0
  fields_none ms (tree t ts) s = absurd s.0

  fields_more : (f : Field) (fs : List Field) (ms : Members) (us : Trees) → FieldsWithin (f ∷ fs) ms us
      → (t : Tree) × (ts : Trees) × MemberWithin f.1 (get_member f.0 ms) t × FieldsWithin fs (without f.0 ms) ts × (tree t ts ≡ us)
  fields_more f fs ms (tree t ts) s = (t, ts, together f.1 (get_member f.0 ms) t s.0.0 (left _ _ s.1), (s.0.1, right _ _ s.1), refl)
  fields_more f fs ms no_trees s = absurd s.0

  struct_is : (fs : List Field) (j : Data) (t : Tree) → In (fields fs) j t → (ts : Trees) × (IfObject (FieldsSpell registry ts fs) j × (trees_depth ts ≤ n)) × (tree.items ts ≡ t)
  struct_is fs j (tree.items ts) s = (ts, s, refl)
  struct_is fs j _ s = absurd s.0

  -- the name of a variant, alone or with its payload
  abbrev WordWithin : Option Choice → Tree → Type 0
  WordWithin o t = (m : ℕ) × (u : Tree) × (IfThere (IsWordOf m u) o × (depth u ≤ n)) × (tree.variant m u ≡ t)

  abbrev ChoiceWithin : Option Choice → Data → Tree → Type 0
  ChoiceWithin o d t = (m : ℕ) × (u : Tree) × (IfThere (λ c. (c.0 ≡ m) × Spells registry u (payload_content c.1.1) d) o × (depth u ≤ n)) × (tree.variant m u ≡ t)

  enum_is : (cs : List Choice) (j : Data) (t : Tree) → In (one_of cs) j t → IfWordOrOne (λ word. WordWithin (choice_called word cs) t) (λ word d. ChoiceWithin (choice_called word cs) d t) j
  enum_is cs (string word) (tree.variant m u) s = (m, u, s, refl)
  enum_is cs (object (member word d no_members)) (tree.variant m u) s = (m, u, s, refl)
  enum_is cs _ (tree.variant m u) s = absurd s.0
  enum_is cs j _ s = absurd s.0

  is_word : (m : ℕ) (r : List ℕ) (t : Tree) → WordWithin (Some (m, (r, container.unit))) t → tree.variant m tree.unit ≡ t
  is_word m r t w = let same = w.2.0 in cc (same.0, same.2, w.3)

  exact_word : (o : Option Choice) → Exact (WordWithin o) (WordRefuses o) (read_word o)
  exact_word None = refused UnknownVariant refl (λ t w. w.2.0)
  exact_word (Some (m, (r, container.unit))) = refuses (done (tree.variant m tree.unit) (m, tree.unit, ((refl, refl, refl), omega arith), refl) (is_word m r)) (λ e x. absurd x) (λ e x. x.0 refl)
  exact_word (Some (m, (r, newtype f))) = refuses (refused BadShape refl (λ t w. let other = w.2.0.1 in cc)) (λ e x. ((λ p. cc), x)) (λ e x. x.1)
  exact_word (Some (m, (r, tuple fs))) = refuses (refused BadShape refl (λ t w. let other = w.2.0.1 in cc)) (λ e x. ((λ p. cc), x)) (λ e x. x.1)
  exact_word (Some (m, (r, container.fields fs))) = refuses (refused BadShape refl (λ t w. let other = w.2.0.1 in cc)) (λ e x. ((λ p. cc), x)) (λ e x. x.1)

  -- `named` reads a named container, and `N` is how it is refused
  module _ (named : List ℕ → Data → Read Tree) (N : List ℕ → Bad) (H : (m : List ℕ) (j : Data) → Exact (Within registry n (shape.name m) j) (N m j) (named m j)) where
    -- ---- formats
    mutual
      exact_shape : (f : Shape) (j : Data) → Exact (Within registry n f j) (ShapeRefuses In N f j) (read_shape named f j)
      exact_shape shape.unit = exact_unit registry n
      exact_shape shape.truth = exact_truth registry n
      exact_shape (shape.unsigned w) = exact_unsigned registry n w
      exact_shape (shape.signed w) = exact_signed registry n w
      exact_shape (shape.unsupported u) = exact_unsupported registry n u
      exact_shape shape.text = exact_text registry n
      exact_shape shape.bytes = exact_bytes registry n
      exact_shape (shape.name m) = H m
      exact_shape (shape.option f) = exact_option registry n f (ShapeRefuses In N f) (read_shape named f) (exact_shape f)
      exact_shape (shape.seq f) = exact_seq registry n f (ShapeRefuses In N f) (read_shape named f) (exact_shape f)
      exact_shape (shape.map f g) = exact_map registry n f g (ShapeRefuses In N f) (ShapeRefuses In N g) (read_shape named f) (read_shape named g) (exact_shape f) (exact_shape g)
      exact_shape (shape.tuple fs) = exact_tuple registry n fs (EachRefuses In N fs) (read_each named fs) (exact_each fs)
      exact_shape (shape.array f m) = exact_array registry n f (ShapeRefuses In N f) (read_shape named f) (exact_shape f) m

      -- as many items as formats
      exact_each : (fs : Shapes) (ds : Items) → item_count ds ≡ shape_count fs → Exact (EachWithin registry n fs ds) (EachRefuses In N fs ds) (read_each named fs ds)
      exact_each no_shapes no_items c = done no_trees (tt, omega arith) each_none
      exact_each no_shapes (item d ds) c = absurd (omega (arith, c))
      exact_each (shape f fs) no_items c = absurd (omega (arith, c))
      exact_each (shape f fs) (item d ds) c = both tree (exact_shape f d) (exact_each fs ds (omega (arith, c))) (λ t ts s w. ((s.0, w.0), max-le s.1 w.1)) (each_more f fs d ds)

    -- ---- structs
    exact_member : (f : Shape) (o : Option Data) → Exact (MemberWithin f o) (MemberRefuses (ShapeRefuses In N f) o) (read_member (read_shape named f) o)
    exact_member f None = refused MissingField refl (λ t s. s)
    exact_member f (Some d) = exact_shape f d

    exact_fields : (fs : List Field) (ms : Members) → Exact (FieldsWithin fs ms) (FieldsRefuse In N fs ms) (read_fields named fs ms)
    exact_fields [] no_members = done no_trees (tt, omega arith) (λ ts s. (fields_none no_members ts s).1)
    exact_fields [] (member k d ms) = refused UnknownField refl (λ ts s. let none = (fields_none (member k d ms) ts s).0 in cc)
    exact_fields (f ∷ fs) ms =
        both tree (exact_member f.1 (get_member f.0 ms)) (exact_fields fs (without f.0 ms))
        (λ t ts s w. let o = apart f.1 (get_member f.0 ms) t s in ((o.0, w.0), max-le o.1 w.1)) (fields_more f fs ms)

    exact_struct : (fs : List Field) (j : Data) → Exact (In (fields fs) j) (StructRefuses In N fs j) (read_struct named fs j)
    exact_struct fs (object ms) = made tree.items (exact_fields fs ms) (λ ts s. s) (struct_is fs (object ms))
    exact_struct fs j = refused BadShape refl (λ t s. (struct_is fs j t s).1.0)

    -- ---- enums
    exact_part : (p : Payload) (j : Data) → Exact (In (payload_content p) j) (PartRefuses In N (payload_content p) j) (read_part named (payload_content p) j)
    exact_part container.unit = exact_shape shape.unit
    exact_part (newtype f) = exact_shape f
    exact_part (tuple fs) = exact_shape (shape.tuple fs)
    exact_part (container.fields fs) = exact_struct fs

    exact_choice : (o : Option Choice) (d : Data) → Exact (ChoiceWithin o d) (ChoiceRefuses In N o d) (read_choice named o d)
    exact_choice None d = refused UnknownVariant refl (λ t s. s.2.0)
    exact_choice (Some c) d =
        made (tree.variant c.0) (exact_part c.1.1 d) (λ u s. (c.0, u, ((refl, s.0), s.1), refl)) (λ t w. (w.1, (w.2.0.1, w.2.1), ap (λ i. tree.variant i w.1) w.2.0.0 ∙ w.3))

    exact_enum : (cs : List Choice) (j : Data) → Exact (In (one_of cs) j) (EnumRefuses In N cs j) (read_enum named cs j)
    exact_enum cs (string s) = allows (exact_word (choice_called s cs)) (λ t w. subst (In (one_of cs) (string s)) w.3 w.2) (enum_is cs (string s))
    exact_enum cs (object (member s d no_members)) =
        allows (exact_choice (choice_called s cs) d) (λ t w. subst (In (one_of cs) (object (member s d no_members))) w.3 w.2) (enum_is cs (object (member s d no_members)))
    exact_enum cs j = refused BadShape refl (enum_is cs j)

    -- ---- containers
    nothing_is : (j : Data) (t : Tree) → In nothing j t → ⊥
    nothing_is j tree.unit s = s.0
    nothing_is j _ s = s.0

    exact_content : (f : JsonContent) (j : Data) → Exact (In f j) (ContentRefuses In N f j) (read_content named f j)
    exact_content (of f) = exact_shape f
    exact_content (fields fs) = exact_struct fs
    exact_content (one_of cs) = exact_enum cs
    exact_content nothing = λ j. refused BadShape refl (nothing_is j)

-- ---- names

module _ (registry : Entries) where
  name_is : (n : ℕ) (m : List ℕ) (j : Data) (t : Tree) → SpellsWithin registry n (of (shape.name m)) j t
      → (u : Tree) × (Spells registry u (json_content_at m registry) j × (suc (depth u) ≤ n)) × (tree.named u ≡ t)
  name_is n m j (tree.named u) s = (u, s, refl)
  name_is n m j _ s = absurd s.0

  exact_named : (n : ℕ) (m : List ℕ) (j : Data) → Exact (SpellsWithin registry n (of (shape.name m)) j) (NameRefuses registry n m j) (read_named registry n m j)
  exact_named zero m j = refused TooDeep refl (λ t s. let o = name_is zero m j t s in absurd (omega (arith, o.1.1)))
  exact_named (suc n) m j =
      made tree.named (exact_content registry n (read_named registry n) (NameRefuses registry n) (exact_named n) (json_content_at m registry) j)
      (λ t s. (s.0, omega (arith, s.1))) (λ t s. let o = name_is (suc n) m j t s in (o.0, (o.1.0, omega (arith, o.1.1)), o.2))

pub exact_data : (registry : Entries) (n : ℕ) (f : JsonContent) (j : Data) → Exact (SpellsWithin registry n f j) (Refuses registry n f j) (read_data registry n f j)
exact_data registry n f = exact_content registry n (read_named registry n) (NameRefuses registry n) (exact_named registry n) f

-- JSON that spells no tree is refused for its content, and not for its syntax, its nesting, or the value
pub walk_fault : (registry : Entries) (d : ℕ) (f : JsonContent) (j : Data) (e : JsonFault) → Refuses registry d f j e → is_walk_fault e ≡ true
walk_fault registry d f j = (exact_data registry d f j).walks

-- ---- the laws

pub one_tree : OneTree
one_tree registry f j t u s w =
    let n : ℕ = max (depth t) (depth u) in
    let E = exact_data registry n f j in
    same_ok t u (read_data registry n f j) (E.again t (s, le-max_left (depth t) (depth u))) (E.again u (w, le-max_right (depth t) (depth u)))

some_verdict : (registry : Entries) (n : ℕ) (f : JsonContent) (j : Data) (x : Read Tree) → read_data registry n f j ≡ x → ((t : Tree) × SpellsWithin registry n f j t) ⊎ ((e : JsonFault) × Refuses registry n f j e)
some_verdict registry n f j (Ok t) h = inl (t, (exact_data registry n f j).ok t h)
some_verdict registry n f j (Err e) h = inr (e, (exact_data registry n f j).err e h)

pub one_verdict : OneVerdict
one_verdict registry n f j = record {
  some = some_verdict registry n f j (read_data registry n f j) refl;
  not_both = λ t e s r. not_both t e (read_data registry n f j) ((exact_data registry n f j).again t s) ((exact_data registry n f j).errs e r);
  once = λ e g r q. same_err e g (read_data registry n f j) ((exact_data registry n f j).errs e r) ((exact_data registry n f j).errs g q);
}
