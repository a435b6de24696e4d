-- The JSON that a tree is printed as nests no deeper than any JSON that spells it.
use Rattle.bcs_json_spec.proofs.Prelude.{◌≡◌, ◌∙◌, inl, inr, ℕ, suc, ◌≤◌, max, List, [], ◌∷◌, codes, Option, Some, Bool, true, false, cond, if◌then◌else◌, bytes_eq, Ordering, Less, Equal, Greater, refl, ap, sym, subst, arith, max-le, le-max_left, le-max_right, slice_cmp, signed_decimal, list_all, match_ordering, encode_lower, Data, number, whole, string, array, Items, no_items, item, Members, no_members, member, put, depth, items_depth, members_depth, get_member, of_integer, Field, Payload, newtype, tuple, Choice, Entries, choice_called, choice_numbered, Shape, Shapes, no_shapes, shape, Tree, Trees, no_trees, tree, Pairs, no_pairs, pair, ByteTextSpells, is_byte, trees_bytes, JsonContent, of, fields, one_of, json_content, json_content_at, payload_content, ShownIsLowest, IfStringOrArray, IfThere, without, shown, shown_all, shown_each, shown_pairs, shown_fields, shown_choice, is_wide, Spells, AllSpell, EachSpells, PairsSpell, FieldsSpell, IsWordOf}
use Rattle.std.specs.Fmt.{decimal}
use Rattle.std.specs.Ordering.{nat_cmp}
use Rattle.bcs_registry_model.specs.Container as container
use Rattle.bcs_registry_model.specs.Shape as shape
use Rattle.bcs_value_model.specs.Tree as tree
use Rattle.bcs_json_spec.proofs.Numbering.{numbers_differ, has_numbering, orderly_numbering}
use Rattle.bcs_json_spec.proofs.Fitting.{and_left, Part, one, items_in, text_or_items, members_in, two, word_or_one, there, numbering_at, payload_numbering, called_numbered}

-- ---- members

put_depth_at : (o : Ordering) (k l : List ℕ) (d e : Data) (ms : Members) → members_depth (put k d ms) ≤ max (depth d) (members_depth ms)
    → members_depth (match_ordering o (member k d (member l e ms)) (member l d ms) (member l e (put k d ms))) ≤ max (depth d) (max (depth e) (members_depth ms))
put_depth_at Less k l d e ms h = omega arith
put_depth_at Equal k l d e ms h = max-le (le-max_left (depth d) _) (omega (arith, le-max_right (depth d) (max (depth e) (members_depth ms)), le-max_right (depth e) (members_depth ms)))
put_depth_at Greater k l d e ms h =
    let rest = le-max_right (depth d) (max (depth e) (members_depth ms)) in
    let front = le-max_left (depth d) (max (depth e) (members_depth ms)) in
    let own = le-max_left (depth e) (members_depth ms) in
    let others = le-max_right (depth e) (members_depth ms) in
    let both : max (depth d) (members_depth ms) ≤ max (depth d) (max (depth e) (members_depth ms)) = max-le front (omega (arith, rest, others)) in
    max-le (omega (arith, rest, own)) (omega (arith, h, both))

-- adding a member nests no deeper than this member and the others
pub put_depth : (k : List ℕ) (d : Data) (ms : Members) → members_depth (put k d ms) ≤ max (depth d) (members_depth ms)
put_depth k d no_members = omega arith
put_depth k d (member l e ms) = put_depth_at (slice_cmp nat_cmp k l) k l d e ms (put_depth k d ms)

found_depth_at : (o : Ordering) (e d : Data) (ms : Members) (later : Option Data) → match_ordering o later (Some e) later ≡ Some d → (later ≡ Some d → depth d ≤ members_depth ms)
    → depth d ≤ max (depth e) (members_depth ms)
found_depth_at Less e d ms later h rest = omega (arith, rest h, le-max_right (depth e) (members_depth ms))
found_depth_at Equal e d ms later h rest = let same : e ≡ d = cc in subst (λ x. depth x ≤ max (depth e) (members_depth ms)) same (le-max_left (depth e) (members_depth ms))
found_depth_at Greater e d ms later h rest = omega (arith, rest h, le-max_right (depth e) (members_depth ms))

-- a member nests no deeper than all of them
pub found_depth : (k : List ℕ) (d : Data) (ms : Members) → get_member k ms ≡ Some d → depth d ≤ members_depth ms
found_depth k d no_members h = cc
found_depth k d (member l e ms) h = found_depth_at (slice_cmp nat_cmp k l) e d ms (get_member k ms) h (found_depth k d ms)

without_depth_at : (b : Bool) (l : List ℕ) (e : Data) (ms rest : Members) → members_depth rest ≤ members_depth ms
    → members_depth (cond b ms (member l e rest)) ≤ max (depth e) (members_depth ms)
without_depth_at true l e ms rest h = le-max_right (depth e) (members_depth ms)
without_depth_at false l e ms rest h = max-le (le-max_left (depth e) (members_depth ms)) (omega (arith, h, le-max_right (depth e) (members_depth ms)))

pub without_depth : (k : List ℕ) (ms : Members) → members_depth (without k ms) ≤ members_depth ms
without_depth k no_members = omega arith
without_depth k (member l e ms) = without_depth_at (bytes_eq k l) l e ms (without k ms) (without_depth k ms)

-- ---- values without parts

number_depth : (b : Bool) (s : List ℕ) (d : Data) → depth d ≤ 0 → depth (if b then string s else d) ≤ 0
number_depth true s d h = omega arith
number_depth false s d h = h

-- ---- lists

list_depth : (b : Bool) (s : List ℕ) (ds es : Items) → items_depth ds ≤ items_depth es → depth (if b then string s else array ds) ≤ suc (items_depth es)
list_depth true s ds es h = omega arith
list_depth false s ds es h = omega (arith, h)

text_depth : (b : Bool) (s r : List ℕ) (ds : Items) (ts : Trees) → ByteTextSpells b r ts → depth (if b then string s else array ds) ≤ 0
text_depth true s r ds ts w = omega arith
text_depth false s r ds ts w = absurd w

-- ---- variants

under : (a b n : ℕ) → a ≤ n → b ≤ n → max a b ≤ n
under a b n h g = max-le h g

single_depth : (x d : Data) → depth x ≤ depth d → suc (max (depth x) 0) ≤ suc (max (depth d) 0)
single_depth x d h = omega (arith, under (depth x) 0 (max (depth d) 0) (omega (arith, h, le-max_left (depth d) 0)) (omega arith))

choice_depth : (show : JsonContent → Data) (name : List ℕ) (p : Payload) (d : Data) → depth (show (payload_content p)) ≤ depth d
    → depth (shown_choice show (Some (name, p))) ≤ suc (max (depth d) 0)
choice_depth show name container.unit d h = omega arith
choice_depth show name (newtype s) d h = single_depth (show (of s)) d h
choice_depth show name (tuple ss) d h = single_depth (show (of (shape.tuple ss))) d h
choice_depth show name (container.fields fs) d h = single_depth (show (fields fs)) d h

unit_depth : (show : JsonContent → Data) (c : Choice) → c.1.1 ≡ container.unit → depth (shown_choice show (Some c.1)) ≤ 0
unit_depth show (n, (name, container.unit)) e = omega arith
unit_depth show (n, (name, newtype s)) e = cc
unit_depth show (n, (name, tuple ss)) e = cc
unit_depth show (n, (name, container.fields fs)) e = cc

-- ---- sequences of parts

each_under : (x d : Data) (xs ds : Items) → depth x ≤ depth d → items_depth xs ≤ items_depth ds → max (depth x) (items_depth xs) ≤ max (depth d) (items_depth ds)
each_under x d xs ds h g = under (depth x) (items_depth xs) (max (depth d) (items_depth ds)) (omega (arith, h, le-max_left (depth d) (items_depth ds))) (omega (arith, g, le-max_right (depth d) (items_depth ds)))

-- a map entry
pub pair_under : (x y a b : Data) → depth x ≤ depth a → depth y ≤ depth b → depth (array (item x (item y no_items))) ≤ depth (array (item a (item b no_items)))
pair_under x y a b h g = omega (arith, each_under x a (item y no_items) (item b no_items) h (each_under y b no_items no_items g (omega arith)))

field_under : (k : List ℕ) (x : Data) (xs : Members) (d : Data) (ms : Members) → depth x ≤ depth d → get_member k ms ≡ Some d → members_depth xs ≤ members_depth (without k ms)
    → members_depth (put k x xs) ≤ members_depth ms
field_under k x xs d ms h found rest =
    let own = found_depth k d ms found in
    let others = without_depth k ms in
    let all : max (depth x) (members_depth xs) ≤ members_depth ms = under (depth x) (members_depth xs) (members_depth ms) (omega (arith, h, own)) (omega (arith, rest, others)) in
    omega (arith, put_depth k x xs, all)

-- ---- trees

module _ (registry : Entries) (numbering : list_all (λ e. has_numbering (json_content e.1)) registry ≡ true) where
  choice_shown : (t : Tree) (word : List ℕ) (cs : List Choice) (c : Choice) (n : ℕ) → numbers_differ cs ≡ true → choice_called word cs ≡ Some c → c.0 ≡ n
      → shown_choice (shown registry t) (choice_numbered n cs) ≡ shown_choice (shown registry t) (Some c.1)
  choice_shown t word cs c n differ h is =
      ap (λ m. shown_choice (shown registry t) (choice_numbered m cs)) (sym is) ∙ ap (shown_choice (shown registry t)) (called_numbered word cs c differ h)

  -- a list, as a string or as an array
  lowest_list : (ts : Trees) (s : Shape) (j : Data) → IfStringOrArray (λ r. ByteTextSpells (is_byte s) r ts) (AllSpell registry ts s) j
      → ((ds : Items) → AllSpell registry ts s ds → items_depth (shown_all registry ts s) ≤ items_depth ds)
      → depth (if is_byte s then string (encode_lower (trees_bytes ts)) else array (shown_all registry ts s)) ≤ depth j
  lowest_list ts s j w each = elim (text_or_items (λ r. ByteTextSpells (is_byte s) r ts) (AllSpell registry ts s) j w) [
    | inl x ↦ omega (arith, text_depth (is_byte s) (encode_lower (trees_bytes ts)) x.0 (shown_all registry ts s) ts x.1)
    | inr x ↦
        subst (λ d. depth (if is_byte s then string (encode_lower (trees_bytes ts)) else array (shown_all registry ts s)) ≤ depth d) (sym x.2)
        (list_depth (is_byte s) (encode_lower (trees_bytes ts)) (shown_all registry ts s) x.0 (each x.0 x.1))
  ]

  mutual
    lowest : (t : Tree) (f : JsonContent) (j : Data) → has_numbering f ≡ true → Spells registry t f j → depth (shown registry t f) ≤ depth j
    lowest tree.unit (of shape.unit) j h w = omega arith
    lowest (tree.truth b) (of shape.truth) j h w = omega arith
    lowest (tree.unsigned n) (of (shape.unsigned m)) j h w = omega (arith, number_depth (is_wide m) (decimal n) (number (whole n)) (omega arith))
    lowest (tree.signed z) (of (shape.signed m)) j h w = omega (arith, number_depth (is_wide m) (signed_decimal z) (number (of_integer z)) (omega arith))
    lowest (tree.text s) (of shape.text) j h w = omega arith
    lowest (tree.bytes s) (of shape.bytes) j h w = omega arith
    lowest tree.absent (of (shape.option s)) j h w = omega arith
    lowest (tree.present t) (of (shape.option s)) j h w =
        let x = one (λ k d. (k ≡ codes "some") × Spells registry t (of s) d) j w in
        subst (λ d. suc (max (depth (shown registry t (of s))) 0) ≤ depth d) (sym x.3) (single_depth (shown registry t (of s)) x.1 (lowest t (of s) x.1 refl x.2.1))
    lowest (tree.items ts) (of (shape.seq s)) j h w = lowest_list ts s j w (lowest_all ts s)
    lowest (tree.items ts) (of (shape.tuple ss)) j h w =
        let x = items_in (EachSpells registry ts ss) j w in
        subst (λ d. suc (items_depth (shown_each registry ts ss)) ≤ depth d) (sym x.2) (omega (arith, lowest_each ts ss x.0 x.1))
    lowest (tree.items ts) (of (shape.array s n)) j h w = lowest_list ts s j w.0 (lowest_all ts s)
    lowest (tree.items ts) (fields fs) j h w =
        let x = members_in (FieldsSpell registry ts fs) j w in
        subst (λ d. suc (members_depth (shown_fields registry ts fs)) ≤ depth d) (sym x.2) (omega (arith, lowest_fields ts fs x.0 x.1))
    lowest (tree.pairs ps) (of (shape.map k v)) j h w =
        let x = items_in (PairsSpell registry ps k v) j w in
        subst (λ d. suc (items_depth (shown_pairs registry ps k v)) ≤ depth d) (sym x.2) (omega (arith, lowest_pairs ps k v x.0 x.1))
    lowest (tree.variant n t) (one_of cs) j h w = elim (word_or_one (λ s. IfThere (IsWordOf n t) (choice_called s cs)) (λ s d. IfThere (Part registry n t d) (choice_called s cs)) j w) [
      | inl x ↦
          let c = there (IsWordOf n t) (choice_called x.0 cs) x.1 in
          subst (λ d. depth d ≤ depth j) (sym (choice_shown t x.0 cs c.0 n (and_left _ _ h) c.1 c.2.0)) (omega (arith, unit_depth (shown registry t) c.0 c.2.1))
      | inr x ↦
          let c = there (Part registry n t x.1) (choice_called x.0 cs) x.2 in
          let low = choice_depth (shown registry t) c.0.1.0 c.0.1.1 x.1 (lowest t (payload_content c.0.1.1) x.1 (payload_numbering c.0.1.1) c.2.1) in
          subst (λ d. depth (shown_choice (shown registry t) (choice_numbered n cs)) ≤ depth d) (sym x.3)
          (subst (λ d. depth d ≤ suc (max (depth x.1) 0)) (sym (choice_shown t x.0 cs c.0 n (and_left _ _ h) c.1 c.2.0)) low)
    ]
    lowest (tree.named t) (of (shape.name n)) j h w = lowest t (json_content_at n registry) j (numbering_at n registry numbering) w
    lowest _ _ j h w = absurd w

    lowest_all : (ts : Trees) (s : Shape) (ds : Items) → AllSpell registry ts s ds → items_depth (shown_all registry ts s) ≤ items_depth ds
    lowest_all no_trees s ds w = omega arith
    lowest_all (tree t ts) s (item d ds) w = each_under (shown registry t (of s)) d (shown_all registry ts s) ds (lowest t (of s) d refl w.0) (lowest_all ts s ds w.1)
    lowest_all (tree t ts) s no_items w = absurd w

    lowest_each : (ts : Trees) (ss : Shapes) (ds : Items) → EachSpells registry ts ss ds → items_depth (shown_each registry ts ss) ≤ items_depth ds
    lowest_each no_trees no_shapes ds w = omega arith
    lowest_each (tree t ts) (shape s ss) (item d ds) w = each_under (shown registry t (of s)) d (shown_each registry ts ss) ds (lowest t (of s) d refl w.0) (lowest_each ts ss ds w.1)
    lowest_each _ _ _ w = absurd w

    lowest_pairs : (ps : Pairs) (k v : Shape) (ds : Items) → PairsSpell registry ps k v ds → items_depth (shown_pairs registry ps k v) ≤ items_depth ds
    lowest_pairs no_pairs k v ds w = omega arith
    lowest_pairs (pair l m ps) k v (item d ds) w =
        let x = two (λ a b. Spells registry l (of k) a × Spells registry m (of v) b) d w.0 in
        each_under (array (item (shown registry l (of k)) (item (shown registry m (of v)) no_items))) d (shown_pairs registry ps k v) ds
        (subst (λ e. depth (array (item (shown registry l (of k)) (item (shown registry m (of v)) no_items))) ≤ depth e) (sym x.3)
        (pair_under (shown registry l (of k)) (shown registry m (of v)) x.0 x.1 (lowest l (of k) x.0 refl x.2.0) (lowest m (of v) x.1 refl x.2.1)))
        (lowest_pairs ps k v ds w.1)
    lowest_pairs (pair l m ps) k v no_items w = absurd w

    lowest_fields : (ts : Trees) (fs : List Field) (ms : Members) → FieldsSpell registry ts fs ms → members_depth (shown_fields registry ts fs) ≤ members_depth ms
    lowest_fields no_trees [] ms w = omega arith
    lowest_fields (tree t ts) (f ∷ fs) ms w =
        let x = there (Spells registry t (of f.1)) (get_member f.0 ms) w.0 in
        field_under f.0 (shown registry t (of f.1)) (shown_fields registry ts fs) x.0 ms (lowest t (of f.1) x.0 refl x.2) x.1 (lowest_fields ts fs (without f.0 ms) w.1)
    lowest_fields _ _ _ w = absurd w

pub shown_is_lowest : ShownIsLowest
shown_is_lowest registry s j t h w = lowest registry (orderly_numbering registry h) t (of s) j refl w
