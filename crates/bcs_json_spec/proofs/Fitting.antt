-- If JSON spells a tree, the tree fits the format.
use Rattle.bcs_json_spec.proofs.Prelude.{◌≡◌, ◌∙◌, ◌⊎◌, inl, inr, ℕ, List, [], ◌∷◌, codes, ◌==◌, ◌&&◌, ◌<◌, ◌^◌, nat_lt, IsTrue, suc, Option, Some, None, Bool, true, false, not, cond, bytes_eq, refl, ap, sym, subst, w8, is_utf8, list_all, list_any, option_map_or, and_from, or_left, or_right, Decides-eqb, Decides-ltb, same_Some, IsBytes, decode_of-ok, Data, string, array, object, Items, no_items, item, Members, no_members, member, get_member, Container, unit_struct, newtype_struct, tuple_struct, field_struct, enumeration, Field, Payload, newtype, tuple, Choice, Entries, container_at, choice_called, choice_numbered, content, content_at, choice_at, payload_shape, field_shapes, Shape, Shapes, no_shapes, shape, fits, all_fit, each_fits, pairs_fit, are_bytes, Tree, Trees, no_trees, tree, Pairs, no_pairs, pair, count, IsHexOf, ByteTextSpells, is_byte, byte_trees, JsonContent, of, fields, one_of, nothing, json_content, json_content_at, payload_content, SpelledFits, IfString, IfArray, IfStringOrArray, IfObject, IfTwo, IfOne, IfWordOrOne, IfThere, without, Spells, AllSpell, EachSpells, PairsSpell, FieldsSpell, IsWordOf}
use Rattle.bcs_registry_model.specs.Container as container
use Rattle.bcs_registry_model.specs.Shape as shape
use Rattle.bcs_value_model.specs.Tree as tree
use Rattle.bcs_json_spec.proofs.Unnamed.{unnamed, unnamed_at, unnamed_payload}
use Rattle.bcs_json_spec.proofs.Numbering.{numbers_differ, numbers_fit, has_numbering, orderly_numbering}

-- ---- two conditions

pub and_left : (a b : Bool) → (a && b) ≡ true → a ≡ true
and_left true b h = refl
and_left false b h = h

pub and_right : (a b : Bool) → (a && b) ≡ true → b ≡ true
and_right true b h = h
and_right false b h = cc

-- ---- the kind of JSON

-- the JSON spells `t` as the payload of variant `c`, which has the number `n`
abbrev pub Part : Entries → ℕ → Tree → Data → Choice → Type 0
Part registry n t d c = (c.0 ≡ n) × Spells registry t (payload_content c.1.1) d

pub one : (P : List ℕ → Data → Type 0) (j : Data) → IfOne P j → (k : List ℕ) × (d : Data) × P k d × (j ≡ object (member k d no_members))
one P (object (member k d no_members)) w = (k, d, w, refl)
one P _ w = absurd w

pub string_in : (P : List ℕ → Type 0) (j : Data) → IfString P j → (s : List ℕ) × P s × (j ≡ string s)
string_in P (string s) w = (s, w, refl)
string_in P _ w = absurd w

pub items_in : (P : Items → Type 0) (j : Data) → IfArray P j → (ds : Items) × P ds × (j ≡ array ds)
items_in P (array ds) w = (ds, w, refl)
items_in P _ w = absurd w

pub text_or_items : (P : List ℕ → Type 0) (Q : Items → Type 0) (j : Data) → IfStringOrArray P Q j → ((s : List ℕ) × P s) ⊎ ((ds : Items) × Q ds × (j ≡ array ds))
text_or_items P Q (string s) w = inl (s, w)
text_or_items P Q (array ds) w = inr (ds, w, refl)
text_or_items P Q _ w = absurd w

pub members_in : (P : Members → Type 0) (j : Data) → IfObject P j → (ms : Members) × P ms × (j ≡ object ms)
members_in P (object ms) w = (ms, w, refl)
members_in P _ w = absurd w

pub two : (P : Data → Data → Type 0) (j : Data) → IfTwo P j → (a : Data) × (b : Data) × P a b × (j ≡ array (item a (item b no_items)))
two P (array (item a (item b no_items))) w = (a, b, w, refl)
two P _ w = absurd w

pub word_or_one : (P : List ℕ → Type 0) (Q : List ℕ → Data → Type 0) (j : Data) → IfWordOrOne P Q j → ((s : List ℕ) × P s) ⊎ ((s : List ℕ) × (d : Data) × Q s d × (j ≡ object (member s d no_members)))
word_or_one P Q (string s) w = inl (s, w)
word_or_one P Q (object (member s d no_members)) w = inr (s, d, w, refl)
word_or_one P Q _ w = absurd w

pub there : {A : Type 0} (P : A → Type 0) (o : Option A) → IfThere P o → (x : A) × (o ≡ Some x) × P x
there P None w = absurd w
there P (Some x) w = (x, refl, w)

-- ---- lists of bytes

pub are_bytes_from : (b : List ℕ) → IsBytes b → are_bytes b ≡ true
are_bytes_from [] small = refl
are_bytes_from (x ∷ b) small = and_from _ _ ((Decides-ltb x 256).1 (small 0)) (are_bytes_from b (λ i. small (suc i)))

module _ (registry : Entries) where
  byte_fits : (s : Shape) (b : ℕ) → is_byte s ≡ true → b < 256 → fits false registry (tree.unsigned b) (container.of s) ≡ true
  byte_fits (shape.unsigned w8) b h small = (Decides-ltb b 256).1 small
  byte_fits _ b h small = cc

  bytes_fit : (s : Shape) (b : List ℕ) → is_byte s ≡ true → IsBytes b → all_fit false registry (byte_trees b) s ≡ true
  bytes_fit s [] h small = refl
  bytes_fit s (x ∷ b) h small = and_from _ _ (byte_fits s x h (small 0)) (bytes_fit s b h (λ i. small (suc i)))

  text_fits : (s : Shape) (bytes : Bool) (r : List ℕ) (ts : Trees) → is_byte s ≡ bytes → ByteTextSpells bytes r ts → all_fit false registry ts s ≡ true
  text_fits s true r ts h w = ap (λ us. all_fit false registry us s) w.2 ∙ bytes_fit s w.0 h (decode_of-ok r w.0 w.1).3
  text_fits s false r ts h w = absurd w

-- ---- contents of containers and variants

pub payload_numbering : (p : Payload) → has_numbering (payload_content p) ≡ true
payload_numbering container.unit = refl
payload_numbering (newtype s) = refl
payload_numbering (tuple ss) = refl
payload_numbering (container.fields fs) = refl

numbering_or : (b : Bool) (c : Container) (o : Option Container) → has_numbering (json_content c) ≡ true → has_numbering (option_map_or json_content o nothing) ≡ true
    → has_numbering (option_map_or json_content (cond b (Some c) o) nothing) ≡ true
numbering_or true c o h g = h
numbering_or false c o h g = g

pub numbering_at : (name : List ℕ) (registry : Entries) → list_all (λ e. has_numbering (json_content e.1)) registry ≡ true → has_numbering (json_content_at name registry) ≡ true
numbering_at name [] h = refl
numbering_at name (e ∷ es) h =
    numbering_or (bytes_eq name e.0) e.1 (container_at name es) (and_left (has_numbering (json_content e.1)) _ h) (numbering_at name es (and_right (has_numbering (json_content e.1)) _ h))

-- the variant with this name is among those with its number
among_at : (word : List ℕ) (m : ℕ) (d : Choice) (ds : List Choice) (c : Choice) (b : Bool) → cond b (Some d) (choice_called word ds) ≡ Some c → (m == c.0) ≡ true
    → (choice_called word ds ≡ Some c → list_any (λ x. m == x.0) ds ≡ true) → list_any (λ x. m == x.0) (d ∷ ds) ≡ true
among_at word m d ds c true g is later = or_left (m == d.0) _ (ap (λ (x : Choice). m == x.0) (same_Some d c g) ∙ is)
among_at word m d ds c false g is later = or_right (m == d.0) _ (later g)

among : (word : List ℕ) (m : ℕ) (cs : List Choice) (c : Choice) → choice_called word cs ≡ Some c → (m == c.0) ≡ true → list_any (λ x. m == x.0) cs ≡ true
among word m [] c h is = cc
among word m (d ∷ ds) c h is = among_at word m d ds c (bytes_eq d.1.0 word) h is (λ g. among word m ds c g is)

own_number : (d : Choice) (ds : List Choice) → choice_numbered d.0 (d ∷ ds) ≡ Some d.1
own_number d ds = ap (λ b. cond b (Some d.1) (choice_numbered d.0 ds)) ((Decides-eqb d.0 d.0).1 refl)

other_number : (d : Choice) (ds : List Choice) (c : Choice) (b : Bool) → (d.0 == c.0) ≡ b → not (list_any (λ x. d.0 == x.0) ds) ≡ true
    → ((d.0 == c.0) ≡ true → list_any (λ x. d.0 == x.0) ds ≡ true) → choice_numbered c.0 ds ≡ Some c.1 → cond b (Some d.1) (choice_numbered c.0 ds) ≡ Some c.1
other_number d ds c true is differ hit later = let again : false ≡ true = sym (ap not (hit is)) ∙ differ in absurd (cc)
other_number d ds c false is differ hit later = later

numbered_at : (word : List ℕ) (d : Choice) (ds : List Choice) (c : Choice) (b : Bool) → cond b (Some d) (choice_called word ds) ≡ Some c → numbers_differ (d ∷ ds) ≡ true
    → (choice_called word ds ≡ Some c → choice_numbered c.0 ds ≡ Some c.1) → choice_numbered c.0 (d ∷ ds) ≡ Some c.1
numbered_at word d ds c true g differ later = subst (λ (x : Choice). choice_numbered x.0 (d ∷ ds) ≡ Some x.1) (same_Some d c g) (own_number d ds)
numbered_at word d ds c false g differ later = other_number d ds c (d.0 == c.0) refl (and_left _ _ differ) (among word d.0 ds c g) (later g)

-- the variant with this name is the one with its number
pub called_numbered : (word : List ℕ) (cs : List Choice) (c : Choice) → numbers_differ cs ≡ true → choice_called word cs ≡ Some c → choice_numbered c.0 cs ≡ Some c.1
called_numbered word [] c differ h = cc
called_numbered word (d ∷ ds) c differ h = numbered_at word d ds c (bytes_eq d.1.0 word) h differ (called_numbered word ds c (and_right _ _ differ))

fits_at : (word : List ℕ) (d : Choice) (ds : List Choice) (c : Choice) (b : Bool) → cond b (Some d) (choice_called word ds) ≡ Some c → nat_lt d.0 (2 ^ 32) ≡ true
    → (choice_called word ds ≡ Some c → nat_lt c.0 (2 ^ 32) ≡ true) → nat_lt c.0 (2 ^ 32) ≡ true
fits_at word d ds c true g here later = subst (λ (x : Choice). nat_lt x.0 (2 ^ 32) ≡ true) (same_Some d c g) here
fits_at word d ds c false g here later = later g

-- the variant with this name has a number of 32 bits
called_fits : (word : List ℕ) (cs : List Choice) (c : Choice) → numbers_fit cs ≡ true → choice_called word cs ≡ Some c → nat_lt c.0 (2 ^ 32) ≡ true
called_fits word [] c fit h = cc
called_fits word (d ∷ ds) c fit h = fits_at word d ds c (bytes_eq d.1.0 word) h (and_left (nat_lt d.0 (2 ^ 32)) _ fit) (called_fits word ds c (and_right (nat_lt d.0 (2 ^ 32)) _ fit))

choice_is : (n : ℕ) (cs : List Choice) (p : List ℕ × Payload) → choice_numbered n cs ≡ Some p → choice_at n cs ≡ container.of (payload_shape p.1)
choice_is n cs p h = ap (λ (o : Option (List ℕ × Payload)). option_map_or (λ c. container.of (payload_shape c.1)) o container.nothing) h

-- ---- trees

module _ (registry : Entries) (numbering : list_all (λ e. has_numbering (json_content e.1)) registry ≡ true) where
  -- the payload of the variant with this name, at its number
  in_choice : (t : Tree) (word : List ℕ) (cs : List Choice) (c : Choice) (n : ℕ) → has_numbering (one_of cs) ≡ true → choice_called word cs ≡ Some c → c.0 ≡ n
      → fits false registry t (unnamed (payload_content c.1.1)) ≡ true → fits false registry (tree.variant n t) (container.one_of cs) ≡ true
  in_choice t word cs c n numbered h is w =
      let differ : numbers_differ cs ≡ true = and_left _ _ numbered in
      and_from _ _ (subst (λ m. nat_lt m (2 ^ 32) ≡ true) is (called_fits word cs c (and_right (numbers_differ cs) _ numbered) h))
      (ap (λ m. fits false registry t (choice_at m cs)) (sym is)
      ∙ ap (fits false registry t) (choice_is c.0 cs c.1 (called_numbered word cs c differ h) ∙ sym (unnamed_payload c.1.1)) ∙ w)

  unit_in_choice : (t : Tree) (word : List ℕ) (cs : List Choice) (c : Choice) (n : ℕ) → has_numbering (one_of cs) ≡ true → choice_called word cs ≡ Some c → c.0 ≡ n
      → c.1.1 ≡ container.unit → t ≡ tree.unit → fits false registry (tree.variant n t) (container.one_of cs) ≡ true
  unit_in_choice t word cs c n numbered h is empty e =
      in_choice t word cs c n numbered h is (ap (λ (p : Payload). fits false registry t (unnamed (payload_content p))) empty ∙ ap (λ u. fits false registry u (container.of shape.unit)) e)

  -- a list, as a string or as an array
  fits_list : (ts : Trees) (s : Shape) (j : Data) → IfStringOrArray (λ r. ByteTextSpells (is_byte s) r ts) (AllSpell registry ts s) j
      → ((ds : Items) → AllSpell registry ts s ds → all_fit false registry ts s ≡ true) → all_fit false registry ts s ≡ true
  fits_list ts s j w each = elim (text_or_items (λ r. ByteTextSpells (is_byte s) r ts) (AllSpell registry ts s) j w) [
    | inl x ↦ text_fits registry s (is_byte s) x.0 ts refl x.1
    | inr x ↦ each x.0 x.1
  ]

  mutual
    fits_tree : (t : Tree) (f : JsonContent) (j : Data) → has_numbering f ≡ true → Spells registry t f j → fits false registry t (unnamed f) ≡ true
    fits_tree tree.unit (of shape.unit) j h w = refl
    fits_tree (tree.truth b) (of shape.truth) j h w = refl
    fits_tree (tree.unsigned n) (of (shape.unsigned m)) j h w = w.1
    fits_tree (tree.signed z) (of (shape.signed m)) j h w = w.1
    fits_tree (tree.text s) (of shape.text) j h w =
        let x = string_in (λ r. (r ≡ s) × IsTrue (is_utf8 r)) j w in subst (λ r. is_utf8 r ≡ true) x.1.0 x.1.1
    fits_tree (tree.bytes s) (of shape.bytes) j h w = let x = string_in (λ r. IsHexOf r s) j w in are_bytes_from s (decode_of-ok x.0 s x.1).3
    fits_tree tree.absent (of (shape.option s)) j h w = refl
    fits_tree (tree.present t) (of (shape.option s)) j h w = let x = one (λ k d. (k ≡ codes "some") × Spells registry t (of s) d) j w in fits_tree t (of s) x.1 refl x.2.1
    fits_tree (tree.items ts) (of (shape.seq s)) j h w = fits_list ts s j w (fits_all ts s)
    fits_tree (tree.items ts) (of (shape.tuple ss)) j h w = let x = items_in (EachSpells registry ts ss) j w in fits_each ts ss x.0 x.1
    fits_tree (tree.items ts) (of (shape.array s n)) j h w = and_from (count ts == n) _ ((Decides-eqb (count ts) n).1 w.1) (fits_list ts s j w.0 (fits_all ts s))
    fits_tree (tree.items ts) (fields fs) j h w = let x = members_in (FieldsSpell registry ts fs) j w in fits_fields ts fs x.0 x.1
    fits_tree (tree.pairs ps) (of (shape.map k v)) j h w = let x = items_in (PairsSpell registry ps k v) j w in fits_pairs ps k v x.0 x.1
    fits_tree (tree.variant n t) (one_of cs) j h w = elim (word_or_one (λ s. IfThere (IsWordOf n t) (choice_called s cs)) (λ s d. IfThere (Part registry n t d) (choice_called s cs)) j w) [
      | inl x ↦ let c = there (IsWordOf n t) (choice_called x.0 cs) x.1 in unit_in_choice t x.0 cs c.0 n h c.1 c.2.0 c.2.1 c.2.2
      | inr x ↦ let c = there (Part registry n t x.1) (choice_called x.0 cs) x.2 in in_choice t x.0 cs c.0 n h c.1 c.2.0 (fits_tree t (payload_content c.0.1.1) x.1 (payload_numbering c.0.1.1) c.2.1)
    ]
    fits_tree (tree.named t) (of (shape.name n)) j h w =
        ap (fits false registry t) (sym (unnamed_at n registry)) ∙ fits_tree t (json_content_at n registry) j (numbering_at n registry numbering) w
    fits_tree _ _ j h w = absurd w

    fits_all : (ts : Trees) (s : Shape) (ds : Items) → AllSpell registry ts s ds → all_fit false registry ts s ≡ true
    fits_all no_trees s ds w = refl
    fits_all (tree t ts) s (item d ds) w = and_from _ _ (fits_tree t (of s) d refl w.0) (fits_all ts s ds w.1)
    fits_all (tree t ts) s no_items w = absurd w

    fits_each : (ts : Trees) (ss : Shapes) (ds : Items) → EachSpells registry ts ss ds → each_fits false registry ts ss ≡ true
    fits_each no_trees no_shapes ds w = refl
    fits_each (tree t ts) (shape s ss) (item d ds) w = and_from _ _ (fits_tree t (of s) d refl w.0) (fits_each ts ss ds w.1)
    fits_each _ _ _ w = absurd w

    fits_pairs : (ps : Pairs) (k v : Shape) (ds : Items) → PairsSpell registry ps k v ds → pairs_fit false registry ps k v ≡ true
    fits_pairs no_pairs k v ds w = refl
    fits_pairs (pair l m ps) k v (item d ds) w =
        let x = two (λ a b. Spells registry l (of k) a × Spells registry m (of v) b) d w.0 in
        and_from _ _ (and_from _ _ (fits_tree l (of k) x.0 refl x.2.0) (fits_tree m (of v) x.1 refl x.2.1)) (fits_pairs ps k v ds w.1)
    fits_pairs (pair l m ps) k v no_items w = absurd w

    fits_fields : (ts : Trees) (fs : List Field) (ms : Members) → FieldsSpell registry ts fs ms → each_fits false registry ts (field_shapes fs) ≡ true
    fits_fields no_trees [] ms w = refl
    fits_fields (tree t ts) (f ∷ fs) ms w =
        let x = there (Spells registry t (of f.1)) (get_member f.0 ms) w.0 in
        and_from _ _ (fits_tree t (of f.1) x.0 refl x.2) (fits_fields ts fs (without f.0 ms) w.1)
    fits_fields _ _ _ w = absurd w

pub spelled_fits : SpelledFits
spelled_fits registry s j t h w = fits_tree registry (orderly_numbering registry h) t (of s) j refl w
