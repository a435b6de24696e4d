-- What the older definition `ArraySpells` allows, `Spells` allows too.
use Rattle.bcs_json_spec.proofs.Prelude.{◌≡◌, ℕ, List, [], ◌∷◌, codes, refl, w8, hex_on_literals, Data, number, unsigned, string, array, Items, no_items, item, Members, no_members, get_member, Shape, Shapes, no_shapes, shape, Field, Choice, Entries, choice_called, Tree, Trees, no_trees, tree, Pairs, no_pairs, pair, ArraySpells, AllArraySpell, EachArraySpells, PairsArraySpell, FieldsArraySpell, ByteTextSpells, is_byte, JsonContent, of, fields, one_of, json_content_at, payload_content, ArraySpellingStillSpells, IfThere, without, Spells, AllSpell, EachSpells, PairsSpell, FieldsSpell, IsWordOf}
use Rattle.bcs_registry_model.specs.Shape as shape
use Rattle.bcs_value_model.specs.Tree as tree
use Rattle.bcs_json_spec.proofs.Fitting.{Part}
use Rattle.bcs_json_spec.proofs.Looking.{in_one, in_two, in_array, in_array_alone, in_object, in_word_or_one, in_there}

module _ (registry : Entries) where
  -- the older spelling of the payload of variant `c`, which has the number `n`
  abbrev ArrayPart : ℕ → Tree → Data → Choice → Type 0
  ArrayPart n t d c = (c.0 ≡ n) × ArraySpells registry t (payload_content c.1.1) d

  mutual
    spells_still : (t : Tree) (f : JsonContent) (j : Data) → ArraySpells registry t f j → Spells registry t f j
    spells_still (tree.present t) (of (shape.option s)) j w =
        in_one (λ k d. (k ≡ codes "some") × ArraySpells registry t (of s) d) (λ k d. (k ≡ codes "some") × Spells registry t (of s) d)
        (λ k d p. (p.0, spells_still t (of s) d p.1)) j w
    spells_still (tree.items ts) (of (shape.seq s)) j w =
        in_array_alone (λ r. ByteTextSpells (is_byte s) r ts) (AllArraySpell registry ts s) (AllSpell registry ts s) (all_still ts s) j w
    spells_still (tree.items ts) (of (shape.tuple ss)) j w = in_array (EachArraySpells registry ts ss) (EachSpells registry ts ss) (each_still ts ss) j w
    spells_still (tree.items ts) (of (shape.array s n)) j w =
        (in_array_alone (λ r. ByteTextSpells (is_byte s) r ts) (AllArraySpell registry ts s) (AllSpell registry ts s) (all_still ts s) j w.0, w.1)
    spells_still (tree.items ts) (fields fs) j w = in_object (FieldsArraySpell registry ts fs) (FieldsSpell registry ts fs) (fields_still ts fs) j w
    spells_still (tree.pairs ps) (of (shape.map k v)) j w = in_array (PairsArraySpell registry ps k v) (PairsSpell registry ps k v) (pairs_still ps k v) j w
    spells_still (tree.variant n t) (one_of cs) j w =
        in_word_or_one (λ word. IfThere (IsWordOf n t) (choice_called word cs)) (λ word. IfThere (IsWordOf n t) (choice_called word cs))
        (λ word d. IfThere (ArrayPart n t d) (choice_called word cs)) (λ word d. IfThere (Part registry n t d) (choice_called word cs))
        (λ word p. p)
        (λ word d p. in_there (ArrayPart n t d) (Part registry n t d) (λ c q. (q.0, spells_still t (payload_content c.1.1) d q.1)) (choice_called word cs) p)
        j w
    spells_still (tree.named t) (of (shape.name n)) j w = spells_still t (json_content_at n registry) j w
    spells_still _ _ j w = w

    all_still : (ts : Trees) (s : Shape) (ds : Items) → AllArraySpell registry ts s ds → AllSpell registry ts s ds
    all_still no_trees s no_items w = w
    all_still (tree t ts) s (item d ds) w = (spells_still t (of s) d w.0, all_still ts s ds w.1)
    all_still _ _ _ w = absurd w

    each_still : (ts : Trees) (ss : Shapes) (ds : Items) → EachArraySpells registry ts ss ds → EachSpells registry ts ss ds
    each_still no_trees no_shapes no_items w = w
    each_still (tree t ts) (shape s ss) (item d ds) w = (spells_still t (of s) d w.0, each_still ts ss ds w.1)
    each_still _ _ _ w = absurd w

    pairs_still : (ps : Pairs) (k v : Shape) (ds : Items) → PairsArraySpell registry ps k v ds → PairsSpell registry ps k v ds
    pairs_still no_pairs k v no_items w = w
    pairs_still (pair l m ps) k v (item d ds) w = (
      in_two (λ a b. ArraySpells registry l (of k) a × ArraySpells registry m (of v) b) (λ a b. Spells registry l (of k) a × Spells registry m (of v) b)
          (λ a b p. (spells_still l (of k) a p.0, spells_still m (of v) b p.1)) d w.0,
      pairs_still ps k v ds w.1,
    )
    pairs_still _ _ _ _ w = absurd w

    fields_still : (ts : Trees) (fs : List Field) (ms : Members) → FieldsArraySpell registry ts fs ms → FieldsSpell registry ts fs ms
    fields_still no_trees [] no_members w = w
    fields_still (tree t ts) (f ∷ fs) ms w =
        (in_there (ArraySpells registry t (of f.1)) (Spells registry t (of f.1)) (λ d p. spells_still t (of f.1) d p) (get_member f.0 ms) w.0, fields_still ts fs (without f.0 ms) w.1)
    fields_still _ _ _ w = absurd w

pub array_spelling_still_spells : ArraySpellingStillSpells
array_spelling_still_spells registry f j t w = spells_still registry t f j w

-- ---- two lists

abbrev byte_list : JsonContent
byte_list = of (shape.seq (shape.unsigned w8))

abbrev one_byte : Tree
one_byte = tree.items (tree (tree.unsigned 255) no_trees)

by_elements : (registry : Entries) → ArraySpells registry one_byte byte_list (array (item (number (unsigned 255)) no_items))
by_elements registry = ((refl, refl), tt)

-- hexadecimal digits spell nothing in the older definition, although `ff` spells this list today
not_by_text : (registry : Entries) (s : List ℕ) (ts : Trees) → ArraySpells registry (tree.items ts) byte_list (string s) → ⊥
not_by_text registry s ts w = w

text_spells_it_today : (registry : Entries) → Spells registry one_byte byte_list (string (codes "ff"))
unfolding hex_on_literals
text_spells_it_today registry = (255 ∷ [], refl, refl)
