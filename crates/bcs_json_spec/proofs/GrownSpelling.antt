-- What JSON spells in a registry, it spells in every registry that this one grows to.
use Rattle.bcs_json_spec.proofs.Prelude.{◌≡◌, inl, inr, ℕ, List, [], ◌∷◌, codes, sym, subst, Data, Items, no_items, item, Members, no_members, get_member, Shape, Shapes, no_shapes, shape, Field, Choice, Entries, choice_called, Grows, IsWellFormed, Tree, Trees, no_trees, tree, Pairs, no_pairs, pair, keeps_soundness, ByteTextSpells, is_byte, JsonContent, of, fields, one_of, nothing, json_content_at, payload_content, GrowthKeepsSpelling, GrowthKeepsDenoting, IfThere, without, Spells, AllSpell, EachSpells, PairsSpell, FieldsSpell, IsWordOf}
use Rattle.bcs_registry_model.specs.Shape as shape
use Rattle.bcs_registry_model.specs.Container as container
use Rattle.bcs_value_model.specs.Tree as tree
use Rattle.bcs_json_spec.proofs.Fitting.{Part, there}
use Rattle.bcs_json_spec.proofs.GrownContents.{HasNames, StaysIn, json_content_at-grows}
use Rattle.bcs_json_spec.proofs.Looking.{in_one, in_two, in_array, in_string_or_array, in_object, in_word_or_one, in_there}

module _ (registry : Entries) where
  spells_nothing : (t : Tree) (j : Data) → Spells registry t nothing j → ⊥
  spells_nothing tree.unit j w = w
  spells_nothing _ j w = w

  -- what is found by a name is found in the larger enum
  still_there : (P : Choice → Type 0) (word : List ℕ) (cs ds : List Choice) → HasNames cs ds → IfThere P (choice_called word cs) → IfThere P (choice_called word ds)
  still_there P word cs ds has w = let c = there P (choice_called word cs) w in subst (IfThere P) (sym (has word c.0 c.1)) c.2

  spells_more : (t : Tree) (cs ds : List Choice) (j : Data) → HasNames cs ds → Spells registry t (one_of cs) j → Spells registry t (one_of ds) j
  spells_more (tree.variant n t) cs ds j has w =
      in_word_or_one (λ word. IfThere (IsWordOf n t) (choice_called word cs)) (λ word. IfThere (IsWordOf n t) (choice_called word ds))
      (λ word d. IfThere (Part registry n t d) (choice_called word cs)) (λ word d. IfThere (Part registry n t d) (choice_called word ds))
      (λ word p. still_there (IsWordOf n t) word cs ds has p)
      (λ word d p. still_there (Part registry n t d) word cs ds has p)
      j w
  spells_more _ cs ds j has w = absurd w

  spells_in : (t : Tree) (f g : JsonContent) (j : Data) → StaysIn f g → Spells registry t f j → Spells registry t g j
  spells_in t f g j (inl none) w = absurd (spells_nothing t j (subst (λ x. Spells registry t x j) none w))
  spells_in t f g j (inr (inl same)) w = subst (λ x. Spells registry t x j) same w
  spells_in t f g j (inr (inr more)) w =
      subst (λ x. Spells registry t x j) (sym more.3) (spells_more t more.0 more.1 j more.4 (subst (λ x. Spells registry t x j) more.2 w))

module _ (older newer : Entries) (good : IsWellFormed newer) (grows : Grows older newer) where
  mutual
    spells_newer : (t : Tree) (f : JsonContent) (j : Data) → Spells older t f j → Spells newer t f j
    spells_newer (tree.present t) (of (shape.option s)) j w =
        in_one (λ k d. (k ≡ codes "some") × Spells older t (of s) d) (λ k d. (k ≡ codes "some") × Spells newer t (of s) d)
        (λ k d p. (p.0, spells_newer t (of s) d p.1)) j w
    spells_newer (tree.items ts) (of (shape.seq s)) j w =
        in_string_or_array (λ r. ByteTextSpells (is_byte s) r ts) (AllSpell older ts s) (AllSpell newer ts s) (all_newer ts s) j w
    spells_newer (tree.items ts) (of (shape.tuple ss)) j w = in_array (EachSpells older ts ss) (EachSpells newer ts ss) (each_newer ts ss) j w
    spells_newer (tree.items ts) (of (shape.array s n)) j w =
        (in_string_or_array (λ r. ByteTextSpells (is_byte s) r ts) (AllSpell older ts s) (AllSpell newer ts s) (all_newer ts s) j w.0, w.1)
    spells_newer (tree.items ts) (fields fs) j w = in_object (FieldsSpell older ts fs) (FieldsSpell newer ts fs) (fields_newer ts fs) j w
    spells_newer (tree.pairs ps) (of (shape.map k v)) j w = in_array (PairsSpell older ps k v) (PairsSpell newer ps k v) (pairs_newer ps k v) j w
    spells_newer (tree.variant n t) (one_of cs) j w =
        in_word_or_one (λ word. IfThere (IsWordOf n t) (choice_called word cs)) (λ word. IfThere (IsWordOf n t) (choice_called word cs))
        (λ word d. IfThere (Part older n t d) (choice_called word cs)) (λ word d. IfThere (Part newer n t d) (choice_called word cs))
        (λ word p. p)
        (λ word d p. in_there (Part older n t d) (Part newer n t d) (λ c q. (q.0, spells_newer t (payload_content c.1.1) d q.1)) (choice_called word cs) p)
        j w
    spells_newer (tree.named t) (of (shape.name n)) j w =
        spells_in newer t (json_content_at n older) (json_content_at n newer) j (json_content_at-grows older newer good grows n) (spells_newer t (json_content_at n older) j w)
    spells_newer _ _ j w = w

    all_newer : (ts : Trees) (s : Shape) (ds : Items) → AllSpell older ts s ds → AllSpell newer ts s ds
    all_newer no_trees s no_items w = w
    all_newer (tree t ts) s (item d ds) w = (spells_newer t (of s) d w.0, all_newer ts s ds w.1)
    all_newer _ _ _ w = absurd w

    each_newer : (ts : Trees) (ss : Shapes) (ds : Items) → EachSpells older ts ss ds → EachSpells newer ts ss ds
    each_newer no_trees no_shapes no_items w = w
    each_newer (tree t ts) (shape s ss) (item d ds) w = (spells_newer t (of s) d w.0, each_newer ts ss ds w.1)
    each_newer _ _ _ w = absurd w

    pairs_newer : (ps : Pairs) (k v : Shape) (ds : Items) → PairsSpell older ps k v ds → PairsSpell newer ps k v ds
    pairs_newer no_pairs k v no_items w = w
    pairs_newer (pair l m ps) k v (item d ds) w = (
      in_two (λ a b. Spells older l (of k) a × Spells older m (of v) b) (λ a b. Spells newer l (of k) a × Spells newer m (of v) b)
          (λ a b p. (spells_newer l (of k) a p.0, spells_newer m (of v) b p.1)) d w.0,
      pairs_newer ps k v ds w.1,
    )
    pairs_newer _ _ _ _ w = absurd w

    fields_newer : (ts : Trees) (fs : List Field) (ms : Members) → FieldsSpell older ts fs ms → FieldsSpell newer ts fs ms
    fields_newer no_trees [] no_members w = w
    fields_newer (tree t ts) (f ∷ fs) ms w =
        (in_there (Spells older t (of f.1)) (Spells newer t (of f.1)) (λ d p. spells_newer t (of f.1) d p) (get_member f.0 ms) w.0, fields_newer ts fs (without f.0 ms) w.1)
    fields_newer _ _ _ w = absurd w

pub growth_keeps_spelling : GrowthKeepsSpelling
growth_keeps_spelling older newer f j t good grows w = spells_newer older newer good grows t f j w

pub growth_keeps_denoting : GrowthKeepsDenoting
growth_keeps_denoting older newer limits s text t good grows g = record {
  read = g.read;
  is = g.is;
  spells = spells_newer older newer good grows t (of s) g.read g.spells;
  sound = keeps_soundness older newer limits (container.of s) t grows g.sound;
}
