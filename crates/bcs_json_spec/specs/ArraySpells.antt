-- The older definition of spelling, in which hexadecimal digits aren't allowed for lists and arrays of `U8`.
use Rattle.std.specs.Prelude.{◌≡◌, List, [], ◌∷◌, codes}
use Rattle.serde_json.specs.Data.{Data, Items, no_items, item, Members, no_members, member}
use Rattle.serde_json.specs.Find.{get_member}
use Rattle.bcs_registry_model.specs.Shape as shape
use Rattle.bcs_registry_model.specs.Shape.{Shape, Shapes, no_shapes, shape}
use Rattle.bcs_registry_model.specs.Container.{Field, Entries, choice_called}
use Rattle.bcs_value_model.specs.Tree as tree
use Rattle.bcs_value_model.specs.Tree.{Tree, Trees, no_trees, tree, Pairs, no_pairs, pair, count}
use Rattle.bcs_json_spec.specs.JsonContent.{JsonContent, of, fields, one_of, json_content_at, payload_content}
use Rattle.bcs_json_spec.specs.Look.{IfArray, IfObject, IfTwo, IfOne, IfWordOrOne, IfThere, without}
use Rattle.bcs_json_spec.specs.Spells.{Spells, IsWordOf}

module _ (registry : Entries) where
  abbrev mutual
    pub ArraySpells : Tree → JsonContent → Data → Type 0
    ArraySpells (tree.present t) (of (shape.option s)) j = IfOne (λ k d. (k ≡ codes "some") × ArraySpells t (of s) d) j
    ArraySpells (tree.items ts) (of (shape.seq s)) j = IfArray (AllArraySpell ts s) j
    ArraySpells (tree.items ts) (of (shape.tuple ss)) j = IfArray (EachArraySpells ts ss) j
    ArraySpells (tree.items ts) (of (shape.array s n)) j = IfArray (AllArraySpell ts s) j × (count ts ≡ n)
    ArraySpells (tree.items ts) (fields fs) j = IfObject (FieldsArraySpell ts fs) j
    ArraySpells (tree.pairs ps) (of (shape.map k v)) j = IfArray (PairsArraySpell ps k v) j
    ArraySpells (tree.variant n t) (one_of cs) j =
        IfWordOrOne
        (λ word. IfThere (IsWordOf n t) (choice_called word cs))
        (λ word d. IfThere (λ c. (c.0 ≡ n) × ArraySpells t (payload_content c.1.1) d) (choice_called word cs))
        j
    ArraySpells (tree.named t) (of (shape.name n)) j = ArraySpells t (json_content_at n registry) j
    -- values without parts are spelled as in `Spells`
    ArraySpells t f j = Spells registry t f j

    pub AllArraySpell : Trees → Shape → Items → Type 0
    AllArraySpell no_trees s no_items = Unit {0}
    AllArraySpell (tree t ts) s (item d ds) = ArraySpells t (of s) d × AllArraySpell ts s ds
    AllArraySpell no_trees s (item d ds) = ⊥
    AllArraySpell (tree t ts) s no_items = ⊥

    pub EachArraySpells : Trees → Shapes → Items → Type 0
    EachArraySpells no_trees no_shapes no_items = Unit {0}
    EachArraySpells (tree t ts) (shape s ss) (item d ds) = ArraySpells t (of s) d × EachArraySpells ts ss ds
    EachArraySpells _ _ _ = ⊥

    pub PairsArraySpell : Pairs → Shape → Shape → Items → Type 0
    PairsArraySpell no_pairs k v no_items = Unit {0}
    PairsArraySpell (pair l w ps) k v (item d ds) = IfTwo (λ a b. ArraySpells l (of k) a × ArraySpells w (of v) b) d × PairsArraySpell ps k v ds
    PairsArraySpell no_pairs k v (item d ds) = ⊥
    PairsArraySpell (pair l w ps) k v no_items = ⊥

    pub FieldsArraySpell : Trees → List Field → Members → Type 0
    FieldsArraySpell no_trees [] no_members = Unit {0}
    FieldsArraySpell (tree t ts) (f ∷ fs) ms = IfThere (ArraySpells t (of f.1)) (get_member f.0 ms) × FieldsArraySpell ts fs (without f.0 ms)
    FieldsArraySpell no_trees [] (member k d ms) = ⊥
    FieldsArraySpell no_trees (f ∷ fs) ms = ⊥
    FieldsArraySpell (tree t ts) [] ms = ⊥
