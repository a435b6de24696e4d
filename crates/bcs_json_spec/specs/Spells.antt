-- Which JSON spells which tree: the column "Read" in docs/JSON.md. The pairs of a map are in the order given.
use Rattle.std.specs.Prelude.{◌≡◌, ◌≤◌, IsTrue, ℕ, pos, List, [], ◌∷◌, codes}
use Rattle.std.specs.Str.{is_utf8}
use Rattle.serde_json.specs.Data.{Data, boolean, Items, no_items, item, Members, no_members, member}
use Rattle.serde_json.specs.Find.{get_member}
use Rattle.bcs_registry_model.specs.Shape as shape
use Rattle.bcs_registry_model.specs.Shape.{Shape, Shapes, no_shapes, shape}
use Rattle.bcs_registry_model.specs.Container as container
use Rattle.bcs_registry_model.specs.Container.{Field, Choice, Entries, choice_called}
use Rattle.bcs_value_model.specs.Tree as tree
use Rattle.bcs_value_model.specs.Tree.{Tree, Trees, no_trees, tree, Pairs, no_pairs, pair, count, depth}
use Rattle.bcs_json_spec.specs.Bytes.{IsHexOf, ByteTextSpells, is_byte}
use Rattle.bcs_json_spec.specs.JsonContent.{JsonContent, of, fields, one_of, json_content_at, payload_content}
use Rattle.bcs_json_spec.specs.Look.{IsNull, IfString, IfArray, IfStringOrArray, IfObject, IfTwo, IfOne, IfWordOrOne, IfThere, without}
use Rattle.bcs_json_spec.specs.Numbers.{SpellsWhole, is_unsigned_of, is_signed_of}

-- the name of a unit variant
abbrev pub IsWordOf : ℕ → Tree → Choice → Type 0
IsWordOf n t c = (c.0 ≡ n) × (c.1.1 ≡ container.unit) × (t ≡ tree.unit)

module _ (registry : Entries) where
  abbrev mutual
    pub Spells : Tree → JsonContent → Data → Type 0
    Spells tree.unit (of shape.unit) j = IsNull j
    Spells (tree.truth b) (of shape.truth) j = j ≡ boolean b
    Spells (tree.unsigned n) (of (shape.unsigned w)) j = SpellsWhole j (pos n) × IsTrue (is_unsigned_of w (pos n))
    Spells (tree.signed z) (of (shape.signed w)) j = SpellsWhole j z × IsTrue (is_signed_of w z)
    -- strings that `serde_json` returns are always UTF-8
    Spells (tree.text s) (of shape.text) j = IfString (λ r. (r ≡ s) × IsTrue (is_utf8 r)) j
    Spells (tree.bytes b) (of shape.bytes) j = IfString (λ r. IsHexOf r b) j
    Spells tree.absent (of (shape.option s)) j = IsNull j
    Spells (tree.present t) (of (shape.option s)) j = IfOne (λ k d. (k ≡ codes "some") × Spells t (of s) d) j
    Spells (tree.items ts) (of (shape.seq s)) j = IfStringOrArray (λ r. ByteTextSpells (is_byte s) r ts) (AllSpell ts s) j
    Spells (tree.items ts) (of (shape.tuple ss)) j = IfArray (EachSpells ts ss) j
    Spells (tree.items ts) (of (shape.array s n)) j = IfStringOrArray (λ r. ByteTextSpells (is_byte s) r ts) (AllSpell ts s) j × (count ts ≡ n)
    Spells (tree.items ts) (fields fs) j = IfObject (FieldsSpell ts fs) j
    Spells (tree.pairs ps) (of (shape.map k v)) j = IfArray (PairsSpell ps k v) j
    Spells (tree.variant n t) (one_of cs) j =
        IfWordOrOne
        (λ word. IfThere (IsWordOf n t) (choice_called word cs))
        (λ word d. IfThere (λ c. (c.0 ≡ n) × Spells t (payload_content c.1.1) d) (choice_called word cs))
        j
    Spells (tree.named t) (of (shape.name n)) j = Spells t (json_content_at n registry) j
    Spells _ _ _ = ⊥

    -- as many items as trees, all of one format
    pub AllSpell : Trees → Shape → Items → Type 0
    AllSpell no_trees s no_items = Unit {0}
    AllSpell (tree t ts) s (item d ds) = Spells t (of s) d × AllSpell ts s ds
    AllSpell no_trees s (item d ds) = ⊥
    AllSpell (tree t ts) s no_items = ⊥

    -- as many items as formats, each tree with its own
    pub EachSpells : Trees → Shapes → Items → Type 0
    EachSpells no_trees no_shapes no_items = Unit {0}
    EachSpells (tree t ts) (shape s ss) (item d ds) = Spells t (of s) d × EachSpells ts ss ds
    EachSpells _ _ _ = ⊥

    -- each item is an array of a key and its value
    pub PairsSpell : Pairs → Shape → Shape → Items → Type 0
    PairsSpell no_pairs k v no_items = Unit {0}
    PairsSpell (pair l w ps) k v (item d ds) = IfTwo (λ a b. Spells l (of k) a × Spells w (of v) b) d × PairsSpell ps k v ds
    PairsSpell no_pairs k v (item d ds) = ⊥
    PairsSpell (pair l w ps) k v no_items = ⊥

    -- exactly the fields: the member of each field is removed in turn, and no other is left
    pub FieldsSpell : Trees → List Field → Members → Type 0
    FieldsSpell no_trees [] no_members = Unit {0}
    FieldsSpell (tree t ts) (f ∷ fs) ms = IfThere (Spells t (of f.1)) (get_member f.0 ms) × FieldsSpell ts fs (without f.0 ms)
    FieldsSpell no_trees [] (member k d ms) = ⊥
    FieldsSpell no_trees (f ∷ fs) ms = ⊥
    FieldsSpell (tree t ts) [] ms = ⊥

  -- the JSON spells the tree, and at most `n` containers are open at once
  abbrev pub SpellsWithin : ℕ → JsonContent → Data → Tree → Type 0
  SpellsWithin n f j t = Spells t f j × (depth t ≤ n)
