-- The JSON that a tree is printed as: the normal JSON of docs/JSON.md.
use Rattle.std.specs.Prelude.{ℕ, List, ◌∷◌, codes, decimal, Option, Some, None, Bool, nat_lt, if◌then◌else◌}
use Rattle.std.specs.Fmt.{signed_decimal}
use Rattle.std.specs.Int.{Width, byte_len}
use Rattle.hex.specs.Hex.{encode_lower}
use Rattle.serde_json.specs.Data.{Data, null, boolean, number, unsigned as whole, string, array, object, Items, no_items, item, Members, no_members, put}
use Rattle.serde_json.specs.Find.{of_integer}
use Rattle.bcs_registry_model.specs.Shape as shape
use Rattle.bcs_registry_model.specs.Shape.{Shape, Shapes, shape}
use Rattle.bcs_registry_model.specs.Container as container
use Rattle.bcs_registry_model.specs.Container.{Field, Payload, Entries, choice_numbered}
use Rattle.bcs_registry_json.specs.Shown.{single}
use Rattle.bcs_value_model.specs.Tree as tree
use Rattle.bcs_value_model.specs.Tree.{Tree, Trees, no_trees, tree, Pairs, no_pairs, pair}
use Rattle.bcs_json_spec.specs.Bytes.{is_byte, trees_bytes}
use Rattle.bcs_json_spec.specs.JsonContent.{JsonContent, of, fields, one_of, json_content_at, payload_content}

-- more than 32 bits
abbrev pub is_wide : Width → Bool
is_wide w = nat_lt 4 (byte_len w)

-- the name of a variant, alone or with its payload
abbrev pub shown_choice : (JsonContent → Data) → Option (List ℕ × Payload) → Data
shown_choice show None = null
shown_choice show (Some (name, container.unit)) = string name
shown_choice show (Some (name, p)) = single name (show (payload_content p))

module _ (registry : Entries) where
  abbrev mutual
    pub shown : Tree → JsonContent → Data
    shown (tree.truth b) (of shape.truth) = boolean b
    shown (tree.unsigned n) (of (shape.unsigned w)) = if is_wide w then string (decimal n) else number (whole n)
    shown (tree.signed z) (of (shape.signed w)) = if is_wide w then string (signed_decimal z) else number (of_integer z)
    shown (tree.text s) (of shape.text) = string s
    shown (tree.bytes b) (of shape.bytes) = string (encode_lower b)
    shown (tree.present t) (of (shape.option s)) = single (codes "some") (shown t (of s))
    shown (tree.items ts) (of (shape.seq s)) = if is_byte s then string (encode_lower (trees_bytes ts)) else array (shown_all ts s)
    shown (tree.items ts) (of (shape.tuple ss)) = array (shown_each ts ss)
    shown (tree.items ts) (of (shape.array s n)) = if is_byte s then string (encode_lower (trees_bytes ts)) else array (shown_all ts s)
    shown (tree.items ts) (fields fs) = object (shown_fields ts fs)
    shown (tree.pairs ps) (of (shape.map k v)) = array (shown_pairs ps k v)
    shown (tree.variant n t) (one_of cs) = shown_choice (shown t) (choice_numbered n cs)
    shown (tree.named t) (of (shape.name n)) = shown t (json_content_at n registry)
    shown _ _ = null

    pub shown_all : Trees → Shape → Items
    shown_all no_trees s = no_items
    shown_all (tree t ts) s = item (shown t (of s)) (shown_all ts s)

    pub shown_each : Trees → Shapes → Items
    shown_each (tree t ts) (shape s ss) = item (shown t (of s)) (shown_each ts ss)
    shown_each _ _ = no_items

    pub shown_pairs : Pairs → Shape → Shape → Items
    shown_pairs no_pairs k v = no_items
    shown_pairs (pair l w ps) k v = item (array (item (shown l (of k)) (item (shown w (of v)) no_items))) (shown_pairs ps k v)

    -- adds the member of each field, in the order of names
    pub shown_fields : Trees → List Field → Members
    shown_fields (tree t ts) (f ∷ fs) = put f.0 (shown t (of f.1)) (shown_fields ts fs)
    shown_fields _ _ = no_members
