-- JSON of the wrong kind has no parts.
use Rattle.bcs_json_reader.proofs.Prelude.{◌≡◌, ◌∙◌, ℕ, List, [], ◌∷◌, codes, Bool, true, false, cond, Some, None, Ok, Err, ◌==◌, if◌then◌else◌, bytes_eq, refl, ap, bytes_eq-Decides, Data, array, object, Items, no_items, item, Members, no_members, member, Shape, Shapes, Field, newtype, Choice, choice_called, Tree, Trees, no_trees, item_count, shape_count, JsonPart, option_parts, seq_parts, map_parts, tuple_parts, array_parts, struct_parts, enum_parts, pair_parts, Read, follow, read_all, read_choice, read_enum, read_option, read_pair, read_seq, read_tuple, JsonFault, not_both, BadShape}
use Rattle.bcs_registry_model.specs.Shape as shape
use Rattle.bcs_value_model.specs.Tree as tree

-- a reader that accepts anything
abbrev takes : Data → Read Tree
takes d = Ok tree.unit

takes_all : (ds : Items) → (ts : Trees) × (read_all takes ds ≡ Ok ts)
takes_all no_items = (no_trees, refl)
takes_all (item d ds) = let rest = takes_all ds in (tree.tree tree.unit rest.0, ap (λ (x : Read Trees). follow x (λ ts. Ok (tree.tree tree.unit ts))) rest.1)

pub no_array : (j : Data) (e : JsonFault) → ((bytes : Bool) (r : Data → Read Tree) → read_seq bytes r j ≡ Err e) → (ds : Items) → j ≡ array ds → ⊥
no_array j e h ds is =
    let all = takes_all ds in
    not_both (tree.items all.0) e (read_seq true takes j) (ap (read_seq true takes) is ∙ ap (λ (x : Read Trees). follow x (λ ts. Ok (tree.items ts))) all.1) (h true takes)

module _ (left : ℕ) where
  option_at : (b : Bool) (e : JsonFault) (ps : List JsonPart) → (if b then Ok (tree.present tree.unit) else Err BadShape) ≡ Err e → (if b then ps else []) ≡ []
  option_at true e ps h = cc
  option_at false e ps h = refl

  pub option_none : (s : Shape) (j : Data) (e : JsonFault) → ((r : Data → Read Tree) → read_option r j ≡ Err e) → option_parts left s j ≡ []
  option_none s (object (member k d no_members)) e h = option_at (bytes_eq k (codes "some")) e _ (h takes)
  option_none s _ e h = refl

  pub seq_none : (s : Shape) (j : Data) → ((ds : Items) → j ≡ array ds → ⊥) → seq_parts left s j ≡ []
  seq_none s (array ds) other = absurd (other ds refl)
  seq_none s _ other = refl

  pub array_none : (s : Shape) (n : ℕ) (j : Data) → ((ds : Items) → j ≡ array ds → ⊥) → array_parts left s n j ≡ []
  array_none s n (array ds) other = absurd (other ds refl)
  array_none s n _ other = refl

  pub map_none : (k v : Shape) (j : Data) → ((ds : Items) → j ≡ array ds → ⊥) → map_parts left k v j ≡ []
  map_none k v (array ds) other = absurd (other ds refl)
  map_none k v _ other = refl

  tuple_at : (b : Bool) (e : JsonFault) (ps : List JsonPart) → (if b then Ok (tree.items no_trees) else Err BadShape) ≡ Err e → (if b then ps else []) ≡ []
  tuple_at true e ps h = cc
  tuple_at false e ps h = refl

  pub tuple_none : (ss : Shapes) (j : Data) (e : JsonFault) → ((r : Items → Read Trees) → read_tuple (shape_count ss) r j ≡ Err e) → tuple_parts left ss j ≡ []
  tuple_none ss (array ds) e h = tuple_at (item_count ds == shape_count ss) e _ (h (λ es. Ok no_trees))
  tuple_none ss _ e h = refl

  pub pair_none : (s t : Shape) (j : Data) (e : JsonFault) → ((k v : Data → Read Tree) → read_pair k v j ≡ Err e) → pair_parts left s t j ≡ []
  pair_none s t (array (item a (item b no_items))) e h = absurd (not_both (tree.unit, tree.unit) e (read_pair takes takes (array (item a (item b no_items)))) refl (h takes takes))
  pair_none s t _ e h = refl

  pub struct_none : (fs : List Field) (j : Data) → ((ms : Members) → j ≡ object ms → ⊥) → struct_parts left fs j ≡ []
  struct_none fs (object ms) other = absurd (other ms refl)
  struct_none fs _ other = refl

  -- a variant with this name
  abbrev named_so : List ℕ → List Choice
  named_so word = (0, (word, newtype (shape.name []))) ∷ []

  called_so : (word : List ℕ) → choice_called word (named_so word) ≡ Some (0, (word, newtype (shape.name [])))
  called_so word = ap (λ b. cond b (Some (0, (word, newtype (shape.name [])))) None) ((bytes_eq-Decides word word).1 refl)

  pub enum_none : (cs : List Choice) (j : Data) (e : JsonFault) → ((named : List ℕ → Data → Read Tree) (ds : List Choice) → read_enum named ds j ≡ Err e) → enum_parts left cs j ≡ []
  enum_none cs (object (member word d no_members)) e h =
      absurd (not_both (tree.variant 0 tree.unit) e (read_enum (λ n. takes) (named_so word) (object (member word d no_members)))
      (ap (λ o. read_choice (λ n. takes) o d) (called_so word)) (h (λ n. takes) (named_so word)))
  enum_none cs _ e h = refl
