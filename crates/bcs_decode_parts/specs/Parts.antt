-- The parts of a value that steps lead to, and where their bytes are in its encoding.
use Rattle.std.specs.Prelude.{◌≡◌, ℕ, zero, suc, ◌+◌, List, [], ◌∷◌, ◌++◌, length, Option, Some, None, if◌then◌else◌}
use Rattle.std.specs.Str.{bytes_eq}
use Rattle.bcs_num.specs.Uleb.{uleb}
use Rattle.bcs_registry_model.specs.Shape as shape
use Rattle.bcs_registry_model.specs.Shape.{Shape, Shapes, no_shapes, shape}
use Rattle.bcs_registry_model.specs.Container.{Entries, Content, of, one_of, content_at, choice_at}
use Rattle.bcs_value_model.specs.Tree as tree
use Rattle.bcs_value_model.specs.Tree.{Tree, Trees, no_trees, tree, Pairs, no_pairs, pair, count, pair_count}
use Rattle.bcs_encode_spec.specs.Plain.{plain}

-- a `Step` that owns the bytes of its key
pub data Step : Type 0 where
  -- to the element with this index, from 0
  item : ℕ → Step
  -- into an option, a variant or a container
  inner : Step
  -- to the value whose encoded key is these bytes
  key : List ℕ → Step

-- a part: its tree, the content that it is a value of, and its place, the number of bytes before it
pub record Part : Type 0 where
  pub value : Tree
  pub content : Content
  pub place : ℕ

-- the same part, if `n` more bytes come before it
abbrev pub part_after : ℕ → Option Part → Option Part
part_after n None = None
part_after n (Some x) = Some (record x { place = n + x.place })

-- continues from a part, if there is one
abbrev pub part_onward : (Content → Tree → Option Part) → Option Part → Option Part
part_onward next None = None
part_onward next (Some x) = part_after x.place (next x.content x.value)

module _ (registry : Entries) where
  -- element `i` of values with one format
  abbrev pub item_of : Trees → Shape → ℕ → Option Part
  item_of no_trees s i = None
  item_of (tree t ts) s zero = Some (record { value = t; content = of s; place = 0 })
  item_of (tree t ts) s (suc i) = part_after (length (plain registry t (of s))) (item_of ts s i)

  -- element `i` of values with a format each
  abbrev pub item_in : Trees → Shapes → ℕ → Option Part
  item_in (tree t ts) (shape s ss) zero = Some (record { value = t; content = of s; place = 0 })
  item_in (tree t ts) (shape s ss) (suc i) = part_after (length (plain registry t (of s))) (item_in ts ss i)
  item_in no_trees ss i = None
  item_in (tree t ts) no_shapes i = None

  -- the value of the first entry whose encoded key is `bytes`
  abbrev pub value_of : Pairs → Shape → Shape → List ℕ → Option Part
  value_of no_pairs f g bytes = None
  value_of (pair k v ps) f g bytes =
      if bytes_eq bytes (plain registry k (of f))
      then Some (record { value = v; content = of g; place = length (plain registry k (of f)) })
      else part_after (length (plain registry k (of f)) + length (plain registry v (of g))) (value_of ps f g bytes)

  -- the part that one step leads to
  abbrev pub step_at : Step → Content → Tree → Option Part
  step_at (item i) (of (shape.seq s)) (tree.items ts) = part_after (length (uleb (count ts))) (item_of ts s i)
  step_at (item i) (of (shape.tuple ss)) (tree.items ts) = item_in ts ss i
  step_at (item i) (of (shape.array s n)) (tree.items ts) = item_of ts s i
  step_at inner (of (shape.option s)) (tree.present t) = Some (record { value = t; content = of s; place = 1 })
  step_at inner (of (shape.name n)) (tree.named t) = Some (record { value = t; content = content_at n registry; place = 0 })
  step_at inner (one_of cs) (tree.variant n t) = Some (record { value = t; content = choice_at n cs; place = length (uleb n) })
  step_at (key bytes) (of (shape.map k v)) (tree.pairs ps) = part_after (length (uleb (pair_count ps))) (value_of ps k v bytes)
  step_at _ _ _ = None

  -- the part that the steps lead to
  abbrev pub part_at : List Step → Content → Tree → Option Part
  part_at [] f t = Some (record { value = t; content = f; place = 0 })
  part_at (s ∷ path) f t = part_onward (part_at path) (step_at s f t)

  -- the part's bytes are in `whole`, after as many bytes as its place says
  pub record Stands (whole : List ℕ) (x : Part) : Type 0 where
    pub before : List ℕ
    pub after : List ℕ
    pub place : length before ≡ x.place
    pub is : whole ≡ before ++ (plain registry x.value x.content ++ after)
