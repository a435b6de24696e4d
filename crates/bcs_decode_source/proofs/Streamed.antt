-- The parsers of values, in the steps in which a source is read.
use Rattle.bcs_decode_source.proofs.Prelude.{◌≡◌, ℕ, zero, suc, ◌-◌, ◌<◌, List, Some, None, Ok, Err, refl, ap, ◌∙◌, arith, Shape, Shapes, Entries, Content, Choice, of, one_of, nothing, content_at, choice_at, shape_of, scalar_shape, whole_shape, Scalar, IntegerKind, Unsigned, Signed, Tree, TooDeep, Unsupported, UnknownVariant, Reason, Parser, Making, follow, chain, give, fail, fail_here, content_here, choice_here, variant_here, node, value_here, shape_here, option_here, items_here, pairs_here, length_here, named_here, building, skipping, skip, node_here, enter_here, bare, content_past, read, leaf_here, unit_leaf, flag_node, option_node, items_node, row_here, pairs_node, tuple_value, container_value, named_value, content_value, number_node}
use Rattle.bcs_registry_model.specs.Shape as shape
use Rattle.bcs_registry_model.specs.declared.scalar.Scalar.TheVariants as scalar
use Rattle.bcs_registry_model.specs.declared.format.Format as format
use Rattle.bcs_value_model.specs.Tree as tree
use Rattle.bcs_decode_source.specs.Sees.{each}

pub enter_none : (d p m : ℕ) (b : List ℕ) → d ≡ 0 → enter_here d p m b ≡ fail_here TooDeep p m b
unfolding enter_here
enter_none d p m b h = rw h refl

pub enter_more : (d p m : ℕ) (b : List ℕ) → 0 < d → enter_here d p m b ≡ node_here p m b
unfolding enter_here
enter_more zero p m b h = absurd (omega arith)
enter_more (suc d) p m b h = refl

-- for every kind of result
module _ {V : Type 0} {R : Type 0} {E : Type 0} (make : Making V R E) where
  option_is : (f : Parser V) (p m : ℕ) (b : List ℕ) → node (option_here make f) p m b ≡ option_node make f p m b
  unfolding node option_here option_node flag_node chain give
  option_is f p zero b = refl
  option_is f p (suc m) b = refl

  seq_is : (f : Parser V) (p m : ℕ) (b : List ℕ) → node (chain length_here (λ n. chain (items_here make f n) (λ ts. give (make.items ts)))) p m b ≡ items_node make f None p m b
  unfolding node items_node row_here chain give
  seq_is f p zero b = refl
  seq_is f p (suc m) b = refl

  array_is : (f : Parser V) (n p m : ℕ) (b : List ℕ) → node (chain (items_here make f n) (λ ts. give (make.items ts))) p m b ≡ items_node make f (Some n) p m b
  unfolding node items_node row_here chain give
  array_is f n p zero b = refl
  array_is f n p (suc m) b = refl

  map_is : (f g : Parser V) (p m : ℕ) (b : List ℕ) → node (chain length_here (λ n. chain (pairs_here make f g None n) (λ ps. give (make.pairs ps)))) p m b ≡ pairs_node make f g p m b
  unfolding node pairs_node row_here chain give
  map_is f g p zero b = refl
  map_is f g p (suc m) b = refl

  module _ (registry : Entries) (d : ℕ) (f : format.Format) where
    pub read_Opt : (s : Shape) → shape_of f ≡ shape.option s → (p m : ℕ) (b : List ℕ) → value_here make registry d (shape_of f) p m b ≡ option_node make (value_here make registry d s) p m b
    unfolding value_here shape_here
    read_Opt s h p m b = rw h (option_is (value_here make registry d s) p m b)

    pub read_Seq : (s : Shape) → shape_of f ≡ shape.seq s → (p m : ℕ) (b : List ℕ) → value_here make registry d (shape_of f) p m b ≡ items_node make (value_here make registry d s) None p m b
    unfolding value_here shape_here
    read_Seq s h p m b = rw h (seq_is (value_here make registry d s) p m b)

    pub read_TupleArray : (s : Shape) (n : ℕ) → shape_of f ≡ shape.array s n → (p m : ℕ) (b : List ℕ) → value_here make registry d (shape_of f) p m b ≡ items_node make (value_here make registry d s) (Some n) p m b
    unfolding value_here shape_here
    read_TupleArray s n h p m b = rw h (array_is (value_here make registry d s) n p m b)

    pub read_Map : (k v : Shape) → shape_of f ≡ shape.map k v → (p m : ℕ) (b : List ℕ) → value_here make registry d (shape_of f) p m b ≡ pairs_node make (value_here make registry d k) (value_here make registry d v) p m b
    unfolding value_here shape_here
    read_Map k v h p m b = rw h (map_is (value_here make registry d k) (value_here make registry d v) p m b)

  enum_is : (registry : Entries) (d : ℕ) (cs : List Choice) (p m : ℕ) (b : List ℕ) → content_here make (named_here make registry d) (one_of cs) p m b ≡ follow (number_node p m b) (λ n. chain (choice_here make (named_here make registry d) p (choice_at n cs)) (λ t. give (make.variant n t)))
  unfolding content_here variant_here number_node node chain give
  enum_is registry d cs p zero b = refl
  enum_is registry d cs p (suc m) b = refl

  module _ (registry : Entries) (d p m : ℕ) (b : List ℕ) (cs : List Choice) where
    pub enum_stop : (e : Reason × ℕ) → number_node p m b ≡ Err e → content_here make (named_here make registry d) (one_of cs) p m b ≡ Err e
    enum_stop e h = enum_is registry d cs p m b ∙ rw h refl

    pub enum_unknown : (n q l : ℕ) (c : List ℕ) → number_node p m b ≡ Ok (n, q, l, c) → choice_at n cs ≡ nothing → content_here make (named_here make registry d) (one_of cs) p m b ≡ Err (UnknownVariant, p)
    unfolding choice_here chain fail
    enum_unknown n q l c h none = enum_is registry d cs p m b ∙ rw (h, none) refl

tuple_is : (registry : Entries) (d : ℕ) (ss : Shapes) (p m : ℕ) (b : List ℕ) → node (chain (each registry d ss) (λ ts. give (tree.items ts))) p m b ≡ tuple_value registry d ss p m b
unfolding node tuple_value chain give
tuple_is registry d ss p zero b = refl
tuple_is registry d ss p (suc m) b = refl

pub named_is : (registry : Entries) (d : ℕ) (name : List ℕ) (p m : ℕ) (b : List ℕ) → named_here building registry d name p m b ≡ named_value registry d name p m b
unfolding named_here container_value enter_here node chain give fail_here
named_is registry zero name p m b = refl
named_is registry (suc d) name p zero b = refl
named_is registry (suc d) name p (suc m) b = let e : suc d - 1 ≡ d = omega arith in rw e refl

-- ---- containers

module _ (registry : Entries) (d p m : ℕ) (b : List ℕ) where
  pub unit_is : read registry d shape.unit p m b ≡ unit_leaf p m b
  unfolding value_here shape_here
  unit_is = refl

  pub read_tuple : (ss : Shapes) → read registry d (shape.tuple ss) p m b ≡ tuple_value registry d ss p m b
  unfolding value_here shape_here
  read_tuple ss = tuple_is registry d ss p m b

  pub content_shape : (s : shape.Shape) → content_value registry d (of s) p m b ≡ read registry d s p m b
  unfolding content_here value_here
  content_shape s = refl

  pub enum_refused : (cs : List Choice) (n q l : ℕ) (c : List ℕ) (s : shape.Shape) (e : Reason) (o : ℕ) → number_node p m b ≡ Ok (n, q, l, c) → choice_at n cs ≡ of s → read registry d s q l c ≡ Err (e, o) → content_value registry d (one_of cs) p m b ≡ Err (e, o)
  unfolding choice_here chain value_here
  enum_refused cs n q l c s e o h is stop = enum_is building registry d cs p m b ∙ rw (h, is, stop) refl

  pub enum_built : (cs : List Choice) (n q l : ℕ) (c : List ℕ) (s : shape.Shape) (t : Tree) (i j : ℕ) (r : List ℕ) → number_node p m b ≡ Ok (n, q, l, c) → choice_at n cs ≡ of s → read registry d s q l c ≡ Ok (t, i, j, r) → content_value registry d (one_of cs) p m b ≡ Ok (tree.variant n t, i, j, r)
  unfolding choice_here chain value_here give
  enum_built cs n q l c s t i j r h is on = enum_is building registry d cs p m b ∙ rw (h, is, on) refl

  pub enum_skipped : (cs : List Choice) (n q l : ℕ) (c : List ℕ) (s : shape.Shape) → number_node p m b ≡ Ok (n, q, l, c) → choice_at n cs ≡ of s → content_past registry d (one_of cs) p m b ≡ skip registry d s q l c
  unfolding choice_here chain value_here
  enum_skipped cs n q l c s h is = enum_is skipping registry d cs p m b ∙ rw (h, is) (bare (skip registry d s q l c))

  -- a name that no container has
  pub container_missing : (q l : ℕ) (c : List ℕ) → enter_here d p m b ≡ Ok (tt, q, l, c) → container_value registry d nothing p m b ≡ Err (Unsupported, q)
  unfolding container_value chain content_here fail_here
  container_missing q l c h = rw h refl

  pub container_stop : (k : Content) (e : Reason) (o : ℕ) → enter_here d p m b ≡ Err (e, o) → container_value registry d k p m b ≡ Err (e, o)
  unfolding container_value chain
  container_stop k e o h = rw h refl

-- ---- formats

leaf_is : (registry : Entries) (d : ℕ) (s : Scalar) → read registry d (scalar_shape s) ≡ leaf_here (scalar_shape s)
unfolding value_here shape_here
leaf_is registry d scalar.Unit = refl
leaf_is registry d scalar.Bool = refl
leaf_is registry d (scalar.Whole (Unsigned w)) = refl
leaf_is registry d (scalar.Whole (Signed w)) = refl
leaf_is registry d (scalar.Unsupported u) = refl
leaf_is registry d scalar.Str = refl
leaf_is registry d scalar.Bytes = refl

-- reading a name reads its container
pub read_container : (registry : Entries) (d : ℕ) (s : Shape) (name : List ℕ) (c : Content) → s ≡ shape.name name → content_at name registry ≡ c → (p m : ℕ) (b : List ℕ) → read registry d s p m b ≡ container_value registry d c p m b
unfolding value_here shape_here
read_container registry d s name c is has p m b = rw is (named_is registry d name p m b) ∙ ap (λ (k : Content). container_value registry d k p m b) has

-- reading an integer reads a leaf
pub read_whole : (registry : Entries) (d : ℕ) (s : Shape) (n : IntegerKind) → s ≡ whole_shape n → read registry d s ≡ leaf_here (whole_shape n)
unfolding value_here shape_here
read_whole registry d s (Unsigned w) h = rw h refl
read_whole registry d s (Signed w) h = rw h refl

module _ (registry : Entries) (d : ℕ) (f : format.Format) where
  -- a value without parts is read as a leaf, in every registry
  pub read_leaf : (s : Scalar) → shape_of f ≡ scalar_shape s → read registry d (shape_of f) ≡ leaf_here (shape_of f)
  read_leaf s h = rw h (leaf_is registry d s)

  pub read_Tuple : (ss : Shapes) → shape_of f ≡ shape.tuple ss → (p m : ℕ) (b : List ℕ) → read registry d (shape_of f) p m b ≡ tuple_value registry d ss p m b
  unfolding value_here shape_here
  read_Tuple ss h p m b = rw h (tuple_is registry d ss p m b)

  pub read_TypeName : (name : List ℕ) → shape_of f ≡ shape.name name → (p m : ℕ) (b : List ℕ) → read registry d (shape_of f) p m b ≡ named_value registry d name p m b
  unfolding value_here shape_here
  read_TypeName name h p m b = rw h (named_is registry d name p m b)
