-- The fixed size of a format's values, derived from the sizes of its parts.
use Rattle.bcs_decode_slice.proofs.Prelude.{◌≡◌, ℕ, zero, suc, ◌+◌, ◌-◌, ◌*◌, ◌<◌, ◌≤◌, List, drop, refl, ap, ◌∙◌, arith, Shape, Shapes, Entries, Content, of, content_at, Parser, give, items_here, skipping, value_here, shape_here, skip, whole_here, GoesPast, IsFixed, IsFixedInside}
use Rattle.bcs_registry_model.specs.Shape as shape
use Rattle.bcs_decode_spec.proofs.ScalarSteps.{enter_more, unit_is}
use Rattle.bcs_decode_spec.proofs.PartSteps.{each, each_end, each_on, tuple_on, named_on, content_past, content_shape, items_end, node_then}
use Rattle.bcs_decode_slice.proofs.WholeRows.{one_on}
use Rattle.bcs_decode_slice.proofs.Reaching.{Reaches, reaches_on, reaches_end, node_goes, items_reach}

-- a node, followed by something of fixed size
node_and : (f g : Parser (Unit {0})) (i k : ℕ) → Reaches f g 0 1 → GoesPast g i k → GoesPast f (0 + i) (1 + k)
unfolding give
node_and f g i k node goes = reaches_end f (0 + i) (1 + k) (reaches_on f g (give tt) 0 i 1 k node goes)

module _ (registry : Entries) (d : ℕ) where
  -- any `w` bytes are a value
  pub fixed_whole : (s : Shape) (w : ℕ) → ((p m : ℕ) (b : List ℕ) → skip registry d s p m b ≡ whole_here w p m b) → IsFixed registry d s w 1
  fixed_whole s w is p zero b there left = absurd (omega arith)
  fixed_whole s w is p (suc m) b there left =
      let nodes : suc m - 1 ≡ m = omega arith in
      is p (suc m) b ∙ one_on w p m b there ∙ rw nodes refl

  -- ---- tuples

  pub tuple_reaches : (ss : Shapes) → Reaches (skip registry d (shape.tuple ss)) (each registry d ss) 0 1
  tuple_reaches ss p m b there left = tuple_on registry d p m b ss (p + 0) (m - 1) (drop 0 b) (node_goes p m b there left)

  pub each_reaches : (all : Shapes) (s : Shape) (ss : Shapes) (i k : ℕ) → all ≡ shape.shape s ss → IsFixed registry d s i k → Reaches (each registry d all) (each registry d ss) i k
  each_reaches all s ss i k is goes p m b there left = each_on registry d p m b all s ss (p + i) (m - k) (drop i b) is (goes p m b there left)

  pub each_ends : (f : Parser (Unit {0})) (all : Shapes) (i k : ℕ) → all ≡ shape.no_shapes → Reaches f (each registry d all) i k → GoesPast f i k
  each_ends f all i k none reaches p m b there left =
      reaches p m b there left
      ∙ ap (λ ss. each registry d ss (p + i) (m - k) (drop i b)) none
      ∙ each_end registry d (p + i) (m - k) (drop i b)

  -- ---- arrays

  array_reaches : (s : Shape) (n : ℕ) → Reaches (skip registry d (shape.array s n)) (items_here skipping (skip registry d s) n) 0 1
  unfolding value_here shape_here
  array_reaches s n p m b there left = node_then (items_here skipping (skip registry d s) n) p m b (p + 0) (m - 1) (drop 0 b) (node_goes p m b there left)

  items_go : (f : Parser (Unit {0})) (i k n : ℕ) → GoesPast f i k → GoesPast (items_here skipping f n) (n * i) (n * k)
  items_go f i k n goes p m b there left =
      items_reach f i k goes n n (omega arith) p m b there left
      ∙ items_end f n n (p + n * i) (m - n * k) (drop (n * i) b) (omega arith)

  pub array_goes : (s : Shape) (n i k : ℕ) → IsFixed registry d s i k → IsFixed registry d (shape.array s n) (0 + n * i) (1 + n * k)
  array_goes s n i k goes = node_and (skip registry d (shape.array s n)) (items_here skipping (skip registry d s) n) (n * i) (n * k) (array_reaches s n) (items_go (skip registry d s) i k n goes)

  pub empty_array_goes : (s : Shape) (n : ℕ) → n ≡ 0 → IsFixed registry d (shape.array s n) 0 1
  empty_array_goes s n none p m b there left =
      let ends : n ≤ 0 = omega arith in
      let same : n - 0 ≡ n = omega arith in
      array_reaches s n p m b there left ∙ rw same at (items_end (skip registry d s) n 0 (p + 0) (m - 1) (drop 0 b) ends)

  -- ---- containers

  named_reaches : (name : List ℕ) → 0 < d → Reaches (skip registry d (shape.name name)) (content_past registry (d - 1) (content_at name registry)) 0 1
  named_reaches name lt p m b there left =
      named_on registry name p m b d (p + 0) (m - 1) (drop 0 b) lt (ap (λ (f : Parser (Unit {0})). f p m b) (enter_more d lt) ∙ node_goes p m b there left)

  pub named_goes : (name : List ℕ) (c : Content) (i k : ℕ) → 0 < d → content_at name registry ≡ c → IsFixedInside registry (d - 1) c i k → IsFixed registry d (shape.name name) (0 + i) (1 + k)
  named_goes name c i k lt is goes = node_and (skip registry d (shape.name name)) (content_past registry (d - 1) (content_at name registry)) i k (named_reaches name lt) (rw is goes)

  pub unit_goes : IsFixed registry d shape.unit 0 1
  unit_goes p m b there left = unit_is registry d p m b ∙ node_goes p m b there left

  pub inside_goes : (c : Content) (s : Shape) (i k : ℕ) → c ≡ of s → IsFixed registry d s i k → IsFixedInside registry d c i k
  inside_goes c s i k is goes p m b there left =
      ap (λ x. content_past registry d x p m b) is ∙ content_shape registry d p m b s ∙ goes p m b there left
