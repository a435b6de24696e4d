-- Skipping a value that contains values, part by part.
use Rattle.bcs_decode_spec.proofs.Prelude.{◌≡◌, ℕ, zero, suc, ◌+◌, ◌-◌, ◌<◌, ◌≤◌, List, Option, Some, None, Bool, true, false, if◌then◌else◌, Ok, Err, refl, ap, ◌∙◌, arith, Shape, Shapes, Entries, Choice, Content, of, one_of, nothing, content, content_at, choice_at, container_of, Reason, BadOption, Unsupported, UnknownVariant, Read, Parser, Making, follow, chain, give, fail, fail_here, node, number_here, length_here, key_here, items_here, pairs_here, option_here, shape_here, each_here, choice_here, variant_here, content_here, named_here, value_here, skipping, node_here, skip, counted_here, flag_past, variant_past, enter_here}
use Rattle.bcs_registry_model.specs.Shape as shape
use Rattle.bcs_registry_model.specs.declared.container.Container as declared
use Rattle.bcs_decode_spec.proofs.ScalarSteps.{node_is, bare, counted_is}

-- ---- options, lists, arrays and maps

node_option : (g : Parser (Unit {0})) (p m : ℕ) (b : List ℕ) → node (option_here skipping g) p m b ≡ follow (flag_past BadOption p m b) (λ some. if some then chain g (λ _. give tt) else give tt)
unfolding node option_here flag_past chain give
node_option g p zero b = refl
node_option g p (suc m) b = refl

pub chained_bare : (g : Parser (Unit {0})) (p m : ℕ) (b : List ℕ) → chain g (λ _. give tt) p m b ≡ g p m b
unfolding chain
chained_bare g p m b = bare (g p m b)

counted_then : (k : ℕ → Parser (Unit {0})) (p m : ℕ) (b : List ℕ) (n q l : ℕ) (c : List ℕ) → counted_here p m b ≡ Ok (n, q, l, c) → chain counted_here k p m b ≡ k n q l c
unfolding chain
counted_then k p m b n q l c h = rw h refl

counted_stop : (k : ℕ → Parser (Unit {0})) (p m : ℕ) (b : List ℕ) (e : Reason × ℕ) → counted_here p m b ≡ Err e → chain counted_here k p m b ≡ Err e
unfolding chain
counted_stop k p m b e h = rw h refl

node_counted : (g : ℕ → Parser (Unit {0})) (p m : ℕ) (b : List ℕ) (n q l : ℕ) (c : List ℕ) → counted_here p m b ≡ Ok (n, q, l, c) → node (chain length_here (λ n. chain (g n) (λ _. give tt))) p m b ≡ g n q l c
node_counted g p m b n q l c h = counted_is (λ n. chain (g n) (λ _. give tt)) p m b ∙ counted_then (λ n. chain (g n) (λ _. give tt)) p m b n q l c h ∙ chained_bare (g n) q l c

node_uncounted : (g : ℕ → Parser (Unit {0})) (p m : ℕ) (b : List ℕ) (e : Reason × ℕ) → counted_here p m b ≡ Err e → node (chain length_here g) p m b ≡ Err e
node_uncounted g p m b e h = counted_is g p m b ∙ counted_stop g p m b e h

pub node_then : (g : Parser (Unit {0})) (p m : ℕ) (b : List ℕ) (q l : ℕ) (c : List ℕ) → node_here p m b ≡ Ok (tt, q, l, c) → node (chain g (λ _. give tt)) p m b ≡ g q l c
node_then g p m b q l c h = node_is (chain g (λ _. give tt)) p m b ∙ ap (λ (r : Read (Unit {0})). follow r (λ _. chain g (λ _. give tt))) h ∙ chained_bare g q l c

node_stop : {A : Type 0} (g : Parser A) (p m : ℕ) (b : List ℕ) (e : Reason × ℕ) → node_here p m b ≡ Err e → node g p m b ≡ Err e
node_stop g p m b e h = node_is g p m b ∙ ap (λ (r : Read (Unit {0})). follow r (λ _. g)) h

module _ (registry : Entries) (d p m : ℕ) (b : List ℕ) where
  module _ (s : Shape) where
    option_is : skip registry d (shape.option s) p m b ≡ follow (flag_past BadOption p m b) (λ some. if some then chain (skip registry d s) (λ _. give tt) else give tt)
    unfolding value_here shape_here
    option_is = node_option (skip registry d s) p m b

    pub option_stop : (e : Reason × ℕ) → flag_past BadOption p m b ≡ Err e → skip registry d (shape.option s) p m b ≡ Err e
    option_stop e h = option_is ∙ rw h refl

    pub option_some : (some : Bool) (q l : ℕ) (c : List ℕ) → flag_past BadOption p m b ≡ Ok (some, q, l, c) → some ≡ true → skip registry d (shape.option s) p m b ≡ skip registry d s q l c
    option_some some q l c h is = option_is ∙ rw (h, is) (chained_bare (skip registry d s) q l c)

    pub option_none : (some : Bool) (q l : ℕ) (c : List ℕ) → flag_past BadOption p m b ≡ Ok (some, q, l, c) → some ≡ false → skip registry d (shape.option s) p m b ≡ Ok (tt, q, l, c)
    unfolding give
    option_none some q l c h is = option_is ∙ rw (h, is) refl

    pub list_stop : (e : Reason × ℕ) → counted_here p m b ≡ Err e → skip registry d (shape.seq s) p m b ≡ Err e
    unfolding value_here shape_here
    list_stop e h = node_uncounted (λ n. chain (items_here skipping (skip registry d s) n) (λ _. give tt)) p m b e h

    pub list_on : (n q l : ℕ) (c : List ℕ) → counted_here p m b ≡ Ok (n, q, l, c) → skip registry d (shape.seq s) p m b ≡ items_here skipping (skip registry d s) n q l c
    unfolding value_here shape_here
    list_on n q l c h = node_counted (items_here skipping (skip registry d s)) p m b n q l c h

    pub array_stop : (n : ℕ) (e : Reason × ℕ) → node_here p m b ≡ Err e → skip registry d (shape.array s n) p m b ≡ Err e
    unfolding value_here shape_here
    array_stop n e h = node_stop (chain (items_here skipping (skip registry d s) n) (λ _. give tt)) p m b e h

    pub array_on : (n q l : ℕ) (c : List ℕ) → node_here p m b ≡ Ok (tt, q, l, c) → skip registry d (shape.array s n) p m b ≡ items_here skipping (skip registry d s) n q l c
    unfolding value_here shape_here
    array_on n q l c h = node_then (items_here skipping (skip registry d s) n) p m b q l c h

  module _ (k v : Shape) where
    pub map_stop : (e : Reason × ℕ) → counted_here p m b ≡ Err e → skip registry d (shape.map k v) p m b ≡ Err e
    unfolding value_here shape_here
    map_stop e h = node_uncounted (λ n. chain (pairs_here skipping (skip registry d k) (skip registry d v) None n) (λ _. give tt)) p m b e h

    pub map_on : (n q l : ℕ) (c : List ℕ) → counted_here p m b ≡ Ok (n, q, l, c) → skip registry d (shape.map k v) p m b ≡ pairs_here skipping (skip registry d k) (skip registry d v) None n q l c
    unfolding value_here shape_here
    map_on n q l c h = node_counted (pairs_here skipping (skip registry d k) (skip registry d v) None) p m b n q l c h

-- ---- sequences of values

module _ (f : Parser (Unit {0})) (n i p m : ℕ) (b : List ℕ) where
  items_step : i < n → items_here skipping f (n - i) ≡ chain f (λ t. chain (items_here skipping f (n - (i + 1))) (λ ts. give tt))
  unfolding items_here
  items_step lt = let k : n - i ≡ suc (n - (i + 1)) = omega arith in rw k refl

  pub items_end : n ≤ i → items_here skipping f (n - i) p m b ≡ Ok (tt, p, m, b)
  unfolding items_here give
  items_end le = let k : n - i ≡ 0 = omega arith in rw k refl

  pub items_stop : (e : Reason × ℕ) → i < n → f p m b ≡ Err e → items_here skipping f (n - i) p m b ≡ Err e
  unfolding chain
  items_stop e lt h = rw (items_step lt, h) refl

  pub items_on : (q l : ℕ) (c : List ℕ) → i < n → f p m b ≡ Ok (tt, q, l, c) → items_here skipping f (n - i) p m b ≡ items_here skipping f (n - (i + 1)) q l c
  unfolding chain
  items_on q l c lt h = rw (items_step lt, h) (bare (items_here skipping f (n - (i + 1)) q l c))

module _ (f g : Parser (Unit {0})) (last : Option (List ℕ)) (n i p m : ℕ) (b : List ℕ) where
  pairs_step : i < n → pairs_here skipping f g last (n - i) ≡ chain (key_here f last) (λ a. chain g (λ x. chain (pairs_here skipping f g (Some a.1) (n - (i + 1))) (λ ps. give tt)))
  unfolding pairs_here
  pairs_step lt = let k : n - i ≡ suc (n - (i + 1)) = omega arith in rw k refl

  pub pairs_end : n ≤ i → pairs_here skipping f g last (n - i) p m b ≡ Ok (tt, p, m, b)
  unfolding pairs_here give
  pairs_end le = let k : n - i ≡ 0 = omega arith in rw k refl

  pub pairs_stop_key : (e : Reason × ℕ) → i < n → key_here f last p m b ≡ Err e → pairs_here skipping f g last (n - i) p m b ≡ Err e
  unfolding chain
  pairs_stop_key e lt h = rw (pairs_step lt, h) refl

  pub pairs_stop_value : (key : List ℕ) (q l : ℕ) (c : List ℕ) (e : Reason × ℕ) → i < n → key_here f last p m b ≡ Ok ((tt, key), q, l, c) → g q l c ≡ Err e → pairs_here skipping f g last (n - i) p m b ≡ Err e
  unfolding chain
  pairs_stop_value key q l c e lt h j = rw (pairs_step lt, h, j) refl

  pub pairs_on : (key : List ℕ) (q l : ℕ) (c : List ℕ) (r k : ℕ) (d : List ℕ) → i < n → key_here f last p m b ≡ Ok ((tt, key), q, l, c) → g q l c ≡ Ok (tt, r, k, d)
      → pairs_here skipping f g last (n - i) p m b ≡ pairs_here skipping f g (Some key) (n - (i + 1)) r k d
  unfolding chain
  pairs_on key q l c r k d lt h j = rw (pairs_step lt, h, j) (bare (pairs_here skipping f g (Some key) (n - (i + 1)) r k d))

-- if two parsers agree on every value, they agree on sequences of them
module _ {V : Type 0} {R : Type 0} {E : Type 0} (make : Making V R E) (f g : Parser V) where
  tail_same : (n : ℕ) → ((p m : ℕ) (b : List ℕ) → items_here make f n p m b ≡ items_here make g n p m b)
      → (r : Read V) → follow r (λ t. chain (items_here make f n) (λ ts. give (make.item t ts))) ≡ follow r (λ t. chain (items_here make g n) (λ ts. give (make.item t ts)))
  unfolding chain
  tail_same n same (Ok x) = ap (λ r. follow r (λ ts. give (make.item x.0 ts))) (same x.1 x.2 x.3)
  tail_same n same (Err e) = refl

  pub items_same : ((p m : ℕ) (b : List ℕ) → f p m b ≡ g p m b) → (n p m : ℕ) (b : List ℕ) → items_here make f n p m b ≡ items_here make g n p m b
  unfolding items_here chain
  items_same same zero p m b = refl
  items_same same (suc n) p m b =
      ap (λ r. follow r (λ t. chain (items_here make f n) (λ ts. give (make.item t ts)))) (same p m b)
      ∙ tail_same n (λ q l c. items_same same n q l c) (g p m b)

-- ---- tuples

module _ (registry : Entries) (d : ℕ) where
  abbrev pub each : Shapes → Parser (Unit {0})
  each ss = each_here skipping (named_here skipping registry d) ss

  module _ (p m : ℕ) (b : List ℕ) where
    pub tuple_stop : (ss : Shapes) (e : Reason × ℕ) → node_here p m b ≡ Err e → skip registry d (shape.tuple ss) p m b ≡ Err e
    unfolding value_here shape_here
    tuple_stop ss e h = node_stop (chain (each ss) (λ ts. give tt)) p m b e h

    pub tuple_on : (ss : Shapes) (q l : ℕ) (c : List ℕ) → node_here p m b ≡ Ok (tt, q, l, c) → skip registry d (shape.tuple ss) p m b ≡ each ss q l c
    unfolding value_here shape_here
    tuple_on ss q l c h = node_then (each ss) p m b q l c h

    pub each_end : each shape.no_shapes p m b ≡ Ok (tt, p, m, b)
    unfolding each_here give
    each_end = refl

    pub each_stop : (all : Shapes) (s : Shape) (ss : Shapes) (e : Reason × ℕ) → all ≡ shape.shape s ss → skip registry d s p m b ≡ Err e → each all p m b ≡ Err e
    unfolding value_here each_here chain
    each_stop all s ss e is h = rw (is, h) refl

    pub each_on : (all : Shapes) (s : Shape) (ss : Shapes) (q l : ℕ) (c : List ℕ) → all ≡ shape.shape s ss → skip registry d s p m b ≡ Ok (tt, q, l, c) → each all p m b ≡ each ss q l c
    unfolding value_here each_here chain
    each_on all s ss q l c is h = rw (is, h) (bare (each ss q l c))

-- ---- names

abbrev pub content_past : Entries → ℕ → Content → Parser (Unit {0})
content_past registry d c = content_here skipping (named_here skipping registry d) c

module _ (registry : Entries) (name : List ℕ) (p m : ℕ) (b : List ℕ) where
  pub named_stop : (d : ℕ) (e : Reason × ℕ) → enter_here d p m b ≡ Err e → skip registry d (shape.name name) p m b ≡ Err e
  unfolding value_here shape_here named_here enter_here
  named_stop zero e h = h
  named_stop (suc d) e h = node_stop _ p m b e h

  pub named_on : (d : ℕ) (q l : ℕ) (c : List ℕ) → 0 < d → enter_here d p m b ≡ Ok (tt, q, l, c) → skip registry d (shape.name name) p m b ≡ content_past registry (d - 1) (content_at name registry) q l c
  unfolding value_here shape_here named_here enter_here
  named_on zero q l c lt h = absurd (omega arith)
  named_on (suc d) q l c lt h = let k : suc d - 1 ≡ d = omega arith in rw k (node_then (content_past registry d (content_at name registry)) p m b q l c h)

-- if the container opens and is found, its contents come next
pub named_past : (registry : Entries) (name : List ℕ) (p m : ℕ) (b : List ℕ) (d q l : ℕ) (c : List ℕ) (k : declared.Container)
    → 0 < d → enter_here d p m b ≡ Ok (tt, q, l, c) → content_at name registry ≡ content (container_of k)
    → skip registry d (shape.name name) p m b ≡ content_past registry (d - 1) (content (container_of k)) q l c
named_past registry name p m b d q l c k lt h is =
    named_on registry name p m b d q l c lt h ∙ ap (λ (y : Content). content_past registry (d - 1) y q l c) is

-- ---- variants

variant_after : (registry : Entries) (d : ℕ) (cs : List Choice) (start : ℕ) (r : Read ℕ) → follow {B = Unit {0}} r (λ n. chain (choice_here skipping (named_here skipping registry d) start (choice_at n cs)) (λ _. give {A = Unit {0}} tt))
    ≡ follow {B = Unit {0}} (follow r (λ n. give {A = ℕ × ℕ} (start, n))) (λ x. chain (choice_here skipping (named_here skipping registry d) x.0 (choice_at x.1 cs)) (λ _. give {A = Unit {0}} tt))
unfolding give
variant_after registry d cs start (Ok x) = refl
variant_after registry d cs start (Err e) = refl

node_variants : (registry : Entries) (d : ℕ) (cs : List Choice) (p m : ℕ) (b : List ℕ)
    → node (variant_here skipping (named_here skipping registry d) cs) p m b ≡ follow (variant_past p m b) (λ x. chain (choice_here skipping (named_here skipping registry d) x.0 (choice_at x.1 cs)) (λ _. give tt))
unfolding node variant_here variant_past chain give
node_variants registry d cs p zero b = refl
node_variants registry d cs p (suc m) b = variant_after registry d cs p (number_here p m b)

module _ (registry : Entries) (d : ℕ) (p m : ℕ) (b : List ℕ) where
  pub content_shape : (s : Shape) → content_past registry d (of s) p m b ≡ skip registry d s p m b
  unfolding content_here value_here
  content_shape s = refl

  pub content_nothing : content_past registry d nothing p m b ≡ Err (Unsupported, p)
  unfolding content_here fail_here
  content_nothing = refl

  pub variant_is : (cs : List Choice) → content_past registry d (one_of cs) p m b ≡ follow (variant_past p m b) (λ x. chain (choice_here skipping (named_here skipping registry d) x.0 (choice_at x.1 cs)) (λ _. give tt))
  unfolding content_here
  variant_is cs = node_variants registry d cs p m b

  pub variant_stop : (cs : List Choice) (e : Reason × ℕ) → variant_past p m b ≡ Err e → content_past registry d (one_of cs) p m b ≡ Err e
  variant_stop cs e h = variant_is cs ∙ rw h refl

  pub variant_unknown : (cs : List Choice) (start n q l : ℕ) (c : List ℕ) → variant_past p m b ≡ Ok ((start, n), q, l, c) → choice_at n cs ≡ nothing → content_past registry d (one_of cs) p m b ≡ Err (UnknownVariant, start)
  unfolding chain choice_here fail
  variant_unknown cs start n q l c h is = variant_is cs ∙ rw (h, is) refl

  pub variant_on : (cs : List Choice) (start n q l : ℕ) (c : List ℕ) (s : Shape) → variant_past p m b ≡ Ok ((start, n), q, l, c) → choice_at n cs ≡ of s → content_past registry d (one_of cs) p m b ≡ skip registry d s q l c
  unfolding chain choice_here value_here
  variant_on cs start n q l c s h is = variant_is cs ∙ rw (h, is) (bare (skip registry d s q l c))
