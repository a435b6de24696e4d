-- Reading is the same whatever is built: a homomorphism between results, for example from trees to nothing.
use Rattle.bcs_decode_spec.proofs.Prelude.{◌≡◌, ℕ, zero, suc, ◌-◌, Bool, true, false, if◌then◌else◌, ℤ, List, take, Option, Some, None, Ok, Err, refl, sym, ap, ◌∙◌, Shape, Shapes, no_shapes, shape, Entries, Content, of, one_of, nothing, Choice, content_at, choice_at, Bounds, Reason, BadBool, BadOption, Unsupported, Read, Parser, follow, chain, give, fail, fail_here, node, number_here, length_here, bytes_here, text_here, flag_here, unsigned_here, signed_here, key_after, key_here, Making, items_here, pairs_here, option_here, shape_here, each_here, choice_here, variant_here, content_here, named_here, value_here, building, skipping, read_value, skip_value}
use Rattle.bcs_registry_model.specs.Shape as shape

abbrev pub mapped : {A B : Type 0} → (A → B) → Read A → Read B
mapped f (Ok x) = Ok (f x.0, x.1, x.2, x.3)
mapped f (Err e) = Err e

-- the second parser is the first one with f applied to its result
abbrev pub IsMapped : {A B : Type 0} → (A → B) → Parser A → Parser B → Type 0
IsMapped f p q = (i m : ℕ) (b : List ℕ) → q i m b ≡ mapped f (p i m b)

-- ---- one parser after another

mapped_follow : {A A2 B B2 : Type 0} (f : A → A2) (g : B → B2) (r : Read A) (k : A → Parser B) (l : A2 → Parser B2)
    → ((x : A) → IsMapped g (k x) (l (f x))) → follow (mapped f r) l ≡ mapped g (follow r k)
mapped_follow f g (Ok x) k l h = h x.0 x.1 x.2 x.3
mapped_follow f g (Err e) k l h = refl

mapped_then : {A A2 B B2 : Type 0} (f : A → A2) (g : B → B2) (p : Parser A) (q : Parser A2) (k : A → Parser B) (l : A2 → Parser B2) → IsMapped f p q
    → ((x : A) → IsMapped g (k x) (l (f x))) → IsMapped g (chain p k) (chain q l)
unfolding chain
mapped_then f g p q k l h next i m b = ap (λ r. follow r l) (h i m b) ∙ mapped_follow f g (p i m b) k l next

mapped_itself : {A : Type 0} (p : Parser A) → IsMapped (λ x. x) p p
mapped_itself {A} p i m b = at (p i m b)
  where
    at : (r : Read A) → r ≡ mapped (λ x. x) r
    at (Ok x) = refl
    at (Err e) = refl

mapped_after : {A B B2 : Type 0} (g : B → B2) (p : Parser A) (k : A → Parser B) (l : A → Parser B2) → ((x : A) → IsMapped g (k x) (l x))
    → IsMapped g (chain p k) (chain p l)
mapped_after g p k l next = mapped_then (λ x. x) g p p k l (mapped_itself p) next

mapped_give : {A B : Type 0} (f : A → B) (x : A) (y : B) → f x ≡ y → IsMapped f (give x) (give y)
unfolding give
mapped_give f x y e i m b = ap (λ z. Ok (z, i, m, b)) (sym e)

mapped_node : {A B : Type 0} (f : A → B) (p : Parser A) (q : Parser B) → IsMapped f p q → IsMapped f (node p) (node q)
unfolding node
mapped_node f p q h i zero b = refl
mapped_node f p q h i (suc m) b = h i m b

-- ---- building results

-- f, g and h map the results of make to those of remake
pub record Leads {V R E V' R' E' : Type 0} (make : Making V R E) (remake : Making V' R' E') (f : V → V') (g : R → R') (h : E → E') : Type 0 where
  pub unit_is : f make.unit ≡ remake.unit
  pub truth_is : (x : Bool) → f (make.truth x) ≡ remake.truth x
  pub unsigned_is : (x : ℕ) → f (make.unsigned x) ≡ remake.unsigned x
  pub signed_is : (x : ℤ) → f (make.signed x) ≡ remake.signed x
  pub text_is : (x : List ℕ) → f (make.text x) ≡ remake.text x
  pub bytes_is : (x : List ℕ) → f (make.bytes x) ≡ remake.bytes x
  pub absent_is : f make.absent ≡ remake.absent
  pub present_is : (x : V) → f (make.present x) ≡ remake.present (f x)
  pub items_is : (x : R) → f (make.items x) ≡ remake.items (g x)
  pub variant_is : (n : ℕ) (x : V) → f (make.variant n x) ≡ remake.variant n (f x)
  pub pairs_is : (x : E) → f (make.pairs x) ≡ remake.pairs (h x)
  pub named_is : (x : V) → f (make.named x) ≡ remake.named (f x)
  pub no_items_is : g make.no_items ≡ remake.no_items
  pub item_is : (x : V) (y : R) → g (make.item x y) ≡ remake.item (f x) (g y)
  pub no_entries_is : h make.no_entries ≡ remake.no_entries
  pub entry_is : (x y : V) (z : E) → h (make.entry x y z) ≡ remake.entry (f x) (f y) (h z)

module _ {V R E V' R' E' : Type 0} (make : Making V R E) (remake : Making V' R' E') (f : V → V') (g : R → R') (h : E → E') (leads : Leads make remake f g h) where
  mapped_items : (p : Parser V) (q : Parser V') → IsMapped f p q → (n : ℕ) → IsMapped g (items_here make p n) (items_here remake q n)
  unfolding items_here
  mapped_items p q k zero = mapped_give g make.no_items remake.no_items leads.no_items_is
  mapped_items p q k (suc n) =
      mapped_then f g p q (λ t. chain (items_here make p n) (λ ts. give (make.item t ts))) (λ t. chain (items_here remake q n) (λ ts. give (remake.item t ts))) k
      (λ t. mapped_then g g (items_here make p n) (items_here remake q n) (λ ts. give (make.item t ts)) (λ ts. give (remake.item (f t) ts)) (mapped_items p q k n)
      (λ ts. mapped_give g (make.item t ts) (remake.item (f t) (g ts)) (leads.item_is t ts)))

  abbrev keyed : V × List ℕ → V' × List ℕ
  keyed a = (f a.0, a.1)

  mapped_key : (p : Parser V) (q : Parser V') → IsMapped f p q → (last : Option (List ℕ)) → IsMapped keyed (key_here p last) (key_here q last)
  unfolding key_here give
  mapped_key p q k last i m b =
      ap (λ r. follow r (λ a j l c. follow (key_after last (take (j - i) b) i j l c) (λ _. give {A = V' × List ℕ} (a, take (j - i) b)))) (k i m b) ∙ at (p i m b)
    where
      after : (x : V) (key : List ℕ) (r : Read (Unit {0}))
          → follow r (λ _. give {A = V' × List ℕ} (f x, key)) ≡ mapped keyed (follow r (λ _. give {A = V × List ℕ} (x, key)))
      after x key (Ok y) = refl
      after x key (Err e) = refl

      at : (r : Read V)
          → follow (mapped f r) (λ a j l c. follow (key_after last (take (j - i) b) i j l c) (λ _. give {A = V' × List ℕ} (a, take (j - i) b)))
          ≡ mapped keyed (follow r (λ a j l c. follow (key_after last (take (j - i) b) i j l c) (λ _. give {A = V × List ℕ} (a, take (j - i) b))))
      at (Ok x) = after x.0 (take (x.1 - i) b) (key_after last (take (x.1 - i) b) i x.1 x.2 x.3)
      at (Err e) = refl

  mapped_pairs : (p v : Parser V) (q w : Parser V') → IsMapped f p q → IsMapped f v w → (n : ℕ) (last : Option (List ℕ))
      → IsMapped h (pairs_here make p v last n) (pairs_here remake q w last n)
  unfolding pairs_here
  mapped_pairs p v q w k l zero last = mapped_give h make.no_entries remake.no_entries leads.no_entries_is
  mapped_pairs p v q w k l (suc n) last =
      mapped_then keyed h (key_here p last) (key_here q last)
      (λ a. chain v (λ x. chain (pairs_here make p v (Some a.1) n) (λ ps. give (make.entry a.0 x ps))))
      (λ a. chain w (λ x. chain (pairs_here remake q w (Some a.1) n) (λ ps. give (remake.entry a.0 x ps)))) (mapped_key p q k last)
      (λ a. mapped_then f h v w
      (λ x. chain (pairs_here make p v (Some a.1) n) (λ ps. give (make.entry a.0 x ps)))
      (λ x. chain (pairs_here remake q w (Some a.1) n) (λ ps. give (remake.entry (f a.0) x ps))) l
      (λ x. mapped_then h h (pairs_here make p v (Some a.1) n) (pairs_here remake q w (Some a.1) n) (λ ps. give (make.entry a.0 x ps)) (λ ps. give (remake.entry (f a.0) (f x) ps)) (mapped_pairs p v q w k l n (Some a.1))
      (λ ps. mapped_give h (make.entry a.0 x ps) (remake.entry (f a.0) (f x) (h ps)) (leads.entry_is a.0 x ps))))

  mapped_option : (p : Parser V) (q : Parser V') → IsMapped f p q → IsMapped f (option_here make p) (option_here remake q)
  unfolding option_here
  mapped_option p q k =
      mapped_after f (flag_here BadOption) (λ some. if some then chain p (λ t. give (make.present t)) else give make.absent) (λ some. if some then chain q (λ t. give (remake.present t)) else give remake.absent) at
    where
      at : (some : Bool)
          → IsMapped f (if some then chain p (λ t. give (make.present t)) else give make.absent) (if some then chain q (λ t. give (remake.present t)) else give remake.absent)
      at true =
          mapped_then f f p q (λ t. give (make.present t)) (λ t. give (remake.present t)) k (λ t. mapped_give f (make.present t) (remake.present (f t)) (leads.present_is t))
      at false = mapped_give f make.absent remake.absent leads.absent_is

  -- a value without parts
  made : {A : Type 0} (p : Parser A) (mk : A → V) (mk2 : A → V') → ((x : A) → f (mk x) ≡ mk2 x)
      → IsMapped f (node (chain p (λ x. give (mk x)))) (node (chain p (λ x. give (mk2 x))))
  made p mk mk2 k =
      mapped_node f (chain p (λ x. give (mk x))) (chain p (λ x. give (mk2 x))) (mapped_after f p (λ x. give (mk x)) (λ x. give (mk2 x)) (λ x. mapped_give f (mk x) (mk2 x) (k x)))

  -- something after its length
  counted : {A : Type 0} {A2 : Type 0} (k : A → A2) (p : ℕ → Parser A) (q : ℕ → Parser A2) (mk : A → V) (mk2 : A2 → V')
      → ((n : ℕ) → IsMapped k (p n) (q n)) → ((x : A) → f (mk x) ≡ mk2 (k x))
      → IsMapped f (node (chain length_here (λ n. chain (p n) (λ x. give (mk x))))) (node (chain length_here (λ n. chain (q n) (λ x. give (mk2 x)))))
  counted k p q mk mk2 parts is =
      mapped_node f (chain length_here (λ n. chain (p n) (λ x. give (mk x)))) (chain length_here (λ n. chain (q n) (λ x. give (mk2 x))))
      (mapped_after f length_here (λ n. chain (p n) (λ x. give (mk x))) (λ n. chain (q n) (λ x. give (mk2 x)))
      (λ n. mapped_then k f (p n) (q n) (λ x. give (mk x)) (λ x. give (mk2 x)) (parts n) (λ x. mapped_give f (mk x) (mk2 (k x)) (is x))))

  -- lists of values
  row : (p : Parser R) (q : Parser R') → IsMapped g p q
      → IsMapped f (node (chain p (λ ts. give (make.items ts)))) (node (chain q (λ ts. give (remake.items ts))))
  row p q k =
      mapped_node f (chain p (λ ts. give (make.items ts))) (chain q (λ ts. give (remake.items ts)))
      (mapped_then g f p q (λ ts. give (make.items ts)) (λ ts. give (remake.items ts)) k (λ ts. mapped_give f (make.items ts) (remake.items (g ts)) (leads.items_is ts)))

  nothing_read : (e : Reason) → IsMapped f (fail_here e) (fail_here e)
  unfolding fail_here
  nothing_read e i m b = refl

  module _ (r : List ℕ → Parser V) (s : List ℕ → Parser V') (names : (n : List ℕ) → IsMapped f (r n) (s n)) where
    mutual
      unfolding shape_here

      pub mapped_shape : (x : Shape) → IsMapped f (shape_here make r x) (shape_here remake s x)
      mapped_shape shape.unit = mapped_node f (give make.unit) (give remake.unit) (mapped_give f make.unit remake.unit leads.unit_is)
      mapped_shape shape.truth = made (flag_here BadBool) make.truth remake.truth leads.truth_is
      mapped_shape (shape.unsigned w) = made (unsigned_here w) make.unsigned remake.unsigned leads.unsigned_is
      mapped_shape (shape.signed w) = made (signed_here w) make.signed remake.signed leads.signed_is
      mapped_shape (shape.unsupported u) = mapped_node f (fail_here Unsupported) (fail_here Unsupported) (nothing_read Unsupported)
      mapped_shape shape.text = counted (λ x. x) text_here text_here make.text remake.text (λ n. mapped_itself (text_here n)) leads.text_is
      mapped_shape shape.bytes = counted (λ x. x) bytes_here bytes_here make.bytes remake.bytes (λ n. mapped_itself (bytes_here n)) leads.bytes_is
      mapped_shape (shape.name n) = names n
      mapped_shape (shape.option x) =
          mapped_node f (option_here make (shape_here make r x)) (option_here remake (shape_here remake s x)) (mapped_option (shape_here make r x) (shape_here remake s x) (mapped_shape x))
      mapped_shape (shape.seq x) =
          counted g (items_here make (shape_here make r x)) (items_here remake (shape_here remake s x)) make.items remake.items (mapped_items (shape_here make r x) (shape_here remake s x) (mapped_shape x)) leads.items_is
      mapped_shape (shape.map k v) =
          counted h (pairs_here make (shape_here make r k) (shape_here make r v) None) (pairs_here remake (shape_here remake s k) (shape_here remake s v) None) make.pairs remake.pairs
          (λ n. mapped_pairs (shape_here make r k) (shape_here make r v) (shape_here remake s k) (shape_here remake s v) (mapped_shape k) (mapped_shape v) n None) leads.pairs_is
      mapped_shape (shape.tuple xs) = row (each_here make r xs) (each_here remake s xs) (mapped_each xs)
      mapped_shape (shape.array x n) =
          row (items_here make (shape_here make r x) n) (items_here remake (shape_here remake s x) n) (mapped_items (shape_here make r x) (shape_here remake s x) (mapped_shape x) n)

      mapped_each : (xs : Shapes) → IsMapped g (each_here make r xs) (each_here remake s xs)
      mapped_each no_shapes = mapped_give g make.no_items remake.no_items leads.no_items_is
      mapped_each (shape x xs) =
          mapped_then f g (shape_here make r x) (shape_here remake s x) (λ t. chain (each_here make r xs) (λ ts. give (make.item t ts))) (λ t. chain (each_here remake s xs) (λ ts. give (remake.item t ts))) (mapped_shape x)
          (λ t. mapped_then g g (each_here make r xs) (each_here remake s xs) (λ ts. give (make.item t ts)) (λ ts. give (remake.item (f t) ts)) (mapped_each xs)
          (λ ts. mapped_give g (make.item t ts) (remake.item (f t) (g ts)) (leads.item_is t ts)))

    mapped_choice : (start : ℕ) (c : Content) → IsMapped f (choice_here make r start c) (choice_here remake s start c)
    unfolding choice_here fail
    mapped_choice start (of x) = mapped_shape x
    mapped_choice start (one_of cs) = λ i m b. refl
    mapped_choice start nothing = λ i m b. refl

    mapped_variant : (cs : List Choice) → IsMapped f (variant_here make r cs) (variant_here remake s cs)
    unfolding variant_here
    mapped_variant cs i =
        mapped_after f number_here (λ n. chain (choice_here make r i (choice_at n cs)) (λ t. give (make.variant n t))) (λ n. chain (choice_here remake s i (choice_at n cs)) (λ t. give (remake.variant n t)))
        (λ n. mapped_then f f (choice_here make r i (choice_at n cs)) (choice_here remake s i (choice_at n cs)) (λ t. give (make.variant n t)) (λ t. give (remake.variant n t)) (mapped_choice i (choice_at n cs))
        (λ t. mapped_give f (make.variant n t) (remake.variant n (f t)) (leads.variant_is n t))) i

    pub mapped_content : (c : Content) → IsMapped f (content_here make r c) (content_here remake s c)
    unfolding content_here fail_here
    mapped_content (of x) = mapped_shape x
    mapped_content (one_of cs) = mapped_node f (variant_here make r cs) (variant_here remake s cs) (mapped_variant cs)
    mapped_content nothing = λ i m b. refl

  pub mapped_named : (registry : Entries) (d : ℕ) (name : List ℕ) → IsMapped f (named_here make registry d name) (named_here remake registry d name)
  unfolding named_here fail_here
  mapped_named registry zero name = λ i m b. refl
  mapped_named registry (suc d) name =
      mapped_node f (chain (content_here make (named_here make registry d) (content_at name registry)) (λ t. give (make.named t))) (chain (content_here remake (named_here remake registry d) (content_at name registry)) (λ t. give (remake.named t)))
      (mapped_then f f (content_here make (named_here make registry d) (content_at name registry)) (content_here remake (named_here remake registry d) (content_at name registry)) (λ t. give (make.named t)) (λ t. give (remake.named t))
      (mapped_content (named_here make registry d) (named_here remake registry d) (mapped_named registry d) (content_at name registry))
      (λ t. mapped_give f (make.named t) (remake.named (f t)) (leads.named_is t)))

  pub mapped_value : (registry : Entries) (d : ℕ) (x : Shape) → IsMapped f (value_here make registry d x) (value_here remake registry d x)
  unfolding value_here
  mapped_value registry d x = mapped_shape (named_here make registry d) (named_here remake registry d) (mapped_named registry d) x

-- ---- from the tree to nothing

abbrev pub forget : {A : Type 0} → A → Unit {0}
forget x = tt

pub forgets : Leads building skipping forget forget forget
forgets = record {
  unit_is = refl;
  truth_is = λ x. refl;
  unsigned_is = λ x. refl;
  signed_is = λ x. refl;
  text_is = λ x. refl;
  bytes_is = λ x. refl;
  absent_is = refl;
  present_is = λ x. refl;
  items_is = λ x. refl;
  variant_is = λ n x. refl;
  pairs_is = λ x. refl;
  named_is = λ x. refl;
  no_items_is = refl;
  item_is = λ x y. refl;
  no_entries_is = refl;
  entry_is = λ x y z. refl;
}

-- skipping a value is reading it and dropping the result
pub skip_is_read : (registry : Entries) (limits : Bounds) (s : Shape) (b : List ℕ)
    → skip_value registry limits s b ≡ mapped forget (read_value registry limits s b)
skip_is_read registry limits s b = mapped_value building skipping forget forget forget forgets registry limits.depth s 0 limits.nodes b
