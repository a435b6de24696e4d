-- Skipping a value, format by format.
use Rattle.bcs_decode_spec.proofs.Prelude.{◌≡◌, ℕ, zero, suc, ◌+◌, ◌<◌, ◌≤◌, List, length, Ok, Err, refl, ap, ◌∙◌, arith, le-ltb, Width, byte_len, from_le_bytes, cast_signed, Entries, shape_of, scalar_shape, whole_shape, whole_len, IntegerKind, Unsigned, Signed, Scalar, width_of, NumberWidth, W1, W2, W4, W8, W16, Format, BadBool, TooDeep, Unsupported, Read, Parser, follow, chain, give, fail_here, node, length_here, bytes_here, text_here, flag_here, unsigned_here, signed_here, shape_here, value_here, node_here, skip, truth_here, whole_here, counted_here, text_past, bytes_past, unsupported_here, enter_here}
use Rattle.bcs_registry_model.specs.Shape as shape
use Rattle.bcs_registry_model.specs.declared.scalar.Scalar.TheVariants as scalar

pub enter_none : (d : ℕ) → d ≡ 0 → (p m : ℕ) (b : List ℕ) → enter_here d p m b ≡ Err (TooDeep, p)
unfolding enter_here fail_here
enter_none d h p m b = rw h refl

pub enter_more : (d : ℕ) → 0 < d → enter_here d ≡ node_here
unfolding enter_here
enter_more zero h = absurd (omega arith)
enter_more (suc d) h = refl

-- `node f` consumes a node, and then runs `f`
pub node_is : {A : Type 0} (f : Parser A) (p m : ℕ) (b : List ℕ) → node f p m b ≡ follow (node_here p m b) (λ _. f)
unfolding node give
node_is f p zero b = refl
node_is f p (suc m) b = refl

-- ---- values without values inside

chain_is : {A B : Type 0} (f : Parser A) (k : A → Parser B) (p m : ℕ) (b : List ℕ) → follow (f p m b) k ≡ chain f k p m b
unfolding chain
chain_is f k p m b = refl

-- mapping the unit result to unit changes nothing
pub bare : (r : Read (Unit {0})) → follow r (λ _. give tt) ≡ r
unfolding give
bare (Ok x) = refl
bare (Err e) = refl

pub counted_is : {A : Type 0} (k : ℕ → Parser A) (p m : ℕ) (b : List ℕ) → node (chain length_here k) p m b ≡ chain counted_here k p m b
unfolding node chain counted_here give
counted_is k p zero b = refl
counted_is k p (suc m) b = refl

pub dropped : {A B : Type 0} (r : Read A) (f : A → B) → follow (follow r (λ s. give (f s))) (λ n. give {A = Unit {0}} tt) ≡ follow r (λ _. give tt)
unfolding give
dropped (Ok x) f = refl
dropped (Err e) f = refl

unsigned_gone : (w : Width) (p m : ℕ) (b : List ℕ) → chain (unsigned_here w) (λ n. give {A = Unit {0}} tt) p m b ≡ follow (bytes_here (byte_len w) p m b) (λ _. give tt)
unfolding chain unsigned_here
unsigned_gone w p m b = dropped (bytes_here (byte_len w) p m b) (from_le_bytes w)

signed_gone : (w : Width) (p m : ℕ) (b : List ℕ) → chain (signed_here w) (λ n. give {A = Unit {0}} tt) p m b ≡ follow (bytes_here (byte_len w) p m b) (λ _. give tt)
unfolding chain signed_here
signed_gone w p m b = dropped (bytes_here (byte_len w) p m b) (λ s. cast_signed w (from_le_bytes w s))

width_small : (w : NumberWidth) → byte_len (width_of w) ≤ 16
width_small W1 = omega arith
width_small W2 = omega arith
width_small W4 = omega arith
width_small W8 = omega arith
width_small W16 = omega arith

pub whole_len-small : (n : IntegerKind) → whole_len n ≤ 16
whole_len-small (Unsigned w) = width_small w
whole_len-small (Signed w) = width_small w

-- a node alone is a node with 0 bytes
pub nothing_is : (p m : ℕ) (b : List ℕ) → node_here p m b ≡ whole_here 0 p m b
unfolding whole_here chain node give bytes_here
nothing_is p zero b = refl
nothing_is p (suc m) b =
    let none : p + 0 ≡ p = omega arith in
    rw (le-ltb (length b) 0 (omega arith), none) refl

-- skips a value of a format without parts
abbrev pub scalar_past : Scalar → Parser (Unit {0})
scalar_past scalar.Unit = node_here
scalar_past scalar.Bool = truth_here
scalar_past (scalar.Whole n) = whole_here (whole_len n)
scalar_past (scalar.Unsupported u) = unsupported_here
scalar_past scalar.Str = text_past
scalar_past scalar.Bytes = bytes_past

module _ (registry : Entries) (d : ℕ) where
  whole_is : (n : ℕ) (f : Parser (Unit {0})) → ((p m : ℕ) (b : List ℕ) → f p m b ≡ follow (bytes_here n p m b) (λ _. give tt)) → (p m : ℕ) (b : List ℕ) → node f p m b ≡ whole_here n p m b
  unfolding whole_here chain node give
  whole_is n f h p zero b = refl
  whole_is n f h p (suc m) b = h p m b

  pub unsigned_is : (w : Width) (p m : ℕ) (b : List ℕ) → skip registry d (shape.unsigned w) p m b ≡ whole_here (byte_len w) p m b
  unfolding value_here shape_here
  unsigned_is w p m b = whole_is (byte_len w) (chain (unsigned_here w) (λ n. give tt)) (unsigned_gone w) p m b

  signed_is : (w : Width) (p m : ℕ) (b : List ℕ) → skip registry d (shape.signed w) p m b ≡ whole_here (byte_len w) p m b
  unfolding value_here shape_here
  signed_is w p m b = whole_is (byte_len w) (chain (signed_here w) (λ n. give tt)) (signed_gone w) p m b

  pub unit_is : (p m : ℕ) (b : List ℕ) → skip registry d shape.unit p m b ≡ node_here p m b
  unfolding value_here shape_here
  unit_is p m b = refl

  -- ---- formats without parts

  pub past_whole : (n : IntegerKind) (p m : ℕ) (b : List ℕ) → skip registry d (whole_shape n) p m b ≡ whole_here (whole_len n) p m b
  past_whole (Unsigned w) p m b = unsigned_is (width_of w) p m b
  past_whole (Signed w) p m b = signed_is (width_of w) p m b

  scalar_is : (s : Scalar) (p m : ℕ) (b : List ℕ) → skip registry d (scalar_shape s) p m b ≡ scalar_past s p m b
  unfolding value_here shape_here truth_here text_past bytes_past unsupported_here
  scalar_is scalar.Unit p m b = refl
  scalar_is scalar.Bool p m b = node_is (chain (flag_here BadBool) (λ _. give tt)) p m b ∙ chain_is node_here _ p m b
  scalar_is (scalar.Whole n) p m b = past_whole n p m b
  scalar_is (scalar.Unsupported u) p m b = node_is (fail_here Unsupported) p m b ∙ chain_is node_here _ p m b
  scalar_is scalar.Str p m b = counted_is (λ n. chain (text_here n) (λ s. give tt)) p m b
  scalar_is scalar.Bytes p m b = counted_is (λ n. chain (bytes_here n) (λ _. give tt)) p m b

  pub past_scalar : (f : Format) (seen s : Scalar) → shape_of f ≡ scalar_shape seen → seen ≡ s → (p m : ℕ) (b : List ℕ) → skip registry d (shape_of f) p m b ≡ scalar_past s p m b
  past_scalar f seen s is was p m b = rw is (scalar_is seen p m b) ∙ ap (λ t. scalar_past t p m b) was
