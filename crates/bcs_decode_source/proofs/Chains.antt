-- Parsers, in the steps in which a source is read.
use Rattle.bcs_decode_source.proofs.Prelude.{◌≡◌, ℕ, zero, suc, ◌+◌, ◌-◌, ◌*◌, ◌<◌, ◌≤◌, ◌==◌, nat_lt, ◌&&◌, Bool, true, false, if◌then◌else◌, List, [], ◌∷◌, length, Result, Ok, Err, refl, ◌∙◌, arith, ◌⊎◌, inl, inr, le-ltb, lt-ltb, and_left, and_right, ne_eqb, false_from_ne_true, IsUtf8-from_is_utf8, is_utf8-from_IsUtf8, is_utf8, utf8_valid_len, NumFault, Reason, LongForm, NumberTooLarge, BadUtf8, Parser, follow, chain, give, fail, shifted, uleb_from, number_read, number_here, bytes_here, flag_here, text_here, node, node_here, byte_here, tail_read, tail_here}
use Rattle.std.specs.Str.{IsUtf8}
use Rattle.bcs_num.specs.declared.fault.NumFault.TheVariants as num

number_same : (p m : ℕ) (b : List ℕ) (r : Result (ℕ × ℕ) NumFault) → number_read p m b r ≡ tail_read p p m b r
number_same p m b (Ok x) = refl
number_same p m b (Err num.EndOfInput) = refl
number_same p m b (Err num.LongForm) = refl
number_same p m b (Err num.NumberTooLarge) = refl

pub number_is : (p m : ℕ) (b : List ℕ) → number_here p m b ≡ tail_here p 0 p m b
unfolding number_here tail_here
number_is p m b = number_same p m b (uleb_from 0 b)

abbrev pub tail_rest : ℕ → ℕ → ℕ → Parser ℕ
tail_rest start i x = if (i == 4) && nat_lt 15 x then fail NumberTooLarge start
    else (if nat_lt x 128 then (if (x == 0) && nat_lt 0 i then fail LongForm start else give x)
    else chain (tail_here start (i + 1)) (λ high. give ((x - 128) + high * 128)))

shifted_read : (start p m low x : ℕ) (b : List ℕ) (r : Result (ℕ × ℕ) NumFault) → tail_read start p m (x ∷ b) (shifted low 128 1 r) ≡ follow (tail_read start (p + 1) m b r) (λ high. give (low + high * 128))
unfolding give
shifted_read start p m low x b (Ok y) =
    let far : p + (1 + y.1) ≡ p + 1 + y.1 = omega arith in
    let one : 1 + y.1 ≡ suc y.1 = omega arith in
    rw (far, one) refl
shifted_read start p m low x b (Err num.EndOfInput) = let far : p + length (x ∷ b) ≡ p + 1 + length b = omega arith in rw far refl
shifted_read start p m low x b (Err num.LongForm) = refl
shifted_read start p m low x b (Err num.NumberTooLarge) = refl

tail_more : (start i p m x : ℕ) (b : List ℕ) (large small long : Bool)
    → tail_read start p m (x ∷ b) (if large then Err num.NumberTooLarge else (if small then (if long then Err num.LongForm else Ok (x, 1)) else shifted (x - 128) 128 1 (uleb_from (suc i) b)))
    ≡ (if large then fail NumberTooLarge start else (if small then (if long then fail LongForm start else give x) else chain (tail_here start (i + 1)) (λ high. give ((x - 128) + high * 128)))) (p + 1) m b
unfolding fail give chain tail_here
tail_more start i p m x b true small long = refl
tail_more start i p m x b false true true = refl
tail_more start i p m x b false true false = refl
tail_more start i p m x b false false long =
    let next : i + 1 ≡ suc i = omega arith in
    rw next (shifted_read start p m (x - 128) x b (uleb_from (suc i) b))

pub tail_step : (start i p m : ℕ) (b : List ℕ) → tail_here start i p m b ≡ follow (byte_here p m b) (λ x. tail_rest start i x)
unfolding tail_here byte_here bytes_here chain give
tail_step start i p m [] = refl
tail_step start i p m (x ∷ b) =
    let long = le-ltb (length (x ∷ b)) 1 (omega arith) in
    rw long (tail_more start i p m x b ((i == 4) && nat_lt 15 x) (nat_lt x 128) ((x == 0) && nat_lt 0 i))

not_large : (i x : ℕ) → ((i ≡ 4) × (x ≤ 15)) ⊎ (i ≡ 4 → ⊥) → (i == 4) && nat_lt 15 x ≡ false
not_large i x (inl h) = and_right (i == 4) (nat_lt 15 x) (le-ltb 15 x h.1)
not_large i x (inr h) = and_left (i == 4) (nat_lt 15 x) (ne_eqb i 4 h)

not_long : (i x : ℕ) → ((x ≡ 0) × (i ≤ 0)) ⊎ (x ≡ 0 → ⊥) → (x == 0) && nat_lt 0 i ≡ false
not_long i x (inl h) = and_right (x == 0) (nat_lt 0 i) (le-ltb 0 i h.1)
not_long i x (inr h) = and_left (x == 0) (nat_lt 0 i) (ne_eqb x 0 h)

-- the result of reading one byte and then the rest of the number
module _ (start i p m : ℕ) (b : List ℕ) (x q l : ℕ) (d : List ℕ) (byte : byte_here p m b ≡ Ok (x, q, l, d)) (small : ((i ≡ 4) × (x ≤ 15)) ⊎ (i ≡ 4 → ⊥)) where
  pub tail_last : x < 128 → ((x ≡ 0) × (i ≤ 0)) ⊎ (x ≡ 0 → ⊥) → tail_here start i p m b ≡ Ok (x, q, l, d)
  unfolding give
  tail_last low short = tail_step start i p m b ∙ rw (byte, not_large i x small, lt-ltb x 128 low, not_long i x short) refl

  pub tail_long : x ≡ 0 → 0 < i → tail_here start i p m b ≡ Err (LongForm, start)
  unfolding fail
  tail_long none later = tail_step start i p m b ∙ rw (byte, not_large i x small, none, lt-ltb 0 i later) refl

  pub tail_next : 128 ≤ x → tail_here start i p m b ≡ follow (tail_here start (i + 1) q l d) (λ high. give ((x - 128) + high * 128))
  unfolding chain
  tail_next high = tail_step start i p m b ∙ rw (byte, not_large i x small, le-ltb x 128 high) refl

-- ---- the limit of a number

-- ---- values without parts

pub flag_is : (bad : Reason) (p m : ℕ) (b : List ℕ) → flag_here bad p m b ≡ follow (byte_here p m b) (λ x. if nat_lt 1 x then fail bad p else give (x == 1))
unfolding flag_here byte_here bytes_here chain give fail
flag_is bad p m [] = let none : p + 0 ≡ p = omega arith in rw none refl
flag_is bad p m (x ∷ b) =
    let long = le-ltb (length (x ∷ b)) 1 (omega arith) in
    rw long (by_size (nat_lt 1 x))
  where
    by_size : (h : Bool) → (if h then Err (bad, p) else Ok (x == 1, p + 1, m, b)) ≡ (if h then fail bad p else give (x == 1)) (p + 1) m b
    by_size true = refl
    by_size false = refl

pub node_is : {A : Type 0} (f : Parser A) (p m : ℕ) (b : List ℕ) → node f p m b ≡ follow (node_here p m b) (λ _. f)
unfolding node give
node_is f p zero b = refl
node_is f p (suc m) b = refl

-- ---- strings

not_utf8 : (s : List ℕ) → (IsUtf8 s → ⊥) → is_utf8 s ≡ false
not_utf8 s bad = false_from_ne_true (is_utf8 s) (λ good. bad (IsUtf8-from_is_utf8 s good))

pub text_right : (n p m : ℕ) (b s : List ℕ) (q l : ℕ) (d : List ℕ) → bytes_here n p m b ≡ Ok (s, q, l, d) → IsUtf8 s → text_here n p m b ≡ Ok (s, q, l, d)
unfolding text_here chain give
text_right n p m b s q l d read good = rw (read, is_utf8-from_IsUtf8 s good) refl

pub text_wrong : (n p m : ℕ) (b s : List ℕ) (q l : ℕ) (d : List ℕ) → bytes_here n p m b ≡ Ok (s, q, l, d) → (IsUtf8 s → ⊥) → text_here n p m b ≡ Err (BadUtf8, p + utf8_valid_len s)
unfolding text_here chain fail
text_wrong n p m b s q l d read bad = rw (read, not_utf8 s bad) refl
