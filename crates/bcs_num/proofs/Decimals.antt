-- Laws of the plain decimal strings of numbers of up to 128 bits, and of reading their digits.
use Rattle.bcs_num.proofs.Prelude.{◌≡◌, ℕ, zero, suc, ◌+◌, ◌-◌, ◌*◌, ◌/◌, ◌%◌, ◌^◌, ◌<◌, ◌≤◌, List, [], ◌∷◌, ◌++◌, length, take, drop, get_or, refl, sym, ap, subst, ◌∙◌, arith, length-take, length-drop, get_or-drop, length-append, append_assoc, decimal, inl, inr, Option, Some, None, ℤ, pos, negsuc, IfSome, SomeIff, digit_value, signed_decimal, AllDigits, digits_value, digits_value_after, pow-le-pow_right, get_or-append, cases_lt, decimal_digit, decimal_step_wide, decimal_by_steps_wide, decimal_is_IsNumeral_wide, digits_value-lt, digits_more, digits_value_more, append-nil, take_all, digit_value_digit, digit_at, digit_from_value, digits_value-take-le, hbits, IsSigned}
use Rattle.std.specs.Int as int
use Rattle.bcs_num.proofs.Ranges.{half_most}

-- ---- digits

pub all_digits_at : (ds : List ℕ) (i : ℕ) → AllDigits 10 ds → i < length ds → digit_value (get_or ds i 0) < 10
all_digits_at [] i digits h = absurd (omega arith)
all_digits_at (c ∷ cs) zero digits h = digits.0
all_digits_at (c ∷ cs) (suc i) digits h = all_digits_at cs i digits.1 (omega arith)

-- nineteen digits always fit into 64 bits
pub short_fits : (ds : List ℕ) (i n : ℕ) → i < length ds → length ds ≤ 19 → AllDigits 10 (take i ds) → n ≡ digits_value 10 (take i ds) → n < 10 ^ 18
short_fits ds i n h short digits is =
    let long : length (take i ds) ≡ i = omega (arith, length-take i ds) in
    let below : digits_value 10 (take i ds) < 10 ^ i = subst (λ (k : ℕ). digits_value 10 (take i ds) < 10 ^ k) long (digits_value-lt 10 (take i ds) digits) in
    let most : 10 ^ i ≤ 10 ^ 18 = pow-le-pow_right {n = 10} (omega arith) {i = i} {j = 18} (omega arith) in
    omega (arith, is, below, most)

-- the loop of `number`, where rest is what follows the first m digits
module _ (ds rest : List ℕ) (m i n : ℕ) (back : rest ≡ drop m ds) (within : i < length rest) (is : n ≡ digits_value 10 (take (m + i) ds)) where
  in_all : m + i < length ds
  in_all = omega (arith, within, ap length back, length-drop m ds)

  here : get_or rest i 0 ≡ get_or ds (m + i) 0
  here = ap (λ (x : List ℕ). get_or x i 0) back ∙ get_or-drop m ds i 0

  pub next_value : digits_value 10 (take (m + (i + 1)) ds) ≡ n * 10 + digit_value (get_or rest i 0)
  next_value =
      let one_more : m + (i + 1) ≡ m + i + 1 = omega arith in
      rw (one_more, digits_value_more 10 ds (m + i) in_all, sym is, here) refl

  pub next_digits : AllDigits 10 (take (m + i) ds) → digit_value (get_or rest i 0) < 10 → AllDigits 10 (take (m + (i + 1)) ds)
  next_digits digits digit =
      let one_more : m + (i + 1) ≡ m + i + 1 = omega arith in
      rw one_more (digits_more 10 ds (m + i) in_all digits (rw here at digit))

  pub no_digit : ¬ (digit_value (get_or rest i 0) < 10) → ¬ (AllDigits 10 ds × (digits_value 10 ds < 2 ^ 128))
  no_digit not all = not (rw here (all_digits_at ds (m + i) all.0 in_all))

  pub too_large : 2 ^ 128 ≤ n * 10 + digit_value (get_or rest i 0) → ¬ (AllDigits 10 ds × (digits_value 10 ds < 2 ^ 128))
  too_large large all = omega (arith, all.1, next_value, digits_value-take-le 10 ds (m + (i + 1)) (omega arith))

-- ---- the decimal string of a number

-- it is a single 0, or starts with another digit
pub decimal_begins : (n : ℕ) → 0 < n → n < 10 ^ 64 → 48 < get_or (decimal n) 0 0
decimal_begins n some small = (decimal_by_steps_wide (λ m ds. (0 < length ds) × (0 < m → 48 < get_or ds 0 0))
    (λ m low. (omega arith, λ some. omega arith))
    (λ m ds low front. (omega (arith, length-append ds ((48 + m % 10) ∷ [])), λ some. omega (arith, get_or-append ds ((48 + m % 10) ∷ []) 0 0 front.0, front.1 (omega arith))))
    n small).1 some

value_after-ge : (n : ℕ) (ds : List ℕ) → n ≤ digits_value_after 10 n ds
value_after-ge n [] = omega arith
value_after-ge n (c ∷ cs) = omega (arith, value_after-ge (n * 10 + digit_value c) cs)

decimal-value_after : (n : ℕ) (ds : List ℕ) → 0 < n → AllDigits 10 ds → digits_value_after 10 n ds < 10 ^ 64 → decimal (digits_value_after 10 n ds) ≡ decimal n ++ ds
decimal-value_after n [] some digits small = sym (append-nil (decimal n))
decimal-value_after n (c ∷ cs) some digits small =
    let m : ℕ = n * 10 + digit_value c in
    let digit = digit_value_digit c (digit_from_value c digits.0) in
    let front : m / 10 ≡ n = omega (arith, digits.0) in
    let end : 48 + m % 10 ≡ c = omega (arith, digits.0) in
    decimal-value_after m cs (omega arith) digits.1 small
    ∙ ap (λ x. x ++ cs) (decimal_step_wide m (omega arith) (omega (arith, value_after-ge m cs)) ∙ (λ i. decimal (front i) ++ (end i ∷ [])))
    ∙ append_assoc (decimal n) (c ∷ []) cs

-- not empty, and no zero before another digit
pub record IsPlain (ds : List ℕ) : Type 0 where
  pub some : 0 < length ds
  pub zero_alone : get_or ds 0 0 ≡ 48 → length ds ≡ 1

pub decimal_is_plain : (n : ℕ) → n < 10 ^ 64 → IsPlain (decimal n)
decimal_is_plain n small = record {
  some = (decimal_is_IsNumeral_wide n small).0.0;
  zero_alone = λ begins. elim (cases_lt 0 n) [
    | inl some ↦ absurd (omega (arith, begins, decimal_begins n some small))
    | inr none ↦ ap length (decimal_digit n (omega arith))
  ];
}

-- plain digits are the decimal string of their value
pub decimal-digits_value : (ds : List ℕ) → AllDigits 10 ds → IsPlain ds → digits_value 10 ds < 10 ^ 64 → decimal (digits_value 10 ds) ≡ ds
decimal-digits_value [] digits plain small = absurd (omega (arith, plain.some))
decimal-digits_value (c ∷ []) digits plain small =
    let digit = digit_value_digit c (digit_from_value c digits.0) in
    decimal_digit (0 * 10 + digit_value c) (omega (arith, digits.0)) ∙ ap (λ x. x ∷ []) (omega arith)
decimal-digits_value (c ∷ e ∷ cs) digits plain small =
    let digit = digit_value_digit c (digit_from_value c digits.0) in
    let other : c ≡ 48 → ⊥ = λ zero. omega (arith, plain.zero_alone zero) in
    let is : 48 + (0 * 10 + digit_value c) ≡ c = omega arith in
    decimal-value_after (0 * 10 + digit_value c) (e ∷ cs) (omega arith) digits.1 small
    ∙ ap (λ x. x ++ (e ∷ cs)) (decimal_digit (0 * 10 + digit_value c) (omega (arith, digits.0)) ∙ ap (λ x. x ∷ []) is)

-- so if a number was read from plain digits, these are its decimal string
pub plain_found : (ds : List ℕ) (r : Option ℕ) → IsPlain ds → SomeIff r (AllDigits 10 ds × (digits_value 10 ds < 2 ^ 128)) (digits_value 10 ds) → IfSome r (λ n. (n < 2 ^ 128) × (ds ≡ decimal n))
plain_found ds None plain h = tt
plain_found ds (Some n) plain h = (omega (arith, h.0.1, h.1), sym (ap decimal h.1 ∙ decimal-digits_value ds h.0.0 plain (omega (arith, h.0.1))))

pub plain_only : (ds : List ℕ) (r : Option ℕ) → SomeIff r (AllDigits 10 ds × (digits_value 10 ds < 2 ^ 128)) (digits_value 10 ds) → (n : ℕ) → n < 2 ^ 128 → ds ≡ decimal n → r ≡ Some n
plain_only ds r h n small is =
    let numeral = decimal_is_IsNumeral_wide n (omega arith) in
    let digits : AllDigits 10 ds = subst (AllDigits 10) (sym is) numeral.0.1 in
    let value : digits_value 10 ds ≡ n = ap (digits_value 10) is ∙ numeral.1 in
    at r h digits value
  where
    at : (r : Option ℕ) → SomeIff r (AllDigits 10 ds × (digits_value 10 ds < 2 ^ 128)) (digits_value 10 ds) → AllDigits 10 ds → digits_value 10 ds ≡ n → r ≡ Some n
    at None h digits value = absurd (h (digits, omega (arith, value)))
    at (Some m) h digits value = ap (λ (x : ℕ). Some x) (h.1 ∙ value)

-- ---- with a sign

no_minus : (n : ℕ) → n < 10 ^ 64 → get_or (decimal n) 0 0 ≡ 45 → ⊥
no_minus n small minus =
    let numeral = decimal_is_IsNumeral_wide n small in
    let first = digit_at (decimal n) 0 numeral.0.1 numeral.0.0 in
    omega (arith, first.0, minus)

-- a string that starts with `-` is that of a negative number, -(k + 1), and the rest are digits
pub minus_text : (w : int.Width) (z : ℤ) (text bytes : List ℕ) → IsSigned w z → get_or text 0 0 ≡ 45 → text ≡ signed_decimal z → bytes ≡ text
    → (k : ℕ) × (z ≡ negsuc k) × (k < 2 ^ 127) × (k < 2 ^ hbits w) × (take (length bytes - 1) (drop 1 bytes) ≡ decimal (suc k))
minus_text w (pos n) text bytes fits minus is same =
    absurd (no_minus n (omega (arith, fits.sfits, half_most w)) (sym (ap (λ (x : List ℕ). get_or x 0 0) is) ∙ minus))
minus_text w (negsuc k) text bytes fits minus is same =
    let whole : take (length bytes - 1) (drop 1 bytes) ≡ drop 1 bytes = take_all (length bytes - 1) (drop 1 bytes) (omega (arith, length-drop 1 bytes)) in
    (k, refl, omega (arith, fits.sfits, half_most w), fits.sfits, whole ∙ ap (drop 1) (same ∙ is))
