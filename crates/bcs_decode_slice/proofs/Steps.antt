-- Facts about parsers that the functions of `Cursor` need.
use Rattle.bcs_decode_slice.proofs.Prelude.{◌≡◌, ℕ, ◌+◌, ◌<◌, ◌≤◌, ◌^◌, List, ◌++◌, length, take, drop, Ok, Err, refl, sym, ap, subst, ◌∙◌, arith, inl, inr, Bool, true, false, if◌then◌else◌, IsUtf8, take-append-drop, length-take, is_utf8, utf8_valid_len, IsUtf8-from_is_utf8, is_utf8-from_IsUtf8, uleb, IsUnended, IsLongForm, IsTooLarge, EndOfInput, LongForm, NumberTooLarge, BadUtf8, follow, chain, give, fail, number_here, bytes_here, text_here, exact_number}

pub number_found : (p m : ℕ) (b : List ℕ) (n k : ℕ) → n < 2 ^ 32 → k ≤ length b → take k b ≡ uleb n → number_here p m b ≡ Ok (n, p + k, m, drop k b)
number_found p m b n k small within is =
    let long : length (uleb n) ≡ k = ap length (sym is) ∙ omega (arith, length-take k b) in
    let whole : uleb n ++ drop k b ≡ b = ap (λ (s : List ℕ). s ++ drop k b) (sym is) ∙ take-append-drop k b in
    let none : 0 + m ≡ m = omega arith in
    ap (number_here p m) (sym whole)
    ∙ subst (λ (l : ℕ). number_here p l (uleb n ++ drop k b) ≡ Ok (n, p + length (uleb n), m, drop k b)) none (exact_number.again p m n 0 (uleb n) (drop k b) (small, refl, refl))
    ∙ ap (λ (i : ℕ). Ok (n, p + i, m, drop k b)) long

pub number_ended : (p m : ℕ) (b : List ℕ) → IsUnended b → number_here p m b ≡ Err (EndOfInput, p + length b)
number_ended p m b h = exact_number.stops p m b EndOfInput (p + length b) (inl (h, refl, refl))

pub number_large : (p m : ℕ) (b : List ℕ) → IsTooLarge b → number_here p m b ≡ Err (NumberTooLarge, p)
number_large p m b h = exact_number.stops p m b NumberTooLarge p (inr (inl (h, refl, refl)))

pub number_long : (p m : ℕ) (b : List ℕ) → IsLongForm b → number_here p m b ≡ Err (LongForm, p)
number_long p m b h = exact_number.stops p m b LongForm p (inr (inr (h, refl, refl)))

-- ---- strings

pub text_found : (p m : ℕ) (b : List ℕ) (n : ℕ) (s : List ℕ) (q l : ℕ) (c : List ℕ) → bytes_here n p m b ≡ Ok (s, q, l, c) → IsUtf8 s → text_here n p m b ≡ Ok (s, q, l, c)
unfolding text_here chain give
text_found p m b n s q l c h good = rw (h, is_utf8-from_IsUtf8 s good) refl

pub text_wrong : (p m : ℕ) (b : List ℕ) (n : ℕ) (s : List ℕ) (q l : ℕ) (c : List ℕ) (k : ℕ) → bytes_here n p m b ≡ Ok (s, q, l, c) → ¬ (IsUtf8 s) → k ≡ utf8_valid_len s → text_here n p m b ≡ Err (BadUtf8, p + k)
unfolding text_here chain fail
text_wrong p m b n s q l c k h bad is = at (is_utf8 s) refl
  where
    at : (right : Bool) → is_utf8 s ≡ right → follow (bytes_here n p m b) (λ s. if is_utf8 s then give s else fail BadUtf8 (p + utf8_valid_len s)) ≡ Err (BadUtf8, p + k)
    at true e = absurd (bad (IsUtf8-from_is_utf8 s e))
    at false e = rw (h, e, is) refl
