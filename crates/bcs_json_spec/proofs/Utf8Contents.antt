-- The strings in a UTF-8 text are UTF-8, once escapes are decoded.
use Rattle.bcs_json_spec.proofs.Prelude.{◌≡◌, ◌∙◌, ℕ, ◌+◌, ◌*◌, ◌<◌, ◌==◌, ◌&&◌, nat_lt, cond, Bool, true, false, List, [], ◌∷◌, ◌++◌, length, drop, get_or, Option, Some, None, IsUtf8, append_assoc, append-nil, length-append, arith, refl, sym, ap, subst, and_parts, eqb-true, drop_at, take_at, IsCharBoundary-after_ascii, IsCharBoundary-before_ascii, IsUtf8-append, IsUtf8-drop, IsUtf8-encode, IsUtf8-from_ascii, IsUtf8-take, IsAscii-cons, IsAscii-nil, IsScalar, digit_value, encode_utf8, is_digit, option_and_then, after_backslash, after_high, after_u, code_unit, is_high_surrogate, is_low_surrogate, plain, prepend, short_escape, surrogate_pair}
use Rattle.json.specs.Text.{content}

-- ---- an ASCII byte in a UTF-8 text

module _ (p : List ℕ) (x : ℕ) (xs : List ℕ) (small : x < 128) (utf8 : IsUtf8 (p ++ x ∷ xs)) where
  at_seam : (q : List ℕ) → get_or (q ++ x ∷ xs) (length q) 0 ≡ x
  at_seam [] = refl
  at_seam (y ∷ q) = at_seam q

  within : length p < length (p ++ x ∷ xs)
  within = omega (arith, length-append p (x ∷ xs))

  -- the bytes before it are UTF-8
  pub utf8_before : IsUtf8 p
  utf8_before =
      subst IsUtf8 (take_at p (x ∷ xs) (length p) refl)
      (IsUtf8-take (p ++ x ∷ xs) (length p) utf8 (IsCharBoundary-before_ascii (p ++ x ∷ xs) (length p) within (omega (arith, small, at_seam p))))

  -- and so are the bytes after it
  pub utf8_after : IsUtf8 xs
  utf8_after =
      let whole : drop (length p + 1) (p ++ x ∷ xs) ≡ xs =
      ap (drop (length p + 1)) (sym (append_assoc p (x ∷ []) xs)) ∙ drop_at (p ++ x ∷ []) xs (length p + 1) (length-append p (x ∷ [])) in
      subst IsUtf8 whole (IsUtf8-drop (p ++ x ∷ xs) (length p + 1) utf8 (IsCharBoundary-after_ascii (p ++ x ∷ xs) (length p) utf8 within (omega (arith, small, at_seam p))))

one_ascii : (c : ℕ) → c < 128 → IsUtf8 (c ∷ [])
one_ascii c small = IsUtf8-from_ascii (c ∷ []) (IsAscii-cons c [] small IsAscii-nil)

-- ---- escapes

-- a short escape is an ASCII character that represents another
short_is_ascii : (x c : ℕ) → short_escape x ≡ Some c → (x < 128) × (c < 128)
unfolding short_escape
short_is_ascii x c h = grind (arith)

digit_is_ascii : (a : ℕ) → is_digit a 16 ≡ true → (a < 128) × (digit_value a < 16)
digit_is_ascii a h = grind (arith)

-- four hexadecimal digits, and their value
record IsUnit (a b c d u : ℕ) : Type 0 where
  first : a < 128
  second : b < 128
  third : c < 128
  fourth : d < 128
  small : u < 65536

unit_is : (a b c d u : ℕ) → code_unit a b c d ≡ Some u → IsUnit a b c d u
unfolding code_unit
unit_is a b c d u h = at (is_digit a 16 && is_digit b 16 && is_digit c 16 && is_digit d 16) refl h
  where
    at : (t : Bool) → (is_digit a 16 && is_digit b 16 && is_digit c 16 && is_digit d 16) ≡ t
        → cond t (Some (digit_value a * 4096 + digit_value b * 256 + digit_value c * 16 + digit_value d)) None ≡ Some u → IsUnit a b c d u
    at false is e = absurd cc
    at true is e =
        let value : digit_value a * 4096 + digit_value b * 256 + digit_value c * 16 + digit_value d ≡ u = cc in
        let l = and_parts (is_digit a 16 && is_digit b 16 && is_digit c 16) (is_digit d 16) is in
        let m = and_parts (is_digit a 16 && is_digit b 16) (is_digit c 16) l.0 in
        let n = and_parts (is_digit a 16) (is_digit b 16) m.0 in
        let p = digit_is_ascii a n.0 in
        let q = digit_is_ascii b n.1 in
        let r = digit_is_ascii c m.1 in
        let s = digit_is_ascii d l.1 in
        record { first = p.0; second = q.0; third = r.0; fourth = s.0; small = omega (arith, value, p.1, q.1, r.1, s.1) }

-- a unit that isn't a surrogate is a character, and so is a pair of surrogates
lone_is_scalar : (u : ℕ) → u < 65536 → is_high_surrogate u ≡ false → is_low_surrogate u ≡ false → IsScalar u
lone_is_scalar u small high low = grind (arith)

pair_is_scalar : (h l : ℕ) → is_high_surrogate h ≡ true → is_low_surrogate l ≡ true → IsScalar (surrogate_pair h l)
pair_is_scalar h l high low = grind (arith)

-- ---- the content

-- what was read after `p` is UTF-8
abbrev Utf8After : List ℕ → Option (List ℕ) → Type 0
Utf8After p None = Unit {0}
Utf8After p (Some s) = IsUtf8 (p ++ s)

prepended : (p q : List ℕ) (o : Option (List ℕ)) → Utf8After (p ++ q) o → Utf8After p (prepend q o)
prepended p q None h = tt
prepended p q (Some s) h = subst IsUtf8 (append_assoc p q s) h

-- a whole character after whole characters
appended : (p q : List ℕ) (o : Option (List ℕ)) → IsUtf8 p → IsUtf8 q → Utf8After [] o → Utf8After p (prepend q o)
appended p q None h k rest = tt
appended p q (Some s) h k rest = IsUtf8-append p (q ++ s) h (IsUtf8-append q s k rest)

plain_step : (p : List ℕ) (x : ℕ) (b c d : Bool) (escaped rest : Option (List ℕ)) → (b ≡ true → IsUtf8 p) → (c ≡ true → Utf8After p escaped) → Utf8After (p ++ x ∷ []) rest
    → Utf8After p (cond b (Some []) (cond c escaped (cond d None (prepend (x ∷ []) rest))))
plain_step p x true c d escaped rest ends slash more = subst IsUtf8 (sym (append-nil p)) (ends refl)
plain_step p x false true d escaped rest ends slash more = slash refl
plain_step p x false false true escaped rest ends slash more = tt
plain_step p x false false false escaped rest ends slash more = prepended p (x ∷ []) rest more

slash_step : (p : List ℕ) (b : Bool) (o : Option ℕ) (unit rest : Option (List ℕ)) → IsUtf8 p → (b ≡ true → Utf8After p unit) → ((c : ℕ) → o ≡ Some c → (c < 128) × Utf8After [] rest)
    → Utf8After p (cond b unit (option_and_then (λ c. prepend (c ∷ []) rest) o))
slash_step p true o unit rest h u more = u refl
slash_step p false None unit rest h u more = tt
slash_step p false (Some c) unit rest h u more = appended p (c ∷ []) rest h (one_ascii c (more c refl).0) (more c refl).1

unit_step : (p : List ℕ) (u : ℕ) (b c : Bool) (pair rest : Option (List ℕ)) → IsUtf8 p → u < 65536 → is_high_surrogate u ≡ b → is_low_surrogate u ≡ c → (b ≡ true → Utf8After p pair) → Utf8After [] rest
    → Utf8After p (cond b pair (cond c None (prepend (encode_utf8 u) rest)))
unit_step p u true c pair rest h small high low two more = two refl
unit_step p u false true pair rest h small high low two more = tt
unit_step p u false false pair rest h small high low two more = appended p (encode_utf8 u) rest h (IsUtf8-encode u (lone_is_scalar u small high low)) more

pair_step : (p : List ℕ) (h l : ℕ) (b : Bool) (rest : Option (List ℕ)) → IsUtf8 p → is_high_surrogate h ≡ true → is_low_surrogate l ≡ b → Utf8After [] rest
    → Utf8After p (cond b (prepend (encode_utf8 (surrogate_pair h l)) rest) None)
pair_step p h l true rest u high low more = appended p (encode_utf8 (surrogate_pair h l)) rest u (IsUtf8-encode (surrogate_pair h l) (pair_is_scalar h l high low)) more
pair_step p h l false rest u high low more = tt

-- what follows a unit, if there is one
after_unit : (p : List ℕ) (o : Option ℕ) (f : ℕ → Option (List ℕ)) → ((u : ℕ) → o ≡ Some u → Utf8After p (f u)) → Utf8After p (option_and_then f o)
after_unit p None f h = tt
after_unit p (Some u) f h = h u refl

where_true : (p : List ℕ) (b : Bool) (o : Option (List ℕ)) → (b ≡ true → Utf8After p o) → Utf8After p (cond b o None)
where_true p true o h = h refl
where_true p false o h = tt

-- removes four ASCII bytes from the front
four_gone : (a b c d : ℕ) (xs : List ℕ) → a < 128 → b < 128 → c < 128 → d < 128 → IsUtf8 (a ∷ b ∷ c ∷ d ∷ xs) → IsUtf8 xs
four_gone a b c d xs h i j k utf8 = utf8_after [] d xs k (utf8_after [] c (d ∷ xs) j (utf8_after [] b (c ∷ d ∷ xs) i (utf8_after [] a (b ∷ c ∷ d ∷ xs) h utf8)))

mutual
  unfolding content

  plain_utf8 : (p xs : List ℕ) → IsUtf8 (p ++ xs) → Utf8After p (content plain xs)
  plain_utf8 p [] utf8 = tt
  plain_utf8 p (x ∷ xs) utf8 =
      plain_step p x (x == 34) (x == 92) (nat_lt x 32) (content after_backslash xs) (content plain xs)
      (λ is. let same = eqb-true x 34 is in utf8_before p x xs (omega (arith, same)) utf8)
      (λ is. let same = eqb-true x 92 is in slash_utf8 p xs (utf8_before p x xs (omega (arith, same)) utf8) (utf8_after p x xs (omega (arith, same)) utf8))
      (plain_utf8 (p ++ x ∷ []) xs (subst IsUtf8 (sym (append_assoc p (x ∷ []) xs)) utf8))

  slash_utf8 : (p xs : List ℕ) → IsUtf8 p → IsUtf8 xs → Utf8After p (content after_backslash xs)
  slash_utf8 p [] before utf8 = tt
  slash_utf8 p (x ∷ xs) before utf8 =
      slash_step p (x == 117) (short_escape x) (content after_u xs) (content plain xs) before
      (λ is. let same = eqb-true x 117 is in unit_utf8 p xs before (utf8_after [] x xs (omega (arith, same)) utf8))
      (λ c is. let ascii = short_is_ascii x c is in (ascii.1, plain_utf8 [] xs (utf8_after [] x xs ascii.0 utf8)))

  unit_utf8 : (p xs : List ℕ) → IsUtf8 p → IsUtf8 xs → Utf8After p (content after_u xs)
  unit_utf8 p [] before utf8 = tt
  unit_utf8 p (a ∷ []) before utf8 = tt
  unit_utf8 p (a ∷ b ∷ []) before utf8 = tt
  unit_utf8 p (a ∷ b ∷ c ∷ []) before utf8 = tt
  unit_utf8 p (a ∷ b ∷ c ∷ d ∷ xs) before utf8 =
      after_unit p (code_unit a b c d) _
      (λ u is.
      let unit = unit_is a b c d u is in
      let rest = four_gone a b c d xs unit.first unit.second unit.third unit.fourth utf8 in
      unit_step p u (is_high_surrogate u) (is_low_surrogate u) (content (after_high u) xs) (content plain xs) before unit.small refl refl (λ high. pair_utf8 p u xs high before rest) (plain_utf8 [] xs rest))

  pair_utf8 : (p : List ℕ) (h : ℕ) (xs : List ℕ) → is_high_surrogate h ≡ true → IsUtf8 p → IsUtf8 xs → Utf8After p (content (after_high h) xs)
  pair_utf8 p h [] high before utf8 = tt
  pair_utf8 p h (s ∷ []) high before utf8 = tt
  pair_utf8 p h (s ∷ u ∷ []) high before utf8 = tt
  pair_utf8 p h (s ∷ u ∷ a ∷ []) high before utf8 = tt
  pair_utf8 p h (s ∷ u ∷ a ∷ b ∷ []) high before utf8 = tt
  pair_utf8 p h (s ∷ u ∷ a ∷ b ∷ c ∷ []) high before utf8 = tt
  pair_utf8 p h (s ∷ u ∷ a ∷ b ∷ c ∷ d ∷ xs) high before utf8 =
      where_true p ((s == 92) && (u == 117)) _
      (λ is.
      let marks = and_parts (s == 92) (u == 117) is in
      let slash = eqb-true s 92 marks.0 in
      let letter = eqb-true u 117 marks.1 in
      let digits = utf8_after [] u (a ∷ b ∷ c ∷ d ∷ xs) (omega (arith, letter)) (utf8_after [] s (u ∷ a ∷ b ∷ c ∷ d ∷ xs) (omega (arith, slash)) utf8) in
      after_unit p (code_unit a b c d) _
      (λ l unit_of.
      let unit = unit_is a b c d l unit_of in
      pair_step p h l (is_low_surrogate l) (content plain xs) before high refl
      (plain_utf8 [] xs (four_gone a b c d xs unit.first unit.second unit.third unit.fourth digits))))

-- the content of a string, after its quotation mark
pub content_utf8 : (xs s : List ℕ) → IsUtf8 xs → content plain xs ≡ Some s → IsUtf8 s
content_utf8 xs s utf8 is = subst (Utf8After []) is (plain_utf8 [] xs utf8)
