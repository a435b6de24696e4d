-- Prefixes that are valid UTF-8 (RFC 3629).
use Rattle.bcs_decode_source.proofs.Prelude.{◌≡◌, ℕ, ◌+◌, ◌-◌, ◌<◌, ◌≤◌, Bool, true, false, ◌&&◌, List, [], ◌∷◌, ◌++◌, length, take, drop, take_all, take-take, length-append, length-take, take-add, IsUtf8, inl, inr, refl, sym, ap, subst, ◌∙◌, arith, encode_utf8, encode_utf8_all, cases_lt, take-append-le, append-nil, IsUtf8-append, length-encode, len_utf8_bounds, utf8_valid_len-IsValidUpTo, IsUtf8-drop, IsCharBoundary-from_take, scalar, scalars, IsValidUpTo, utf8_valid_len, BeginsNoText}
use Rattle.std.proofs.Common.{take_at, drop_at}

pub nothing_behind : (s : List ℕ) → length s ≡ 0 → BeginsNoText s
nothing_behind s none n some within good = absurd (omega (arith, none))

-- what follows the longest valid prefix begins no valid string
pub longest_behind : (s : List ℕ) (n : ℕ) → IsValidUpTo s n → BeginsNoText (drop n s)
longest_behind s n valid k some within good =
    valid.longest (n + k) (omega arith) (subst IsUtf8 (sym (take-add n k s)) (IsUtf8-append (take n s) (take k (drop n s)) valid.front good))

-- ---- four bytes are enough

first_true : (x y : Bool) → x && y ≡ true → x ≡ true
first_true true y h = refl
first_true false y h = absurd cc

-- the first character of a valid string has at most four bytes
first_text : (s : List ℕ) → IsUtf8 s → 0 < length s → (n : ℕ) × (0 < n) × (n ≤ 4) × (n ≤ length s) × IsUtf8 (take n s)
first_text s good some = at good.0 good.1.0 good.1.1
  where
    at : (cs : List ℕ) → scalars cs ≡ true → encode_utf8_all cs ≡ s → (n : ℕ) × (0 < n) × (n ≤ 4) × (n ≤ length s) × IsUtf8 (take n s)
    at [] right is = absurd (omega (arith, ap length is))
    at (c ∷ cs) right is =
        let bounds = len_utf8_bounds c in
        let size = length-encode c in
        let long = ap length is ∙ refl in
        let front : take (length (encode_utf8 c)) s ≡ encode_utf8 c = ap (take (length (encode_utf8 c))) (sym is) ∙ take_at (encode_utf8 c) (encode_utf8_all cs) (length (encode_utf8 c)) refl in
        let one : IsUtf8 (encode_utf8 c) = (c ∷ [], (rw (first_true (scalar c) (scalars cs) right) refl, append-nil (encode_utf8 c))) in
        (length (encode_utf8 c), omega (arith, size, bounds.0), omega (arith, size, bounds.1), omega (arith, ap length is, length-append (encode_utf8 c) (encode_utf8_all cs)), subst IsUtf8 (sym front) one)

-- if four bytes begin no valid string, more bytes don't change that
pub no_text_more : (s t : List ℕ) → 4 ≤ length s → BeginsNoText s → BeginsNoText (s ++ t)
no_text_more s t long none n some within good =
    let size : length (take n (s ++ t)) ≡ n = omega (arith, length-take n (s ++ t)) in
    let first = first_text (take n (s ++ t)) good (omega (arith, size)) in
    let k = first.0 in
    let few : k ≤ length s = omega (arith, first.2) in
    let front : take k (take n (s ++ t)) ≡ take k s = take-take k n (s ++ t) (omega (arith, first.3, size)) ∙ take-append-le k s t few in
    none k first.1 few (subst IsUtf8 front first.4)

-- ---- a valid string, followed by bytes that begin none

module _ (g r : List ℕ) (good : IsUtf8 g) (none : BeginsNoText r) (some : 0 < length r) where
  no_longer : (m : ℕ) → length g < m → m ≤ length (g ++ r) → IsUtf8 (take m (g ++ r)) → ⊥
  no_longer m more within text =
      let n = length g in
      let all = length-append g r in
      let front : take m (g ++ r) ≡ g ++ take (m - n) r = (let whole : n + (m - n) ≡ m = omega arith in ap (λ k. take k (g ++ r)) (sym whole) ∙ take-add n (m - n) (g ++ r) ∙ rw (take_at g r n refl, drop_at g r n refl) refl) in
      let joined : IsUtf8 (g ++ take (m - n) r) = subst IsUtf8 front text in
      let behind : drop n (g ++ take (m - n) r) ≡ take (m - n) r = drop_at g (take (m - n) r) n refl in
      let cut = IsCharBoundary-from_take (g ++ take (m - n) r) n joined (omega (arith, length-append g (take (m - n) r))) (subst IsUtf8 (sym (take_at g (take (m - n) r) n refl)) good) in
      none (m - n) (omega arith) (omega (arith, all)) (subst IsUtf8 behind (IsUtf8-drop (g ++ take (m - n) r) n joined cut))

  no_text : IsUtf8 (g ++ r) → ⊥
  no_text text =
      let all = length-append g r in
      no_longer (length (g ++ r)) (omega (arith, all)) (omega arith) (subst IsUtf8 (sym (take_all (length (g ++ r)) (g ++ r) (omega arith))) text)

  valid_up_to : IsValidUpTo (g ++ r) (length g)
  valid_up_to = record {
    short = omega (arith, length-append g r);
    front = subst IsUtf8 (sym (take_at g r (length g) refl)) good;
    longest = λ m more text. by_length m more text;
  }
    where
      by_length : (m : ℕ) → length g < m → IsUtf8 (take m (g ++ r)) → ⊥
      by_length m more text = elim (cases_lt (length (g ++ r)) m) [
        | inl beyond ↦ no_text (subst IsUtf8 (take_all m (g ++ r) (omega arith)) text)
        | inr within ↦ no_longer m more within text
      ]

  pub text_ends : (IsUtf8 (g ++ r) → ⊥) × (utf8_valid_len (g ++ r) ≡ length g)
  text_ends = (no_text, utf8_valid_len-IsValidUpTo (g ++ r) (length g) valid_up_to)
