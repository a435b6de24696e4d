-- An integer is read exactly if JSON spells it.
use Rattle.bcs_json_spec.proofs.Prelude.{◌≡◌, ◌∙◌, ℕ, suc, ℤ, pos, negsuc, ◌<◌, ◌^◌, List, [], ◌∷◌, Ok, Err, Option, Some, None, Bool, true, false, if◌then◌else◌, Decides, bytes_eq, ◌==◌, decimal, refl, ap, sym, subst, arith, digit_value, signed_decimal, AllDigits, digits_value, Decides-eqb, bytes_eq-Decides, decimal_is_IsNumeral_wide, same_Some, Data, number, string, SpellsWhole, negated, worth, whole_of, whole_in, read_whole, WholeRefuses, JsonFault, BadNumber}
use Rattle.bcs_json_spec.proofs.Exact.{Exact, is_walk_fault, same_ok, not_both, when_true}

-- at most 64 digits
abbrev pub IsSmall : ℤ → Type 0
IsSmall (pos n) = n < 10 ^ 64
IsSmall (negsuc n) = suc n < 10 ^ 64

no_minus : (c : ℕ) (s : List ℕ) (b : Bool) → Decides b (c ≡ 45) → digit_value c < 10 → (if b then negated (digits_value 10 s) else pos (digits_value 10 (c ∷ s))) ≡ pos (digits_value 10 (c ∷ s))
no_minus c s true d h = let bad : digit_value 45 < 10 = subst (λ (x : ℕ). digit_value x < 10) (d.0 refl) h in absurd (omega (arith, bad))
no_minus c s false d h = refl

digits_worth : (s : List ℕ) → AllDigits 10 s → worth s ≡ pos (digits_value 10 s)
digits_worth [] h = refl
digits_worth (c ∷ s) h = no_minus c s (c == 45) (Decides-eqb c 45) h.0

pub worth-decimal : (z : ℤ) → IsSmall z → worth (signed_decimal z) ≡ z
worth-decimal (pos n) small = let d = decimal_is_IsNumeral_wide n small in digits_worth (decimal n) d.0.1 ∙ ap pos d.1
worth-decimal (negsuc n) small = ap negated (decimal_is_IsNumeral_wide (suc n) small).1

pub whole_some : (j : Data) (z : ℤ) → IsSmall z → SpellsWhole j z → whole_of j ≡ Some z
whole_some (number n) z small s = s
whole_some (string t) z small s =
    let value : worth t ≡ z = ap worth s ∙ worth-decimal z small in
    when_true (bytes_eq t (signed_decimal (worth t))) (Some (worth t)) None (bytes_eq-Decides t (signed_decimal (worth t))) (s ∙ ap signed_decimal (sym value)) ∙ ap Some value
whole_some _ z small s = absurd s

text_whole : (t : List ℕ) (v z : ℤ) (b : Bool) → Decides b (t ≡ signed_decimal v) → (if b then Some v else None) ≡ Some z → t ≡ signed_decimal z
text_whole t v z true d h = d.0 refl ∙ ap signed_decimal (same_Some v z h)
text_whole t v z false d h = cc

pub whole_is : (j : Data) (z : ℤ) → whole_of j ≡ Some z → SpellsWhole j z
whole_is (number n) z h = h
whole_is (string t) z h = text_whole t (worth t) z (bytes_eq t (signed_decimal (worth t))) (bytes_eq-Decides t (signed_decimal (worth t))) h
whole_is _ z h = cc

-- ---- ranges

module _ (range : ℤ → Bool) (small : (z : ℤ) → range z ≡ true → IsSmall z) where
  abbrev pub WholeWithin : Data → ℤ → Type 0
  WholeWithin j z = SpellsWhole j z × (range z ≡ true)

  in_ok_at : (y z : ℤ) (b : Bool) → range y ≡ b → (if b then Ok y else Err BadNumber) ≡ Ok z → (Some y ≡ Some z) × (range z ≡ true)
  in_ok_at y z true is h = let same = same_ok y z _ refl h in (ap Some same, ap range (sym same) ∙ is)
  in_ok_at y z false is h = cc

  in_ok : (o : Option ℤ) (z : ℤ) → whole_in range o ≡ Ok z → (o ≡ Some z) × (range z ≡ true)
  in_ok None z h = cc
  in_ok (Some y) z h = in_ok_at y z (range y) refl h

  in_err_at : (y : ℤ) (e : JsonFault) (b : Bool) → (if b then Ok y else Err BadNumber) ≡ Err e → e ≡ BadNumber
  in_err_at y e true h = cc
  in_err_at y e false h = cc

  in_err : (o : Option ℤ) (e : JsonFault) → whole_in range o ≡ Err e → e ≡ BadNumber
  in_err None e h = cc
  in_err (Some y) e h = in_err_at y e (range y) h

  whole_ok : (j : Data) (z : ℤ) → read_whole range j ≡ Ok z → WholeWithin j z
  whole_ok (number n) z h = let a = in_ok (whole_of (number n)) z h in (whole_is (number n) z a.0, a.1)
  whole_ok (string s) z h = let a = in_ok (whole_of (string s)) z h in (whole_is (string s) z a.0, a.1)
  whole_ok _ z h = cc

  found : (o : Option ℤ) (z : ℤ) → o ≡ Some z → range z ≡ true → whole_in range o ≡ Ok z
  found o z h is = ap (whole_in range) h ∙ ap (λ b. if b then Ok z else Err BadNumber) is

  whole_again : (j : Data) (z : ℤ) → WholeWithin j z → read_whole range j ≡ Ok z
  whole_again (number n) z w = found (whole_of (number n)) z (whole_some (number n) z (small z w.1) w.0) w.1
  whole_again (string s) z w = found (whole_of (string s)) z (whole_some (string s) z (small z w.1) w.0) w.1
  whole_again _ z w = absurd w.0

  none : (j : Data) (e : JsonFault) → read_whole range j ≡ Err e → (z : ℤ) (b : Bool) → range z ≡ b → SpellsWhole j z → range z ≡ false
  none j e h z true is s = absurd (not_both z e (read_whole range j) (whole_again j z (s, is)) h)
  none j e h z false is s = is

  whole_err : (j : Data) (e : JsonFault) → read_whole range j ≡ Err e → WholeRefuses range j e
  whole_err (number n) e h = ((λ z s. none (number n) e h z (range z) refl s), in_err (whole_of (number n)) e h)
  whole_err (string t) e h = ((λ z s. none (string t) e h z (range z) refl s), in_err (whole_of (string t)) e h)
  whole_err _ e h = cc

  bad : (j : Data) (o : Option ℤ) → whole_of j ≡ o → ((z : ℤ) → SpellsWhole j z → range z ≡ false) → whole_in range o ≡ Err BadNumber
  bad j None is h = refl
  bad j (Some z) is h = ap (λ b. if b then Ok z else Err BadNumber) (h z (whole_is j z is))

  whole_errs : (j : Data) (e : JsonFault) → WholeRefuses range j e → read_whole range j ≡ Err e
  whole_errs (number n) e h = bad (number n) (whole_of (number n)) refl h.0 ∙ ap Err (sym h.1)
  whole_errs (string t) e h = bad (string t) (whole_of (string t)) refl h.0 ∙ ap Err (sym h.1)
  whole_errs _ e h = ap Err (sym h)

  whole_walks : (j : Data) (e : JsonFault) → WholeRefuses range j e → is_walk_fault e ≡ true
  whole_walks (number n) e h = ap is_walk_fault h.1
  whole_walks (string t) e h = ap is_walk_fault h.1
  whole_walks _ e h = ap is_walk_fault h

  pub exact_whole : (j : Data) → Exact (WholeWithin j) (WholeRefuses range j) (read_whole range j)
  exact_whole j = record { ok = whole_ok j; again = whole_again j; err = whole_err j; errs = whole_errs j; walks = whole_walks j }
