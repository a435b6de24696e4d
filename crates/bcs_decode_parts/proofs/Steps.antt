-- Each text spells at most one step, and the text of a step has no slash.
use Rattle.bcs_decode_parts.proofs.Prelude.{◌≡◌, ◌∙◌, ◌<◌, ◌≤◌, ◌^◌, ◌++◌, ◌==◌, ℕ, List, [], ◌∷◌, Ok, ap, arith, codes, decimal, drop, false, get_or, not, refl, subst, sym, true, true≢false, not-true, All, list_all, AllDigits, ne_eqb, decimal_injective, decimal_is_IsNumeral, All-append, All-cons, All-nil, All-weaker, AllPass-from_list_all, digit_from_value, decode_of, is_hex_digit, decode_of-ok, Step, item, inner, key, SpellsStep}

-- ---- the three kinds of steps have different texts

-- the text of a number begins with a digit
pub begins_with_digit : (n c : ℕ) (cs : List ℕ) → n < 2 ^ 64 → c ∷ cs ≡ decimal n → (48 ≤ c) × (c ≤ 57)
begins_with_digit n c cs small e = digit_from_value c (subst (AllDigits 10) (sym e) (decimal_is_IsNumeral n small).0.1).0

no_number : (n c : ℕ) (cs : List ℕ) → n < 2 ^ 64 → 57 < c → c ∷ cs ≡ decimal n → ⊥
no_number n c cs small above e = omega (arith, begins_with_digit n c cs small e, above)

no_key : (digits : List ℕ) → codes "inner" ≡ codes "key:" ++ digits → ⊥
no_key digits e = let first : 105 ≡ 107 = ap (λ (xs : List ℕ). get_or xs 0 0) e in omega (arith, first)

one_tail : (digits others : List ℕ) → codes "key:" ++ digits ≡ codes "key:" ++ others → digits ≡ others
one_tail digits others e = ap (drop 4) e

pub one_step : (text : List ℕ) (s t : Step) → SpellsStep text s → SpellsStep text t → s ≡ t
one_step text (item n) (item m) h k = ap item (decimal_injective n m h.1 k.1 (sym h.0 ∙ k.0))
one_step text (item n) inner h k = absurd (no_number n 105 _ h.1 (omega arith) (sym k ∙ h.0))
one_step text (item n) (key bytes) h k = absurd (no_number n 107 _ h.1 (omega arith) (sym k.1 ∙ h.0))
one_step text inner (item m) h k = absurd (no_number m 105 _ k.1 (omega arith) (sym h ∙ k.0))
one_step text inner inner h k = refl
one_step text inner (key bytes) h k = absurd (no_key k.0 (sym h ∙ k.1))
one_step text (key bytes) (item m) h k = absurd (no_number m 107 _ k.1 (omega arith) (sym h.1 ∙ k.0))
one_step text (key bytes) inner h k = absurd (no_key h.0 (sym k ∙ h.1))
one_step text (key bytes) (key others) h k =
    let same : h.0 ≡ k.0 = one_tail h.0 k.0 (sym h.1 ∙ k.1) in
    let decoded : Ok bytes ≡ Ok others = sym h.2 ∙ ap decode_of same ∙ k.2 in cc

-- `key:` followed by invalid digits spells no step
pub no_step : (text digits : List ℕ) → text ≡ codes "key:" ++ digits → ((bytes : List ℕ) → decode_of digits ≡ Ok bytes → ⊥)
    → (s : Step) → SpellsStep text s → ⊥
no_step text digits is none (item n) h = no_number n 107 _ h.1 (omega arith) (sym is ∙ h.0)
no_step text digits is none inner h = no_key digits (sym h ∙ is)
no_step text digits is none (key bytes) h = none bytes (ap decode_of (one_tail digits h.0 (sym is ∙ h.1)) ∙ h.2)

-- ---- no step's text has a slash

abbrev IsNoSlash : ℕ → Type 0
IsNoSlash b = (b == 47) ≡ false

abbrev pub HasNoSlash : List ℕ → Type 0
HasNoSlash = All (λ b. (b == 47) ≡ false)

digits_have_none : (ds : List ℕ) → AllDigits 10 ds → HasNoSlash ds
digits_have_none [] h = All-nil IsNoSlash
digits_have_none (c ∷ cs) h = All-cons IsNoSlash c cs (ne_eqb c 47 (λ e. omega (arith, e, digit_from_value c h.0))) (digits_have_none cs h.1)

hex_digit_is_none : (c : ℕ) → is_hex_digit c ≡ true → (c == 47) ≡ false
hex_digit_is_none c h = ne_eqb c 47 (λ e. true≢false (sym h ∙ ap is_hex_digit e))

none_by : (xs : List ℕ) → list_all (λ b. not (b == 47)) xs ≡ true → HasNoSlash xs
none_by xs h = All-weaker (λ b. not (b == 47) ≡ true) IsNoSlash (λ b e. not-true (b == 47) e) xs (AllPass-from_list_all (λ b. not (b == 47)) xs h)

pub has_no_slash : (text : List ℕ) (s : Step) → SpellsStep text s → HasNoSlash text
has_no_slash text (item n) h = subst HasNoSlash (sym h.0) (digits_have_none (decimal n) (decimal_is_IsNumeral n h.1).0.1)
has_no_slash text inner h = subst HasNoSlash (sym h) (none_by (codes "inner") refl)
has_no_slash text (key bytes) h =
    let digits : HasNoSlash h.0 = All-weaker (λ b. is_hex_digit b ≡ true) IsNoSlash hex_digit_is_none h.0 (decode_of-ok h.0 bytes h.2).1 in
    subst HasNoSlash (sym h.1) (All-append IsNoSlash (codes "key:") h.0 (none_by (codes "key:") refl) digits)
