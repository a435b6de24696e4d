-- Each word spells the steps of a path, or it spells none.
use Rattle.bcs_decode_parts.proofs.Prelude.{◌≡◌, ◌∙◌, ◌++◌, ◌<◌, ◌^◌, ◌⊎◌, inl, inr, ℕ, List, [], ◌∷◌, Bool, true, false, Result, Ok, Err, ap, arith, codes, decimal, drop, nat_lt, refl, sym, true≢false, Decides-ltb, decimal_is_IsNumeral, bytes_eq-Decides, AllZip, digits_value, decode_of, FromHexError, Step, item, inner, key, SpellsNoPath, SpellsPath, SpellsStep}
use Rattle.std.proofs.Common.{bytes_eq}
use Rattle.bcs_decode_parts.proofs.Parts.{parts, parts_spell, spelled_by_parts}

-- ---- a step

equal_or_not : (xs ys : List ℕ) → (xs ≡ ys) ⊎ (xs ≡ ys → ⊥)
equal_or_not xs ys = at (bytes_eq xs ys) refl
  where
    at : (b : Bool) → bytes_eq xs ys ≡ b → (xs ≡ ys) ⊎ (xs ≡ ys → ⊥)
    at true is = inl ((bytes_eq-Decides xs ys).0 is)
    at false is = inr (λ same. true≢false (sym ((bytes_eq-Decides xs ys).1 same) ∙ is))

-- a text is a decimal number of 64 bits, or it isn't
some_number : (text : List ℕ) → ((n : ℕ) × SpellsStep text (item n)) ⊎ ((n : ℕ) → SpellsStep text (item n) → ⊥)
some_number text = at (nat_lt (digits_value 10 text) (2 ^ 64)) refl (equal_or_not text (decimal (digits_value 10 text)))
  where
    value : (n : ℕ) → SpellsStep text (item n) → digits_value 10 text ≡ n
    value n h = ap (digits_value 10) h.0 ∙ (decimal_is_IsNumeral n h.1).1

    at : (b : Bool) → nat_lt (digits_value 10 text) (2 ^ 64) ≡ b → (text ≡ decimal (digits_value 10 text)) ⊎ (text ≡ decimal (digits_value 10 text) → ⊥)
        → ((n : ℕ) × SpellsStep text (item n)) ⊎ ((n : ℕ) → SpellsStep text (item n) → ⊥)
    at true is (inl same) = inl (digits_value 10 text, (same, (Decides-ltb (digits_value 10 text) (2 ^ 64)).0 is))
    at true is (inr other) = inr (λ n h. other (h.0 ∙ ap decimal (sym (value n h))))
    at false is e =
        inr
        (λ n h.
        let small : digits_value 10 text < 2 ^ 64 = omega (arith, value n h, h.1) in
        true≢false (sym ((Decides-ltb (digits_value 10 text) (2 ^ 64)).1 small) ∙ is))

-- a text is `key:` and hexadecimal digits, or it isn't
some_key : (text : List ℕ) → ((bytes : List ℕ) × SpellsStep text (key bytes)) ⊎ ((bytes : List ℕ) → SpellsStep text (key bytes) → ⊥)
some_key text = at (equal_or_not text (codes "key:" ++ drop 4 text)) (decode_of (drop 4 text)) refl
  where
    tail : (bytes : List ℕ) (h : SpellsStep text (key bytes)) → drop 4 text ≡ h.0
    tail bytes h = ap (drop 4) h.1

    at : (text ≡ codes "key:" ++ drop 4 text) ⊎ (text ≡ codes "key:" ++ drop 4 text → ⊥) → (o : Result (List ℕ) FromHexError) → decode_of (drop 4 text) ≡ o
        → ((bytes : List ℕ) × SpellsStep text (key bytes)) ⊎ ((bytes : List ℕ) → SpellsStep text (key bytes) → ⊥)
    at (inl same) (Ok bytes) is = inl (bytes, (drop 4 text, same, is))
    at (inl same) (Err e) is = inr (λ bytes h. let ok : Ok bytes ≡ Err e = sym h.2 ∙ ap decode_of (sym (tail bytes h)) ∙ is in cc)
    at (inr other) o is = inr (λ bytes h. other (h.1 ∙ ap (λ (digits : List ℕ). codes "key:" ++ digits) (sym (tail bytes h))))

pub some_step : (text : List ℕ) → ((s : Step) × SpellsStep text s) ⊎ ((s : Step) → SpellsStep text s → ⊥)
some_step text = at (some_number text) (equal_or_not text (codes "inner")) (some_key text)
  where
    none : ((n : ℕ) → SpellsStep text (item n) → ⊥) → (text ≡ codes "inner" → ⊥) → ((bytes : List ℕ) → SpellsStep text (key bytes) → ⊥) → (s : Step) → SpellsStep text s → ⊥
    none a b c (item n) h = a n h
    none a b c inner h = b h
    none a b c (key bytes) h = c bytes h

    at : ((n : ℕ) × SpellsStep text (item n)) ⊎ ((n : ℕ) → SpellsStep text (item n) → ⊥) → (text ≡ codes "inner") ⊎ (text ≡ codes "inner" → ⊥)
        → ((bytes : List ℕ) × SpellsStep text (key bytes)) ⊎ ((bytes : List ℕ) → SpellsStep text (key bytes) → ⊥) → ((s : Step) × SpellsStep text s) ⊎ ((s : Step) → SpellsStep text s → ⊥)
    at (inl n) b c = inl (item n.0, n.1)
    at (inr a) (inl is) c = inl (inner, is)
    at (inr a) (inr b) (inl k) = inl (key k.0, k.1)
    at (inr a) (inr b) (inr c) = inr (none a b c)

-- ---- a path

abbrev Spell : List (List ℕ) → Type 0
Spell texts = ((path : List Step) × AllZip SpellsStep texts path) ⊎ ((path : List Step) → AllZip SpellsStep texts path → ⊥)

no_first : (text : List ℕ) (texts : List (List ℕ)) → ((s : Step) → SpellsStep text s → ⊥) → (path : List Step) → AllZip SpellsStep (text ∷ texts) path → ⊥
no_first text texts none [] h = h
no_first text texts none (s ∷ path) h = none s h.0

no_rest : (text : List ℕ) (texts : List (List ℕ)) → ((path : List Step) → AllZip SpellsStep texts path → ⊥) → (path : List Step) → AllZip SpellsStep (text ∷ texts) path → ⊥
no_rest text texts none [] h = h
no_rest text texts none (s ∷ path) h = none path h.1

some_steps : (texts : List (List ℕ)) → Spell texts
some_steps [] = inl ([], tt)
some_steps (text ∷ texts) = at (some_step text) (some_steps texts)
  where
    at : ((s : Step) × SpellsStep text s) ⊎ ((s : Step) → SpellsStep text s → ⊥) → Spell texts → Spell (text ∷ texts)
    at (inl s) (inl path) = inl (s.0 ∷ path.0, (s.1, path.1))
    at (inl s) (inr none) = inr (no_rest text texts none)
    at (inr none) rest = inr (no_first text texts none)

pub some_path : (word : List ℕ) → ((path : List Step) × SpellsPath word path) ⊎ SpellsNoPath word
some_path word = at (equal_or_not word (codes ".")) (some_steps (parts word))
  where
    none : (word ≡ codes "." → ⊥) → ((path : List Step) → AllZip SpellsStep (parts word) path → ⊥) → SpellsNoPath word
    none a b [] h = a h
    none a b (s ∷ path) h = b (s ∷ path) (spelled_by_parts word s path h)

    at : (word ≡ codes ".") ⊎ (word ≡ codes "." → ⊥) → Spell (parts word) → ((path : List Step) × SpellsPath word path) ⊎ SpellsNoPath word
    at (inl is) b = inl ([], is)
    at (inr a) (inl path) = inl (path.0, parts_spell word path.0 path.1)
    at (inr a) (inr b) = inr (none a b)
