-- Text with its hidden characters escaped, character by character.
use Rattle.bcs_tool.proofs.Prelude.{◌≡◌, ◌<◌, ◌≤◌, ◌+◌, ◌-◌, ◌/◌, ◌%◌, ◌++◌, ◌∙◌, ℕ, Bool, true, false, List, [], ◌∷◌, Option, Result, Ok, Err, IsUtf8, ap, refl, sym, subst, length, length-append, take, arith, flat_map, append_assoc, append-nil, encode_utf8, chars, IfErr, OnOk, OnErr, take-append-add, chars_past_char, chars-nil, Took, TookThenFailed, TookThenFailed-then, Took-then, numbered, PutFront, escape, is_hidden, visible_char, usage_text, visible}
use Rattle.std.specs.Prelude.{codes}

-- ---- one character

pub shown_hidden : (keeps : Bool) (c : ℕ) → is_hidden keeps c ≡ true → visible_char keeps c ≡ escape c
unfolding visible_char
shown_hidden keeps c is = rw is refl

pub shown_plain : (keeps : Bool) (c : ℕ) → is_hidden keeps c ≡ false → visible_char keeps c ≡ encode_utf8 c
unfolding visible_char
shown_plain keeps c is = rw is refl

pub escape_low : (c : ℕ) → c < 65536 → escape c ≡ numbered c
unfolding escape
escape_low c low = grind arith

pub escape_high : (c : ℕ) → 65536 ≤ c → escape c ≡ numbered (55296 + (c - 65536) / 1024) ++ numbered (56320 + (c - 65536) % 1024)
unfolding escape
escape_high c high = grind arith

-- ---- the characters that are left

pub left_visible : (keeps : Bool) (text : List ℕ) → flat_map (visible_char keeps) (chars text) ≡ visible keeps text
unfolding visible
left_visible keeps text = refl

-- the first character is removed
pub left_after : (keeps : Bool) (before after : List ℕ) (c : ℕ) → IsUtf8 before → before ≡ encode_utf8 c ++ after
    → visible_char keeps c ++ flat_map (visible_char keeps) (chars after) ≡ flat_map (visible_char keeps) (chars before)
left_after keeps before after c text begins = sym (ap (flat_map (visible_char keeps)) (chars_past_char before after c text begins))

pub left_none : (keeps : Bool) (rest : List ℕ) → length rest ≡ 0 → flat_map (visible_char keeps) (chars rest) ≡ []
left_none keeps [] none = ap (flat_map (visible_char keeps)) chars-nil
left_none keeps (b ∷ bs) none = absurd (omega arith)

-- if lines aren't kept, a line end follows
pub usage_line : (keeps : Bool) (text : List ℕ) → keeps ≡ false → visible keeps text ++ codes "\n" ≡ usage_text keeps text
usage_line keeps text is = rw is refl

-- ---- what was written

module _ {K : Type 0} (taken : K → Option (List ℕ)) (is_failed : K → Bool) where
  -- one text, and then a prefix of another
  pub front_then : (a b c : K) (xs ys : List ℕ) → Took taken is_failed a b xs → PutFront taken is_failed b c ys → PutFront taken is_failed a c (xs ++ ys)
  front_then a b c xs ys first (n, short, lost) =
      (length xs + n, omega (arith, length-append xs ys), subst (λ (bs : List ℕ). TookThenFailed taken is_failed a c bs) (sym (take-append-add xs ys n)) (TookThenFailed-then taken is_failed a b c xs (take n ys) first lost))

  -- what a call reports about a text that it wrote in part
  pub part_of : {A : Type 0} (r : Result A ℕ) (a b : K) (text : List ℕ)
      → IfErr r (λ n. (n < length text) × TookThenFailed taken is_failed a b (take n text)) → OnErr r (PutFront taken is_failed a b text)
  part_of (Ok v) a b text part = tt
  part_of (Err n) a b text part = (n, part.0, part.1)

  pub whole_then : {A B : Type 0} (r : Result A B) (a b c : K) (xs ys : List ℕ)
      → Took taken is_failed a b xs → OnOk r (Took taken is_failed b c ys) → OnOk r (Took taken is_failed a c (xs ++ ys))
  whole_then (Ok v) a b c xs ys first next = Took-then taken is_failed a b c xs ys first next
  whole_then (Err e) a b c xs ys first next = tt

  pub part_then : {A B : Type 0} (r : Result A B) (a b c : K) (xs ys : List ℕ)
      → Took taken is_failed a b xs → OnErr r (PutFront taken is_failed b c ys) → OnErr r (PutFront taken is_failed a c (xs ++ ys))
  part_then (Ok v) a b c xs ys first next = tt
  part_then (Err e) a b c xs ys first next = front_then a b c xs ys first next

-- ---- all characters

nothing_left : (rest : List ℕ) → length rest ≡ 0 → rest ≡ []
nothing_left [] none = refl
nothing_left (b ∷ bs) none = absurd (omega arith)

pub all_put : (keeps : Bool) (text done rest : List ℕ) → length rest ≡ 0
    → done ++ flat_map (visible_char keeps) (chars rest) ≡ visible keeps text → done ≡ visible keeps text
all_put keeps text done rest none whole =
    sym (append-nil done) ∙ ap (λ (bs : List ℕ). done ++ bs) (sym (left_none keeps rest none)) ∙ whole

pub none_hidden : (keeps : Bool) (text done rest : List ℕ) → length rest ≡ 0 → done ++ rest ≡ text
    → done ++ flat_map (visible_char keeps) (chars rest) ≡ visible keeps text → visible keeps text ≡ text
none_hidden keeps text done rest none same whole =
    sym (all_put keeps text done rest none whole) ∙ sym (append-nil done) ∙ ap (λ (bs : List ℕ). done ++ bs) (sym (nothing_left rest none)) ∙ same

-- one more character was written
pub one_more : (keeps : Bool) (text done before after : List ℕ) (c : ℕ) → IsUtf8 before → before ≡ encode_utf8 c ++ after
    → done ++ flat_map (visible_char keeps) (chars before) ≡ visible keeps text
    → (done ++ visible_char keeps c) ++ flat_map (visible_char keeps) (chars after) ≡ visible keeps text
one_more keeps text done before after c utf8 begins whole =
    append_assoc done _ _ ∙ ap (λ (bs : List ℕ). done ++ bs) (left_after keeps before after c utf8 begins) ∙ whole
