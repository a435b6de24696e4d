-- Names and their steps, one to one.
use Rattle.bcs_part_names.proofs.Prelude.{◌≡◌, ◌∙◌, ◌==◌, ◌&&◌, ◌+◌, ◌<◌, ◌≤◌, ◌^◌, ◌∷◌, ◌++◌, [], eqb-true, ne_eqb, ℕ, suc, List, Bool, true, false, ap, arith, codes, decimal, get_or, refl, sym, subst, true≢false, length, drop, take, nat_lt, Decides-ltb, if◌then◌else◌, Option, Some, None, Result, Ok, Err, append_assoc, length-append, take-append-drop, take_at, drop_at, bytes_eq, bytes_eq-Decides, decode_of, digits_value, encode_lower, decode_of-encode_lower, FromHexError, bracketed, closed_len, coloned, cut, exact_key, field, followed_by, head_step, entry_key, entry_value, numbered, in_brackets, inside, closing, quoted_len, not, AllDigits, decimal_is_IsNumeral, digit_from_value, IsBytes, is_mark, item, key, key_of, label_len, labelled, name_steps, name_text, NameStep, number_of, plain_len, step_text, steps_of, steps_text, then_steps, before_all, variant, All}
use Rattle.std.proofs.lemmas.List.Elements.{All-append, All-cons, All-head, All-nil, All-tail, All-weaker}
use Rattle.std.proofs.lemmas.List.Sums.{AllPass-from_list_all}
use Rattle.std.specs.List.{list_all}
use Rattle.hex.proofs.HexLemmas.{decode_of-ok}
use Rattle.hex.specs.Hex.{is_hex_digit}
use Rattle.std.proofs.lemmas.Bool.{not-true}
use Rattle.bcs_part_names.proofs.Numbers.{number_is}
use Rattle.bcs_part_names.proofs.Steps.{steps_next, steps_none}
use Rattle.bcs_part_names.specs.NameLaws.{IsLabel, IsStep, NamesAreExact, NamesComeBack}

-- ---- a text that is read is the text of its steps

abbrev IsFirst : List ℕ → Option (NameStep × List ℕ) → Type 0
IsFirst text None = Unit {0}
IsFirst text (Some r) = step_text r.0 ++ r.1 ≡ text

cut_field : (text : List ℕ) (n : ℕ) → IsFirst (46 ∷ text) (cut field text n)
cut_field text n = at (n == 0)
  where
    at : (b : Bool) → IsFirst (46 ∷ text) (if b then None else Some (field (take n text), drop n text))
    at true = tt
    at false = ap (λ (xs : List ℕ). 46 ∷ xs) (take-append-drop n text)

cut_variant : (text : List ℕ) (n : ℕ) → IsFirst (58 ∷ 58 ∷ text) (cut variant text n)
cut_variant text n = at (n == 0)
  where
    at : (b : Bool) → IsFirst (58 ∷ 58 ∷ text) (if b then None else Some (variant (take n text), drop n text))
    at true = tt
    at false = ap (λ (xs : List ℕ). 58 ∷ 58 ∷ xs) (take-append-drop n text)

colon_first : (text : List ℕ) → IsFirst (58 ∷ text) (coloned text)
colon_first [] = tt
colon_first (d ∷ text) = at (d == 58) refl
  where
    at : (b : Bool) → (d == 58) ≡ b → IsFirst (58 ∷ d ∷ text) (if b then labelled variant text else None)
    at true is = subst (λ (x : ℕ). IsFirst (58 ∷ x ∷ text) (labelled variant text)) (sym (eqb-true d 58 is)) (cut_variant text (label_len text))
    at false is = tt

-- what is in brackets is the text of the step without its brackets
abbrev Prints : List ℕ → Option NameStep → Type 0
Prints text None = Unit {0}
Prints text (Some s) = step_text s ≡ 91 ∷ (text ++ 93 ∷ [])

number_exact : (text : List ℕ) (n : ℕ) → number_of text ≡ Some n → decimal n ≡ text
number_exact text n = at (bytes_eq text (decimal (digits_value 10 text))) (nat_lt (digits_value 10 text) (2 ^ 64)) refl
  where
    at : (a b : Bool) → bytes_eq text (decimal (digits_value 10 text)) ≡ a → (if a && b then Some (digits_value 10 text) else None) ≡ Some n → decimal n ≡ text
    at true true is e =
        let same : digits_value 10 text ≡ n = cc in
        sym ((bytes_eq-Decides text (decimal (digits_value 10 text))).0 is ∙ ap decimal same)
    at true false is e = cc
    at false b is e = cc

prints_numbered : (front : List ℕ) (make : ℕ → NameStep) → ((n : ℕ) → step_text (make n) ≡ 91 ∷ ((front ++ decimal n) ++ 93 ∷ []))
    → (text : List ℕ) → Prints (front ++ text) (numbered make (number_of text))
prints_numbered front make spells text = at (number_of text) refl
  where
    at : (o : Option ℕ) → number_of text ≡ o → Prints (front ++ text) (numbered make o)
    at None is = tt
    at (Some n) is = spells n ∙ ap (λ (xs : List ℕ). 91 ∷ ((front ++ xs) ++ 93 ∷ [])) (number_exact text n is)

prints_key : (text : List ℕ) → Prints (codes "key:" ++ text) (key_of text)
prints_key text = by (decode_of text)
  where
    by : (r : Result (List ℕ) FromHexError) → Prints (codes "key:" ++ text) (exact_key text r)
    by (Err fault) = tt
    by (Ok bytes) = at (bytes_eq text (encode_lower bytes)) refl
      where
        at : (b : Bool) → bytes_eq text (encode_lower bytes) ≡ b → Prints (codes "key:" ++ text) (if b then Some (key bytes) else None)
        at true is = ap (λ (xs : List ℕ). 91 ∷ ((codes "key:" ++ xs) ++ 93 ∷ [])) (sym ((bytes_eq-Decides text (encode_lower bytes)).0 is))
        at false is = tt

begins : (n : ℕ) (front text : List ℕ) → bytes_eq (take n text) front ≡ true → front ++ drop n text ≡ text
begins n front text is = ap (λ (xs : List ℕ). xs ++ drop n text) (sym ((bytes_eq-Decides (take n text) front).0 is)) ∙ take-append-drop n text

prints : (text : List ℕ) → Prints text (in_brackets text)
prints text = at (bytes_eq (take 4 text) (codes "key:")) (bytes_eq (take 6 text) (codes "value ")) (bytes_eq (take 4 text) (codes "key ")) refl refl refl
  where
    at : (a b c : Bool) → bytes_eq (take 4 text) (codes "key:") ≡ a → bytes_eq (take 6 text) (codes "value ") ≡ b → bytes_eq (take 4 text) (codes "key ") ≡ c
        → Prints text (if a then key_of (drop 4 text) else if b then numbered entry_value (number_of (drop 6 text))
        else if c then numbered entry_key (number_of (drop 4 text)) else numbered item (number_of text))
    at true b c is h k = subst (λ (xs : List ℕ). Prints xs (key_of (drop 4 text))) (begins 4 (codes "key:") text is) (prints_key (drop 4 text))
    at false true c h is k =
        subst (λ (xs : List ℕ). Prints xs (numbered entry_value (number_of (drop 6 text)))) (begins 6 (codes "value ") text is)
        (prints_numbered (codes "value ") entry_value (λ n. refl) (drop 6 text))
    at false false true h k is =
        subst (λ (xs : List ℕ). Prints xs (numbered entry_key (number_of (drop 4 text)))) (begins 4 (codes "key ") text is)
        (prints_numbered (codes "key ") entry_key (λ n. refl) (drop 4 text))
    at false false false h k is = prints_numbered [] item (λ n. refl) text

closed_step : (c k : ℕ) (cs : List ℕ) → take k cs ++ (93 ∷ drop (k + 1) cs) ≡ cs → take (k + 1) (c ∷ cs) ++ (93 ∷ drop (k + 1 + 1) (c ∷ cs)) ≡ c ∷ cs
closed_step c k cs h =
    let one : k + 1 ≡ suc k = omega arith in
    let two : k + 1 + 1 ≡ suc (k + 1) = omega arith in
    ap (λ (n : ℕ). take n (c ∷ cs) ++ (93 ∷ drop (k + 1 + 1) (c ∷ cs))) one
    ∙ ap (λ (n : ℕ). take (suc k) (c ∷ cs) ++ (93 ∷ drop n (c ∷ cs))) two ∙ ap (λ (xs : List ℕ). c ∷ xs) h

-- the bytes before the first `]`, the bracket, and the rest
closed_at : (text : List ℕ) → closed_len text < length text → take (closed_len text) text ++ (93 ∷ drop (closed_len text + 1) text) ≡ text
closed_at [] lt = absurd (omega arith)
closed_at (c ∷ cs) lt = at (c == 93) refl lt (closed_at cs)
  where
    at : (b : Bool) → (c == 93) ≡ b → (if b then 0 else closed_len cs + 1) < suc (length cs)
        → (closed_len cs < length cs → take (closed_len cs) cs ++ (93 ∷ drop (closed_len cs + 1) cs) ≡ cs)
        → take (if b then 0 else closed_len cs + 1) (c ∷ cs) ++ (93 ∷ drop ((if b then 0 else closed_len cs + 1) + 1) (c ∷ cs)) ≡ c ∷ cs
    at true is lt more = ap (λ (x : ℕ). x ∷ cs) (sym (eqb-true c 93 is))
    at false is lt more = closed_step c (closed_len cs) cs (more (omega arith))

bracket_first : (text : List ℕ) → IsFirst (91 ∷ text) (bracketed text)
bracket_first text = at (nat_lt (closed_len text) (length text)) refl
  where
    by : closed_len text < length text → (o : Option NameStep) → Prints (take (closed_len text) text) o
        → IsFirst (91 ∷ text) (followed_by (drop (closed_len text + 1) text) o)
    by lt None h = tt
    by lt (Some s) h =
        ap (λ (xs : List ℕ). xs ++ drop (closed_len text + 1) text) h
        ∙ ap (λ (xs : List ℕ). 91 ∷ xs) (append_assoc (take (closed_len text) text) (93 ∷ []) (drop (closed_len text + 1) text) ∙ closed_at text lt)

    at : (b : Bool) → nat_lt (closed_len text) (length text) ≡ b
        → IsFirst (91 ∷ text) (if b then followed_by (drop (closed_len text + 1) text) (in_brackets (take (closed_len text) text)) else None)
    at true is = by ((Decides-ltb (closed_len text) (length text)).0 is) (in_brackets (take (closed_len text) text)) (prints (take (closed_len text) text))
    at false is = tt

first_is : (c : ℕ) (text : List ℕ) → IsFirst (c ∷ text) (head_step (c ∷ text))
first_is c text = at (c == 46) (c == 58) (c == 63) (c == 91) refl refl refl refl
  where
    at : (p q r s : Bool) → (c == 46) ≡ p → (c == 58) ≡ q → (c == 63) ≡ r → (c == 91) ≡ s → IsFirst (c ∷ text)
        (if p then labelled field text else if q then coloned text else if r then Some (inside, text) else if s then bracketed text else None)
    at true q r s is qs rs ss = subst (λ (x : ℕ). IsFirst (x ∷ text) (labelled field text)) (sym (eqb-true c 46 is)) (cut_field text (label_len text))
    at false true r s ps is rs ss = subst (λ (x : ℕ). IsFirst (x ∷ text) (coloned text)) (sym (eqb-true c 58 is)) (colon_first text)
    at false false true s ps qs is ss = ap (λ (x : ℕ). x ∷ text) (sym (eqb-true c 63 is))
    at false false false true ps qs rs is = subst (λ (x : ℕ). IsFirst (x ∷ text) (bracketed text)) (sym (eqb-true c 91 is)) (bracket_first text)
    at false false false false ps qs rs ss = tt

exact_next : (s : NameStep) (steps : List NameStep) (text : List ℕ) → ((rest : List ℕ) → steps_of rest ≡ Some steps → steps_text steps ≡ rest)
    → (o : Option (NameStep × List ℕ)) → IsFirst text o → then_steps steps_of o ≡ Some (s ∷ steps) → step_text s ++ steps_text steps ≡ text
exact_next s steps text more None first is = cc
exact_next s steps text more (Some r) first is = at (steps_of r.1) refl is
  where
    at : (o : Option (List NameStep)) → steps_of r.1 ≡ o → before_all r.0 o ≡ Some (s ∷ steps) → step_text s ++ steps_text steps ≡ text
    at None k e = cc
    at (Some rest) k e =
        let same : s ≡ r.0 = cc in
        let others : rest ≡ steps = cc in
        ap (λ (x : NameStep). step_text x ++ steps_text steps) same
        ∙ ap (λ (xs : List ℕ). step_text r.0 ++ xs) (more r.1 (k ∙ ap Some others)) ∙ first

exact_none : (text : List ℕ) (o : Option (NameStep × List ℕ)) → then_steps steps_of o ≡ Some [] → ⊥
exact_none text None is = cc
exact_none text (Some r) is = at (steps_of r.1) is
  where
    at : (o : Option (List NameStep)) → before_all r.0 o ≡ Some [] → ⊥
    at None e = cc
    at (Some rest) e = cc

exact_steps : (steps : List NameStep) (text : List ℕ) → steps_of text ≡ Some steps → steps_text steps ≡ text
exact_steps [] [] is = refl
exact_steps [] (c ∷ text) is = absurd (exact_none text (head_step (c ∷ text)) (sym (steps_next c text) ∙ is))
exact_steps (s ∷ steps) [] is = let none : Some [] ≡ Some (s ∷ steps) = sym steps_none ∙ is in cc
exact_steps (s ∷ steps) (c ∷ text) is =
    exact_next s steps (c ∷ text) (λ rest k. exact_steps steps rest k) (head_step (c ∷ text)) (first_is c text) (sym (steps_next c text) ∙ is)

pub names_are_exact : NamesAreExact
names_are_exact [] steps is = cc
names_are_exact (c ∷ cs) steps is = at (bytes_eq (c ∷ cs) (codes ".")) refl steps is
  where
    at : (b : Bool) → bytes_eq (c ∷ cs) (codes ".") ≡ b → (steps : List NameStep) → (if b then Some [] else steps_of (c ∷ cs)) ≡ Some steps → name_text steps ≡ c ∷ cs
    at true t [] e = sym ((bytes_eq-Decides (c ∷ cs) (codes ".")).0 t)
    at true t (s ∷ ss) e = cc
    at false t [] e = let whole : [] ≡ c ∷ cs = exact_steps [] (c ∷ cs) e in cc
    at false t (s ∷ ss) e = exact_steps (s ∷ ss) (c ∷ cs) e

-- ---- steps come back from their text

-- a text before which a label ends: it is empty, or begins with a mark
abbrev IsFresh : List ℕ → Type 0
IsFresh text = plain_len text ≡ 0

fresh : (steps : List NameStep) → IsFresh (steps_text steps)
fresh [] = refl
fresh (field label ∷ steps) = refl
fresh (variant label ∷ steps) = refl
fresh (inside ∷ steps) = refl
fresh (item n ∷ steps) = refl
fresh (key bytes ∷ steps) = refl
fresh (entry_value n ∷ steps) = refl
fresh (entry_key n ∷ steps) = refl

closing_keeps : (n : ℕ) (after : Bool) (cs rest : List ℕ) (m : ℕ) → closing n after cs ≡ Some m → closing n after (cs ++ rest) ≡ Some m
closing_keeps n after [] rest m is = cc
closing_keeps n true (c ∷ cs) rest m is = closing_keeps (n + 1) false cs rest m is
closing_keeps n false (c ∷ cs) rest m is = at (c == 34) is (closing_keeps (n + 1) (c == 92) cs rest m)
  where
    at : (b : Bool) → (if b then Some n else closing (n + 1) (c == 92) cs) ≡ Some m
        → (closing (n + 1) (c == 92) cs ≡ Some m → closing (n + 1) (c == 92) (cs ++ rest) ≡ Some m)
        → (if b then Some n else closing (n + 1) (c == 92) (cs ++ rest)) ≡ Some m
    at true e more = e
    at false e more = more e

plain_keeps : (cs rest : List ℕ) → plain_len cs ≡ length cs → IsFresh rest → plain_len (cs ++ rest) ≡ length cs
plain_keeps [] rest is h = h
plain_keeps (c ∷ cs) rest is h = at (is_mark c) is (λ e. plain_keeps cs rest e h)
  where
    at : (b : Bool) → (if b then 0 else plain_len cs + 1) ≡ suc (length cs) → (plain_len cs ≡ length cs → plain_len (cs ++ rest) ≡ length cs)
        → (if b then 0 else plain_len (cs ++ rest) + 1) ≡ suc (length cs)
    at true e more = absurd (omega arith)
    at false e more = let same = more (omega arith) in omega (arith, same)

label_keeps : (cs rest : List ℕ) → IsLabel cs → IsFresh rest → label_len (cs ++ rest) ≡ length cs
label_keeps [] rest is h = absurd (is.0 refl)
label_keeps (c ∷ cs) rest is h = at (c == 34) is.1 (λ e. plain_keeps (c ∷ cs) rest e h)
  where
    by : (o : Option ℕ) → closing 0 false cs ≡ o → quoted_len o ≡ suc (length cs) → quoted_len (closing 0 false (cs ++ rest)) ≡ suc (length cs)
    by None k e = absurd (omega arith)
    by (Some m) k e = ap quoted_len (closing_keeps 0 false cs rest m k) ∙ e

    at : (b : Bool) → (if b then quoted_len (closing 0 false cs) else plain_len (c ∷ cs)) ≡ suc (length cs)
        → (plain_len (c ∷ cs) ≡ suc (length cs) → plain_len (c ∷ (cs ++ rest)) ≡ suc (length cs))
        → (if b then quoted_len (closing 0 false (cs ++ rest)) else plain_len (c ∷ (cs ++ rest))) ≡ suc (length cs)
    at true e more = by (closing 0 false cs) refl e
    at false e more = more e

no_bytes : (xs : List ℕ) → length xs ≡ 0 → xs ≡ []
no_bytes [] e = refl
no_bytes (x ∷ xs) e = absurd (omega arith)

cut_label : (make : List ℕ → NameStep) (label rest : List ℕ) → IsLabel label → IsFresh rest → labelled make (label ++ rest) ≡ Some (make label, rest)
cut_label make label rest is h =
    let size : label_len (label ++ rest) ≡ length label = label_keeps label rest is h in
    let some : (length label == 0) ≡ false = ne_eqb (length label) 0 (λ e. is.0 (no_bytes label e)) in
    ap (cut make (label ++ rest)) size
    ∙ ap (λ (b : Bool). if b then None else Some (make (take (length label) (label ++ rest)), drop (length label) (label ++ rest))) some
    ∙ ap (λ (xs : List ℕ). Some (make xs, drop (length label) (label ++ rest))) (take_at label rest (length label) refl)
    ∙ ap (λ (xs : List ℕ). Some (make label, xs)) (drop_at label rest (length label) refl)

-- ---- brackets

abbrev IsOpen : ℕ → Type 0
IsOpen c = (c == 93) ≡ false

closed_none : (cs : List ℕ) → All IsOpen cs → closed_len cs ≡ length cs
closed_none [] h = refl
closed_none (c ∷ cs) h = at (c == 93) (All-head IsOpen c cs h) (closed_none cs (All-tail IsOpen c cs h))
  where
    at : (b : Bool) → b ≡ false → closed_len cs ≡ length cs → (if b then 0 else closed_len cs + 1) ≡ suc (length cs)
    at true e more = absurd (true≢false e)
    at false e more = omega arith

closed_is : (cs rest : List ℕ) → closed_len cs ≡ length cs → closed_len (cs ++ 93 ∷ rest) ≡ length cs
closed_is [] rest h = refl
closed_is (c ∷ cs) rest h = at (c == 93) h (closed_is cs rest)
  where
    at : (b : Bool) → (if b then 0 else closed_len cs + 1) ≡ suc (length cs) → (closed_len cs ≡ length cs → closed_len (cs ++ 93 ∷ rest) ≡ length cs)
        → (if b then 0 else closed_len (cs ++ 93 ∷ rest) + 1) ≡ suc (length cs)
    at true e more = absurd (omega arith)
    at false e more = let same = more (omega arith) in omega (arith, same)

bracket_is : (body rest : List ℕ) → All IsOpen body → bracketed (body ++ 93 ∷ rest) ≡ followed_by rest (in_brackets body)
bracket_is body rest opens =
    let size : closed_len (body ++ 93 ∷ rest) ≡ length body = closed_is body rest (closed_none body opens) in
    let long : length body < length (body ++ 93 ∷ rest) = omega (arith, length-append body (93 ∷ rest)) in
    let test : nat_lt (length body) (length (body ++ 93 ∷ rest)) ≡ true = (Decides-ltb _ _).1 long in
    let behind : drop (length body + 1) (body ++ 93 ∷ rest) ≡ rest =
    ap (drop (length body + 1)) (sym (append_assoc body (93 ∷ []) rest)) ∙ drop_at (body ++ 93 ∷ []) rest (length body + 1) (omega (arith, length-append body (93 ∷ []))) in
    ap (λ (n : ℕ). if nat_lt n (length (body ++ 93 ∷ rest)) then followed_by (drop (n + 1) (body ++ 93 ∷ rest)) (in_brackets (take n (body ++ 93 ∷ rest))) else None) size
    ∙ ap (λ (b : Bool). if b then followed_by (drop (length body + 1) (body ++ 93 ∷ rest)) (in_brackets (take (length body) (body ++ 93 ∷ rest))) else None) test
    ∙ ap (λ (xs : List ℕ). followed_by (drop (length body + 1) (body ++ 93 ∷ rest)) (in_brackets xs)) (take_at body (93 ∷ rest) (length body) refl)
    ∙ ap (λ (xs : List ℕ). followed_by xs (in_brackets body)) behind

digits_open : (ds : List ℕ) → AllDigits 10 ds → All IsOpen ds
digits_open [] h = All-nil IsOpen
digits_open (c ∷ cs) h = All-cons IsOpen c cs (ne_eqb c 93 (λ e. omega (arith, e, digit_from_value c h.0))) (digits_open cs h.1)

-- no digits begin with a letter
no_letter : (n c : ℕ) (cs text : List ℕ) → 58 ≤ c → AllDigits 10 text → bytes_eq (take (suc n) text) (c ∷ cs) ≡ true → ⊥
no_letter n c cs [] high h is = let e = (bytes_eq-Decides [] (c ∷ cs)).0 is in cc
no_letter n c cs (d ∷ ds) high h is =
    let e : c ≡ d = ap (λ (xs : List ℕ). get_or xs 0 0) (sym ((bytes_eq-Decides (take (suc n) (d ∷ ds)) (c ∷ cs)).0 is)) in
    omega (arith, high, e, digit_from_value d h.0)

number_back : (n : ℕ) → n < 2 ^ 64 → in_brackets (decimal n) ≡ Some (item n)
number_back n small = at (bytes_eq (take 4 (decimal n)) (codes "key:")) (bytes_eq (take 6 (decimal n)) (codes "value ")) (bytes_eq (take 4 (decimal n)) (codes "key ")) refl refl refl
  where
    digits : AllDigits 10 (decimal n)
    digits = (decimal_is_IsNumeral n small).0.1

    at : (a b c : Bool) → bytes_eq (take 4 (decimal n)) (codes "key:") ≡ a → bytes_eq (take 6 (decimal n)) (codes "value ") ≡ b → bytes_eq (take 4 (decimal n)) (codes "key ") ≡ c
        → (if a then key_of (drop 4 (decimal n)) else if b then numbered entry_value (number_of (drop 6 (decimal n)))
        else if c then numbered entry_key (number_of (drop 4 (decimal n))) else numbered item (number_of (decimal n))) ≡ Some (item n)
    at true b c is h k = absurd (no_letter 3 107 (101 ∷ 121 ∷ 58 ∷ []) (decimal n) (omega arith) digits is)
    at false true c h is k = absurd (no_letter 5 118 (97 ∷ 108 ∷ 117 ∷ 101 ∷ 32 ∷ []) (decimal n) (omega arith) digits is)
    at false false true h k is = absurd (no_letter 3 107 (101 ∷ 121 ∷ 32 ∷ []) (decimal n) (omega arith) digits is)
    at false false false h k is = ap (numbered item) (number_is (decimal n) n small refl)

entry_value_back : (n : ℕ) → n < 2 ^ 64 → in_brackets (codes "value " ++ decimal n) ≡ Some (entry_value n)
entry_value_back n small = ap (numbered entry_value) (number_is (decimal n) n small refl)

entry_key_back : (n : ℕ) → n < 2 ^ 64 → in_brackets (codes "key " ++ decimal n) ≡ Some (entry_key n)
entry_key_back n small = ap (numbered entry_key) (number_is (decimal n) n small refl)

list_open : (xs : List ℕ) → list_all (λ b. not (b == 93)) xs ≡ true → All IsOpen xs
list_open xs h = All-weaker (λ b. not (b == 93) ≡ true) IsOpen (λ b e. not-true (b == 93) e) xs (AllPass-from_list_all (λ b. not (b == 93)) xs h)

open_word : (word : List ℕ) (n : ℕ) → n < 2 ^ 64 → list_all (λ b. not (b == 93)) word ≡ true → All IsOpen (word ++ decimal n)
open_word word n small is = All-append IsOpen word (decimal n) (list_open word is) (digits_open (decimal n) (decimal_is_IsNumeral n small).0.1)

exact_back : (bytes : List ℕ) → IsBytes bytes → key_of (encode_lower bytes) ≡ Some (key bytes)
exact_back bytes small =
    ap (exact_key (encode_lower bytes)) (decode_of-encode_lower bytes small)
    ∙ ap (λ (b : Bool). if b then Some (key bytes) else None) ((bytes_eq-Decides (encode_lower bytes) (encode_lower bytes)).1 refl)

key_back : (bytes : List ℕ) → IsBytes bytes → in_brackets (codes "key:" ++ encode_lower bytes) ≡ Some (key bytes)
key_back bytes small = exact_back bytes small

hex_open : (c : ℕ) → is_hex_digit c ≡ true → IsOpen c
hex_open c h = ne_eqb c 93 (λ e. true≢false (sym h ∙ ap is_hex_digit e))

key_open : (bytes : List ℕ) → IsBytes bytes → All IsOpen (codes "key:" ++ encode_lower bytes)
key_open bytes small =
    All-append IsOpen (codes "key:") (encode_lower bytes) (list_open (codes "key:") refl)
    (All-weaker (λ b. is_hex_digit b ≡ true) IsOpen hex_open (encode_lower bytes) (decode_of-ok (encode_lower bytes) bytes (decode_of-encode_lower bytes small)).1)

-- ---- steps

step_back : (s : NameStep) (rest : List ℕ) → IsStep s → IsFresh rest → head_step (step_text s ++ rest) ≡ Some (s, rest)
step_back (field label) rest is h = cut_label field label rest is h
step_back (variant label) rest is h = cut_label variant label rest is h
step_back inside rest is h = refl
step_back (item n) rest is h =
    ap bracketed (append_assoc (decimal n) (93 ∷ []) rest)
    ∙ bracket_is (decimal n) rest (digits_open (decimal n) (decimal_is_IsNumeral n is).0.1) ∙ ap (followed_by rest) (number_back n is)
step_back (key bytes) rest is h =
    ap bracketed (append_assoc (codes "key:" ++ encode_lower bytes) (93 ∷ []) rest)
    ∙ bracket_is (codes "key:" ++ encode_lower bytes) rest (key_open bytes is) ∙ ap (followed_by rest) (key_back bytes is)
step_back (entry_value n) rest is h =
    ap bracketed (append_assoc (codes "value " ++ decimal n) (93 ∷ []) rest)
    ∙ bracket_is (codes "value " ++ decimal n) rest (open_word (codes "value ") n is refl) ∙ ap (followed_by rest) (entry_value_back n is)
step_back (entry_key n) rest is h =
    ap bracketed (append_assoc (codes "key " ++ decimal n) (93 ∷ []) rest)
    ∙ bracket_is (codes "key " ++ decimal n) rest (open_word (codes "key ") n is refl) ∙ ap (followed_by rest) (entry_key_back n is)

by_head : (text : List ℕ) (s : NameStep) (rest : List ℕ) → head_step text ≡ Some (s, rest) → steps_of text ≡ before_all s (steps_of rest)
by_head [] s rest is = cc
by_head (c ∷ text) s rest is = steps_next c text ∙ ap (then_steps steps_of) is

steps_back : (steps : List NameStep) → All IsStep steps → steps_of (steps_text steps) ≡ Some steps
steps_back [] h = steps_none
steps_back (s ∷ steps) h =
    by_head (step_text s ++ steps_text steps) s (steps_text steps) (step_back s (steps_text steps) (All-head IsStep s steps h) (fresh steps))
    ∙ ap (before_all s) (steps_back steps (All-tail IsStep s steps h))

first_byte : (c : ℕ) (text : List ℕ) → c ∷ text ≡ codes "." → c ≡ 46
first_byte c text is = ap (λ (xs : List ℕ). get_or xs 0 0) is

-- no step's text begins a text that is `.`
not_point : (s : NameStep) (rest : List ℕ) → IsStep s → step_text s ++ rest ≡ codes "." → ⊥
not_point (field label) rest h is =
    let long : suc (length (label ++ rest)) ≡ 1 = ap length is in
    h.0 (no_bytes label (omega (arith, long, length-append label rest)))
not_point (variant label) rest h is = let e : 58 ≡ 46 = first_byte 58 _ is in omega (arith, e)
not_point inside rest h is = let e : 63 ≡ 46 = first_byte 63 _ is in omega (arith, e)
not_point (item n) rest h is = let e : 91 ≡ 46 = first_byte 91 _ is in omega (arith, e)
not_point (key bytes) rest h is = let e : 91 ≡ 46 = first_byte 91 _ is in omega (arith, e)
not_point (entry_value n) rest h is = let e : 91 ≡ 46 = first_byte 91 _ is in omega (arith, e)
not_point (entry_key n) rest h is = let e : 91 ≡ 46 = first_byte 91 _ is in omega (arith, e)

not_whole : (s : NameStep) (rest : List ℕ) → IsStep s → bytes_eq (step_text s ++ rest) (codes ".") ≡ false
not_whole s rest is = at (bytes_eq (step_text s ++ rest) (codes ".")) refl
  where
    at : (b : Bool) → bytes_eq (step_text s ++ rest) (codes ".") ≡ b → b ≡ false
    at true e = absurd (not_point s rest is ((bytes_eq-Decides (step_text s ++ rest) (codes ".")).0 e))
    at false e = refl

pub names_come_back : NamesComeBack
names_come_back [] h = refl
names_come_back (s ∷ steps) h = by (steps_text (s ∷ steps)) (not_whole s (steps_text steps) (All-head IsStep s steps h)) (steps_back (s ∷ steps) h)
  where
    by : (text : List ℕ) → bytes_eq text (codes ".") ≡ false → steps_of text ≡ Some (s ∷ steps) → name_steps text ≡ Some (s ∷ steps)
    by [] k e = let none : Some [] ≡ Some (s ∷ steps) = sym steps_none ∙ e in cc
    by (c ∷ cs) k e = ap (λ (b : Bool). if b then Some [] else steps_of (c ∷ cs)) k ∙ e
