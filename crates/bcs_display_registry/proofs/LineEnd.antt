-- A trailing line end doesn't change what `serde_json` reads from a text.
use Rattle.std.proofs.Common.{◌≡◌, ℕ, ◌+◌, ◌-◌, ◌*◌, List, [], ◌∷◌, ◌++◌, length, take, drop, Option, Some, None, option_map, option_and_then, Bool, true, false, ◌&&◌, ◌||◌, ◌==◌, cond, nat_eq, nat_lt, refl, ap, ap₂, ◌∙◌, arith}
use Rattle.std.proofs.Math.Path.{fun_ext}
use Rattle.std.specs.Char.{digit_value, encode_utf8, is_ascii_digit, is_digit}
use Rattle.std.specs.Cmp.Lexicographic.{pointwise}
use Rattle.std.specs.List.{AllByRecursion, prefix_len}
use Rattle.std.proofs.lemmas.List.{drop-append-le, length-append, take-append-le}
use Rattle.std.proofs.lemmas.List.Sums.{prefix_len-le-length}
use Rattle.std.proofs.lemmas.Str.{IsUtf8-append}
use Rattle.json.specs.Ascii as ascii
use Rattle.json.specs.Json as json
use Rattle.json.specs.Lex.{Class, Lexeme, Mode, between, in_word, in_string, in_escape, quote, backslash, operator, space, other, class, fresh, lex, lex_byte, operator_lexeme, punctuate, string_token, token}
use Rattle.json.specs.Text.{Within, after_backslash, after_high, after_u, code_unit, content, is_high_surrogate, is_low_surrogate, plain, prepend, short_escape, surrogate_pair}
use Rattle.json.specs.Token.{Token, bad, boolean, null, number}
use Rattle.json.specs.Word.{after_digits, after_exponent, after_fraction, after_minus, after_number, after_sign, after_whole, ends_word, literal, number_before, word}
use Rattle.json.proofs.Printed.Utf8.{IsUtf8-are_ascii}
use Rattle.serde_json.specs.Read.{max_depth, of_json, read}
use Rattle.bcs_registry_model.specs.Container.{Entries}
use Rattle.bcs_registry_json.specs.Text.{WritesRegistry}

abbrev pub ended : List ℕ → List ℕ
ended t = t ++ 10 ∷ []

-- ---- strings

last_false : (p q r : Bool) → (p && q && r && false) ≡ false
last_false false q r = refl
last_false true false r = refl
last_false true true false = refl
last_false true true true = refl

no_code_unit : (a b c : ℕ) → code_unit a b c 10 ≡ None
unfolding code_unit
no_code_unit a b c =
    ap (λ t. cond t (Some (digit_value a * 4096 + digit_value b * 256 + digit_value c * 16 + digit_value 10)) None) (last_false (is_digit a 16) (is_digit b 16) (is_digit c 16))

none_either : {X : Type 0} (b : Bool) (o : Option X) → o ≡ None → cond b o None ≡ None
none_either true o h = h
none_either false o h = refl

content_ended : (m : Within) (t : List ℕ) → content m (ended t) ≡ content m t
unfolding content short_escape
content_ended plain [] = refl
content_ended plain (x ∷ xs) =
    ap₂ (λ o p. cond (x == ascii.quote) (Some []) (cond (x == ascii.backslash) o (cond (nat_lt x ascii.space) None (prepend (x ∷ []) p)))) (content_ended after_backslash xs) (content_ended plain xs)
content_ended after_backslash [] = refl
content_ended after_backslash (x ∷ xs) =
    ap₂ (λ o p. cond (x == ascii.lower_u) o (option_and_then (λ c. prepend (c ∷ []) p) (short_escape x))) (content_ended after_u xs) (content_ended plain xs)
content_ended after_u [] = refl
content_ended after_u (a ∷ []) = refl
content_ended after_u (a ∷ b ∷ []) = refl
content_ended after_u (a ∷ b ∷ c ∷ []) =
    ap (option_and_then (λ u. cond (is_high_surrogate u) (content (after_high u) []) (cond (is_low_surrogate u) None (prepend (encode_utf8 u) (content plain []))))) (no_code_unit a b c)
content_ended after_u (a ∷ b ∷ c ∷ d ∷ xs) =
    ap₂ (λ o p. option_and_then (λ u. cond (is_high_surrogate u) (o u) (cond (is_low_surrogate u) None (prepend (encode_utf8 u) p))) (code_unit a b c d))
    (fun_ext (λ u. content_ended (after_high u) xs)) (content_ended plain xs)
content_ended (after_high h) [] = refl
content_ended (after_high h) (s ∷ []) = refl
content_ended (after_high h) (s ∷ u ∷ []) = refl
content_ended (after_high h) (s ∷ u ∷ a ∷ []) = refl
content_ended (after_high h) (s ∷ u ∷ a ∷ b ∷ []) = refl
content_ended (after_high h) (s ∷ u ∷ a ∷ b ∷ c ∷ []) =
    none_either ((s == ascii.backslash) && (u == ascii.lower_u)) _
    (ap (option_and_then (λ l. cond (is_low_surrogate l) (prepend (encode_utf8 (surrogate_pair h l)) (content plain [])) None)) (no_code_unit a b c))
content_ended (after_high h) (s ∷ u ∷ a ∷ b ∷ c ∷ d ∷ xs) =
    ap (λ p. cond ((s == ascii.backslash) && (u == ascii.lower_u)) (option_and_then (λ l. cond (is_low_surrogate l) (prepend (encode_utf8 (surrogate_pair h l)) p) None) (code_unit a b c d)) None)
    (content_ended plain xs)

-- ---- literals

ends_ended : (t : List ℕ) → ends_word (ended t) ≡ ends_word t
ends_ended [] = refl
ends_ended (x ∷ xs) = refl

abbrev HasNoEnd : List ℕ → Type 0
HasNoEnd name = AllByRecursion (λ n. nat_eq n 10 ≡ false) name

abbrev stands : List ℕ → List ℕ → Bool
stands name t = pointwise nat_eq name (take (length name) t) && ends_word (drop (length name) t)

stands_ended : (name t : List ℕ) → HasNoEnd name → stands name (ended t) ≡ stands name t
stands_ended [] t h = ends_ended t
stands_ended (n ∷ ns) [] h = ap (λ b. (b && pointwise nat_eq ns (take (length ns) [])) && ends_word (drop (length ns) [])) h.0
stands_ended (n ∷ ns) (x ∷ xs) h = elim (nat_eq n x) as (λ b. ((b && pointwise nat_eq ns (take (length ns) (ended xs))) && ends_word (drop (length ns) (ended xs))) ≡ ((b && pointwise nat_eq ns (take (length ns) xs)) && ends_word (drop (length ns) xs))) [
  | true ↦ stands_ended ns xs h.1
  | false ↦ refl
]

literal_ended : (name : List ℕ) (k : Token) (t : List ℕ) → HasNoEnd name → literal name k (ended t) ≡ literal name k t
literal_ended name k t h = ap (λ b. cond b k bad) (stands_ended name t h)

-- ---- numbers

-- parsing a part of a number leaves the same rest, with the line end still at its end
abbrev Leaves : (List ℕ → Option (List ℕ)) → Type 0
Leaves f = (t : List ℕ) → f (ended t) ≡ option_map ended (f t)

prefix_ended : (t : List ℕ) → prefix_len is_ascii_digit (ended t) ≡ prefix_len is_ascii_digit t
prefix_ended [] = refl
prefix_ended (x ∷ xs) = grind (arith, prefix_ended xs)

some_ended : (b : Bool) (t : List ℕ) → cond b None (Some (ended t)) ≡ option_map ended (cond b None (Some t))
some_ended true t = refl
some_ended false t = refl

digits_leave : Leaves after_digits
digits_leave t =
    let n = prefix_len is_ascii_digit t in
    ap (λ k. cond (k == 0) None (Some (drop k (ended t)))) (prefix_ended t)
    ∙ ap (λ r. cond (n == 0) None (Some r)) (drop-append-le n t (10 ∷ []) (prefix_len-le-length is_ascii_digit t)) ∙ some_ended (n == 0) (drop n t)

first_ended : (b : Bool) (x : ℕ) (xs : List ℕ) → cond b (ended xs) (x ∷ ended xs) ≡ ended (cond b xs (x ∷ xs))
first_ended true x xs = refl
first_ended false x xs = refl

minus_ended : (t : List ℕ) → after_minus (ended t) ≡ ended (after_minus t)
minus_ended [] = refl
minus_ended (x ∷ xs) = first_ended (x == ascii.minus) x xs

sign_ended : (t : List ℕ) → after_sign (ended t) ≡ ended (after_sign t)
sign_ended [] = refl
sign_ended (x ∷ xs) = first_ended ((x == ascii.minus) || (x == ascii.plus)) x xs

either_leaves : (b : Bool) (o o' p p' : Option (List ℕ)) → o ≡ option_map ended o' → p ≡ option_map ended p' → cond b o p ≡ option_map ended (cond b o' p')
either_leaves true o o' p p' h k = h
either_leaves false o o' p p' h k = k

whole_leaves : Leaves after_whole
whole_leaves [] = refl
whole_leaves (x ∷ xs) = either_leaves (x == ascii.zero) _ _ _ _ refl (digits_leave (x ∷ xs))

fraction_leaves : Leaves after_fraction
fraction_leaves [] = refl
fraction_leaves (x ∷ xs) = either_leaves (x == ascii.dot) _ _ _ _ (digits_leave xs) refl

exponent_leaves : Leaves after_exponent
exponent_leaves [] = refl
exponent_leaves (x ∷ xs) =
    either_leaves ((x == ascii.lower_e) || (x == ascii.upper_e)) _ _ _ _ (ap after_digits (sign_ended xs) ∙ digits_leave (after_sign xs)) refl

at_leaves : (f : List ℕ → Option (List ℕ)) → Leaves f → (p : Option (List ℕ)) → option_and_then f (option_map ended p) ≡ option_map ended (option_and_then f p)
at_leaves f h None = refl
at_leaves f h (Some r) = h r

then_leaves : (f : List ℕ → Option (List ℕ)) → Leaves f → (o p : Option (List ℕ)) → o ≡ option_map ended p → option_and_then f o ≡ option_map ended (option_and_then f p)
then_leaves f h o p e = ap (option_and_then f) e ∙ at_leaves f h p

number_leaves : Leaves after_number
unfolding after_number
number_leaves t =
    then_leaves after_exponent exponent_leaves _ _ (then_leaves after_fraction fraction_leaves _ _ (ap after_whole (minus_ended t) ∙ whole_leaves (after_minus t)))

before_ended : (t : List ℕ) (o : Option (List ℕ)) → number_before (ended t) (option_map ended o) ≡ number_before t o
before_ended t None = refl
before_ended t (Some rest) =
    let shorter : length (ended t) - length (ended rest) ≡ length t - length rest = omega (arith, length-append t (10 ∷ []), length-append rest (10 ∷ [])) in
    let taken : take (length (ended t) - length (ended rest)) (ended t) ≡ take (length t - length rest) t = ap (λ n. take n (ended t)) shorter ∙ take-append-le (length t - length rest) t (10 ∷ []) (omega arith) in
    ap₂ (λ b n. cond b (number n) bad) (ends_ended rest) taken

-- ---- lexemes

choose : (a b c : Bool) (k k' l l' m m' n n' : Token) → k ≡ k' → l ≡ l' → m ≡ m' → n ≡ n' → cond a k (cond b l (cond c m n)) ≡ cond a k' (cond b l' (cond c m' n'))
choose true b c k k' l l' m m' n n' e f g h = e
choose false true c k k' l l' m m' n n' e f g h = f
choose false false true k k' l l' m m' n n' e f g h = g
choose false false false k k' l l' m m' n n' e f g h = h

word_ended : (x : ℕ) (xs : List ℕ) → word (ended (x ∷ xs)) ≡ word (x ∷ xs)
unfolding word
word_ended x xs =
    choose (x == ascii.lower_t) (x == ascii.lower_f) (x == ascii.lower_n) _ _ _ _ _ _ _ _
    (literal_ended ascii.true_text (boolean true) (x ∷ xs) (refl, (refl, (refl, (refl, tt)))))
    (literal_ended ascii.false_text (boolean false) (x ∷ xs) (refl, (refl, (refl, (refl, (refl, tt))))))
    (literal_ended ascii.null_text null (x ∷ xs) (refl, (refl, (refl, (refl, tt)))))
    (ap (number_before (ended (x ∷ xs))) (number_leaves (x ∷ xs)) ∙ before_ended (x ∷ xs) (after_number (x ∷ xs)))

module _ (x : ℕ) (xs : List ℕ) (next next' : Mode → List Lexeme) (same : (m : Mode) → next m ≡ next' m) where
  byte_ended : (m : Mode) (c : Class) → lex_byte m c x (ended xs) next ≡ lex_byte m c x xs next'
  byte_ended between quote = ap₂ (λ o ls. token (string_token o) ∷ ls) (content_ended plain xs) (same in_string)
  byte_ended between backslash = ap (λ ls. token bad ∷ ls) (same in_word)
  byte_ended between operator = ap (λ ls. operator_lexeme x ∷ ls) (same between)
  byte_ended between space = same between
  byte_ended between other = ap₂ (λ w ls. token w ∷ ls) (word_ended x xs) (same in_word)
  byte_ended in_word quote = same in_word
  byte_ended in_word backslash = same in_word
  byte_ended in_word operator = ap (λ ls. operator_lexeme x ∷ ls) (same between)
  byte_ended in_word space = same between
  byte_ended in_word other = same in_word
  byte_ended in_string quote = same between
  byte_ended in_string backslash = same in_escape
  byte_ended in_string operator = same in_string
  byte_ended in_string space = same in_string
  byte_ended in_string other = same in_string
  byte_ended in_escape c = same in_string

lex_ended : (m : Mode) (t : List ℕ) → lex m (ended t) ≡ lex m t
unfolding lex
lex_ended between [] = refl
lex_ended in_word [] = refl
lex_ended in_string [] = refl
lex_ended in_escape [] = refl
lex_ended m (x ∷ xs) = byte_ended x xs (λ n. lex n (ended xs)) (λ n. lex n xs) (λ n. lex_ended n xs) m (class x)

pub read_ended : (t : List ℕ) → read (ended t) ≡ read t
read_ended t = ap (λ ls. option_and_then of_json (option_and_then (λ p. json.if_last p.0 p.1) (json.value max_depth (punctuate fresh ls)))) (lex_ended between t)

pub writes_ended : (t : List ℕ) (registry : Entries) → WritesRegistry t registry → WritesRegistry (ended t) registry
writes_ended t registry h = (h.0, (IsUtf8-append t (10 ∷ []) h.1.0 (IsUtf8-are_ascii (10 ∷ []) refl), read_ended t ∙ h.1.1), h.2)
