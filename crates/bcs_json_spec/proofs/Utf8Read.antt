-- The names and strings that serde_json reads from a UTF-8 text are UTF-8.
use Rattle.bcs_json_spec.proofs.Prelude.{◌≡◌, ℕ, zero, suc, ◌-◌, ◌==◌, ◌&&◌, cond, Bool, true, false, List, [], ◌∷◌, ◌++◌, drop, length, take, nat_eq, Option, Some, None, Ordering, Less, Equal, Greater, IsUtf8, append_assoc, nat_cmp, arith, option_map, refl, sym, subst, eqb-true, slice_cmp, match_ordering, option_and_then, starts_with, Json, Parse, parse_map, after_end_array, read_key, items_step, members_step, value_with, Class, Lexeme, Mode, Place, after_comma, after_key, after_value, backslash, begins_colon, between, class, colon, comma, fresh, if_allowed, in_escape, in_string, in_word, lex, lex_byte, may_begin, may_close, operator, operator_lexeme, other, place_token, punctuate, quote, space, string_token, token, tokens, plain, Token, after_number, ends_word, head, is_operator, is_space, literal, number_before, word, Data, number, string, array, object, Items, no_items, item, Members, no_members, member, put, max_depth, number_of, of_items, of_json, of_members, IsJson}
use Rattle.json.specs.Ascii as ascii
use Rattle.json.specs.Json as json
use Rattle.json.specs.Text.{content}
use Rattle.bcs_json_spec.proofs.Utf8Contents.{content_utf8, utf8_after}

-- ---- tokens

-- the bytes of a key or a string are UTF-8
abbrev IsToken : Token → Type 0
IsToken (Token.key s) = IsUtf8 s
IsToken (Token.string s) = IsUtf8 s
IsToken _ = Unit {0}

abbrev AreTokens : List Token → Type 0
AreTokens [] = Unit {0}
AreTokens (t ∷ ts) = IsToken t × AreTokens ts

abbrev IsLexeme : Lexeme → Type 0
IsLexeme (token t) = IsToken t
IsLexeme comma = Unit {0}
IsLexeme colon = Unit {0}

abbrev AreLexemes : List Lexeme → Type 0
AreLexemes [] = Unit {0}
AreLexemes (l ∷ ls) = IsLexeme l × AreLexemes ls

either_token : (b : Bool) (t u : Token) → IsToken t → IsToken u → IsToken (cond b t u)
either_token true t u h k = h
either_token false t u h k = k

number_token : (t : List ℕ) (o : Option (List ℕ)) → IsToken (number_before t o)
number_token t None = tt
number_token t (Some rest) = either_token (ends_word rest) (Token.number (take (length t - length rest) t)) Token.bad tt tt

literal_token : (name : List ℕ) (u : Token) (t : List ℕ) → IsToken u → IsToken (literal name u t)
literal_token name u t h = either_token (starts_with nat_eq t name && ends_word (drop (length name) t)) u Token.bad h tt

-- a literal isn't a string
word_token : (t : List ℕ) → IsToken (word t)
unfolding word
word_token t =
    let a_number = number_before t (after_number t) in
    let a_null = literal ascii.null_text Token.null t in
    let a_false = literal ascii.false_text (Token.boolean false) t in
    let a_true = literal ascii.true_text (Token.boolean true) t in
    let or_null = cond (head t == ascii.lower_n) a_null a_number in
    let or_false = cond (head t == ascii.lower_f) a_false or_null in
    either_token (head t == ascii.lower_t) a_true or_false (literal_token ascii.true_text (Token.boolean true) t tt)
    (either_token (head t == ascii.lower_f) a_false or_null (literal_token ascii.false_text (Token.boolean false) t tt)
    (either_token (head t == ascii.lower_n) a_null a_number (literal_token ascii.null_text Token.null t tt) (number_token t (after_number t))))

five_tokens : (b c d e f : Bool) → IsLexeme (cond b (token Token.begin_object) (cond c (token Token.end_object) (cond d (token Token.begin_array) (cond e (token Token.end_array) (cond f comma colon)))))
five_tokens true c d e f = tt
five_tokens false true d e f = tt
five_tokens false false true e f = tt
five_tokens false false false true f = tt
five_tokens false false false false true = tt
five_tokens false false false false false = tt

operator_token : (x : ℕ) → IsLexeme (operator_lexeme x)
operator_token x = five_tokens (x == ascii.open_brace) (x == ascii.close_brace) (x == ascii.open_bracket) (x == ascii.close_bracket) (x == ascii.comma)

string_read : (xs : List ℕ) (o : Option (List ℕ)) → content plain xs ≡ o → IsUtf8 xs → IsToken (string_token o)
string_read xs None is utf8 = tt
string_read xs (Some s) is utf8 = content_utf8 xs s utf8 is

class_is_quote : (b c d e : Bool) → cond b quote (cond c backslash (cond d operator (cond e space other))) ≡ quote → b ≡ true
class_is_quote true c d e h = refl
class_is_quote false true d e h = absurd cc
class_is_quote false false true e h = absurd cc
class_is_quote false false false true h = absurd cc
class_is_quote false false false false h = absurd cc

-- one byte, if the lexemes of the rest are good in every mode
byte_lexemes : (m : Mode) (c : Class) (x : ℕ) (xs : List ℕ) (k : Mode → List Lexeme) → ((n : Mode) → AreLexemes (k n)) → (c ≡ quote → IsUtf8 xs) → AreLexemes (lex_byte m c x xs k)
byte_lexemes between quote x xs k rest utf8 = (string_read xs (content plain xs) refl (utf8 refl), rest in_string)
byte_lexemes between backslash x xs k rest utf8 = (tt, rest in_word)
byte_lexemes between operator x xs k rest utf8 = (operator_token x, rest between)
byte_lexemes between space x xs k rest utf8 = rest between
byte_lexemes between other x xs k rest utf8 = (word_token (x ∷ xs), rest in_word)
byte_lexemes in_word quote x xs k rest utf8 = rest in_word
byte_lexemes in_word backslash x xs k rest utf8 = rest in_word
byte_lexemes in_word operator x xs k rest utf8 = (operator_token x, rest between)
byte_lexemes in_word space x xs k rest utf8 = rest between
byte_lexemes in_word other x xs k rest utf8 = rest in_word
byte_lexemes in_string quote x xs k rest utf8 = rest between
byte_lexemes in_string backslash x xs k rest utf8 = rest in_escape
byte_lexemes in_string operator x xs k rest utf8 = rest in_string
byte_lexemes in_string space x xs k rest utf8 = rest in_string
byte_lexemes in_string other x xs k rest utf8 = rest in_string
byte_lexemes in_escape c x xs k rest utf8 = rest in_string

-- the lexemes after `p` in a UTF-8 text
lexemes : (p xs : List ℕ) → IsUtf8 (p ++ xs) → (m : Mode) → AreLexemes (lex m xs)
unfolding lex
lexemes p [] utf8 m = tt
lexemes p (x ∷ xs) utf8 m =
    byte_lexemes m (class x) x xs (λ n. lex n xs) (lexemes (p ++ x ∷ []) xs (subst IsUtf8 (sym (append_assoc p (x ∷ []) xs)) utf8))
    (λ is. let same = eqb-true x 34 (class_is_quote (x == 34) (x == 92) (is_operator x) (is_space x) is) in utf8_after p x xs (omega (arith, same)) utf8)

allowed : (b : Bool) (t : Token) (k : Place → List Token) (n : Place) → IsToken t → ((m : Place) → AreTokens (k m)) → AreTokens (if_allowed b t k n)
allowed true t k n h rest = (h, rest n)
allowed false t k n h rest = (tt, tt)

placed : (p : Place) (t : Token) (b : Bool) (k : Place → List Token) → IsToken t → ((m : Place) → AreTokens (k m)) → AreTokens (place_token p t b k)
placed p Token.begin_object b k h rest = allowed (may_begin p) Token.begin_object k fresh tt rest
placed p Token.end_object b k h rest = allowed (may_close p) Token.end_object k after_value tt rest
placed p Token.begin_array b k h rest = allowed (may_begin p) Token.begin_array k fresh tt rest
placed p Token.end_array b k h rest = allowed (may_close p) Token.end_array k after_value tt rest
placed p (Token.key s) b k h rest = (tt, tt)
placed p (Token.string s) true k h rest = allowed (may_begin p) (Token.key s) k after_key h rest
placed p (Token.string s) false k h rest = allowed (may_begin p) (Token.string s) k after_value h rest
placed p (Token.number s) b k h rest = allowed (may_begin p) (Token.number s) k after_value tt rest
placed p (Token.boolean c) b k h rest = allowed (may_begin p) (Token.boolean c) k after_value tt rest
placed p Token.null b k h rest = allowed (may_begin p) Token.null k after_value tt rest
placed p Token.bad b k h rest = (tt, tt)

punctuated : (ls : List Lexeme) → AreLexemes ls → (p : Place) → AreTokens (punctuate p ls)
unfolding punctuate
punctuated [] h fresh = tt
punctuated [] h after_value = tt
punctuated [] h after_comma = (tt, tt)
punctuated [] h after_key = (tt, tt)
punctuated (token t ∷ ls) h fresh = placed fresh t (begins_colon ls) (λ next. punctuate next ls) h.0 (punctuated ls h.1)
punctuated (token t ∷ ls) h after_value = placed after_value t (begins_colon ls) (λ next. punctuate next ls) h.0 (punctuated ls h.1)
punctuated (token t ∷ ls) h after_comma = placed after_comma t (begins_colon ls) (λ next. punctuate next ls) h.0 (punctuated ls h.1)
punctuated (token t ∷ ls) h after_key = placed after_key t (begins_colon ls) (λ next. punctuate next ls) h.0 (punctuated ls h.1)
punctuated (comma ∷ ls) h fresh = (tt, tt)
punctuated (comma ∷ ls) h after_value = punctuated ls h.1 after_comma
punctuated (comma ∷ ls) h after_comma = (tt, tt)
punctuated (comma ∷ ls) h after_key = (tt, tt)
punctuated (colon ∷ ls) h fresh = (tt, tt)
punctuated (colon ∷ ls) h after_value = (tt, tt)
punctuated (colon ∷ ls) h after_comma = (tt, tt)
punctuated (colon ∷ ls) h after_key = punctuated ls h.1 fresh

tokens_of : (text : List ℕ) → IsUtf8 text → AreTokens (tokens text)
tokens_of text utf8 = punctuated (lex between text) (lexemes [] text utf8 between) fresh

-- ---- the grammar

abbrev mutual
  -- names and strings are UTF-8
  IsGood : Json → Type 0
  IsGood (json.string s) = IsUtf8 s
  IsGood (json.array js) = AreGood js
  IsGood (json.object ms) = MembersGood ms
  IsGood _ = Unit {0}

  AreGood : json.Items → Type 0
  AreGood json.no_items = Unit {0}
  AreGood (json.item j js) = IsGood j × AreGood js

  MembersGood : json.Members → Type 0
  MembersGood json.no_members = Unit {0}
  MembersGood (json.member k j ms) = IsUtf8 k × IsGood j × MembersGood ms

-- what was parsed is good, and so are the remaining tokens
abbrev Parsed : {A : Type 0} → (A → Type 0) → Option (A × List Token) → Type 0
Parsed P None = Unit {0}
Parsed P (Some x) = P x.0 × AreTokens x.1

abbrev Parses : {A : Type 0} → (A → Type 0) → Parse A → Type 0
Parses P f = (ts : List Token) → AreTokens ts → Parsed P (f ts)

parsed_map : {A B : Type 0} (P : A → Type 0) (Q : B → Type 0) (f : A → B) → ((a : A) → P a → Q (f a)) → (o : Option (A × List Token)) → Parsed P o → Parsed Q (parse_map f o)
parsed_map P Q f h None k = tt
parsed_map P Q f h (Some x) k = (h x.0 k.0, k.1)

-- a value, followed by more
then_more : {B : Type 0} (Q : B → Type 0) (f : Json → B → B) → ((j : Json) (b : B) → IsGood j → Q b → Q (f j b)) → (more : Parse B) → Parses Q more
    → (o : Option (Json × List Token)) → Parsed IsGood o → Parsed Q (option_and_then (λ x. parse_map (f x.0) (more x.1)) o)
then_more Q f h more rest None k = tt
then_more Q f h more rest (Some x) k = parsed_map Q Q (f x.0) (λ b q. h x.0 b k.0 q) (more x.1) (rest x.1 k.1)

-- the tokens after a closing bracket
abbrev MayFollow : Option (List Token) → Type 0
MayFollow None = Unit {0}
MayFollow (Some ts) = AreTokens ts

after_end : (ts : List Token) → AreTokens ts → MayFollow (after_end_array ts)
after_end [] h = tt
after_end (Token.begin_object ∷ ts) h = tt
after_end (Token.end_object ∷ ts) h = tt
after_end (Token.begin_array ∷ ts) h = tt
after_end (Token.end_array ∷ ts) h = h.1
after_end (Token.key s ∷ ts) h = tt
after_end (Token.string s ∷ ts) h = tt
after_end (Token.number s ∷ ts) h = tt
after_end (Token.boolean b ∷ ts) h = tt
after_end (Token.null ∷ ts) h = tt
after_end (Token.bad ∷ ts) h = tt

-- a key, if there is one
abbrev IsKey : Option (List ℕ) → Type 0
IsKey None = Unit {0}
IsKey (Some k) = IsUtf8 k

key_read : (ts : List Token) → AreTokens ts → Parsed IsKey (read_key ts)
key_read [] h = tt
key_read (Token.begin_object ∷ ts) h = tt
key_read (Token.end_object ∷ ts) h = (tt, h.1)
key_read (Token.begin_array ∷ ts) h = tt
key_read (Token.end_array ∷ ts) h = tt
key_read (Token.key s ∷ ts) h = h
key_read (Token.string s ∷ ts) h = tt
key_read (Token.number s ∷ ts) h = tt
key_read (Token.boolean b ∷ ts) h = tt
key_read (Token.null ∷ ts) h = tt
key_read (Token.bad ∷ ts) h = tt

module _ (p : Parse Json) (parses : Parses IsGood p) where
  item_turn : (more : Parse json.Items) → Parses AreGood more → (ts : List Token) → AreTokens ts → (o : Option (List Token)) → MayFollow o → Parsed AreGood (items_step p more ts o)
  item_turn more again ts h (Some rest) k = (tt, k)
  item_turn more again ts h None k = then_more AreGood json.item (λ j js good rest. (good, rest)) more again (p ts) (parses ts h)

  items_good : (n : ℕ) → Parses AreGood (json.items p n)
  unfolding json.items
  items_good zero ts h = tt
  items_good (suc n) ts h = item_turn (json.items p n) (items_good n) ts h (after_end_array ts) (after_end ts h)

  member_turn : (more : Parse json.Members) → Parses MembersGood more → (o : Option (Option (List ℕ) × List Token)) → Parsed IsKey o → Parsed MembersGood (option_and_then (λ q. members_step p more q.0 q.1) o)
  member_turn more again None k = tt
  member_turn more again (Some (None, ts)) k = (tt, k.1)
  member_turn more again (Some (Some name, ts)) k = then_more MembersGood (json.member name) (λ j ms good rest. (k.0, good, rest)) more again (p ts) (parses ts k.1)

  members_good : (n : ℕ) → Parses MembersGood (json.members p n)
  unfolding json.members
  members_good zero ts h = tt
  members_good (suc n) ts h = member_turn (json.members p n) (members_good n) (read_key ts) (key_read ts h)

one_level : (a : Parse json.Items) (o : Parse json.Members) → Parses AreGood a → Parses MembersGood o → Parses IsGood (value_with a o)
one_level a o p q [] h = tt
one_level a o p q (Token.begin_object ∷ ts) h = parsed_map MembersGood IsGood json.object (λ ms good. good) (o ts) (q ts h.1)
one_level a o p q (Token.end_object ∷ ts) h = tt
one_level a o p q (Token.begin_array ∷ ts) h = parsed_map AreGood IsGood json.array (λ js good. good) (a ts) (p ts h.1)
one_level a o p q (Token.end_array ∷ ts) h = tt
one_level a o p q (Token.key s ∷ ts) h = tt
one_level a o p q (Token.string s ∷ ts) h = h
one_level a o p q (Token.number s ∷ ts) h = h
one_level a o p q (Token.boolean b ∷ ts) h = h
one_level a o p q (Token.null ∷ ts) h = h
one_level a o p q (Token.bad ∷ ts) h = tt

value_good : (d : ℕ) → Parses IsGood (json.value d)
unfolding json.value
value_good zero = one_level (λ ts. None) (λ ts. None) (λ ts h. tt) (λ ts h. tt)
value_good (suc d) =
    one_level (λ ts. json.items (json.value d) (length ts) ts) (λ ts. json.members (json.value d) (length ts) ts)
    (λ ts. items_good (json.value d) (value_good d) (length ts) ts) (λ ts. members_good (json.value d) (value_good d) (length ts) ts)

-- ---- conversion to data

abbrev mutual
  -- names and strings are UTF-8
  pub HasUtf8 : Data → Type 0
  HasUtf8 (string s) = IsUtf8 s
  HasUtf8 (array ds) = ItemsHaveUtf8 ds
  HasUtf8 (object ms) = MembersHaveUtf8 ms
  HasUtf8 _ = Unit {0}

  pub ItemsHaveUtf8 : Items → Type 0
  ItemsHaveUtf8 no_items = Unit {0}
  ItemsHaveUtf8 (item d ds) = HasUtf8 d × ItemsHaveUtf8 ds

  pub MembersHaveUtf8 : Members → Type 0
  MembersHaveUtf8 no_members = Unit {0}
  MembersHaveUtf8 (member k d ms) = IsUtf8 k × HasUtf8 d × MembersHaveUtf8 ms

put_either : (r : Ordering) (a b c : Members) → MembersHaveUtf8 a → MembersHaveUtf8 b → MembersHaveUtf8 c → MembersHaveUtf8 (match_ordering r a b c)
put_either Less a b c h i j = h
put_either Equal a b c h i j = i
put_either Greater a b c h i j = j

put_utf8 : (k : List ℕ) (d : Data) (ms : Members) → IsUtf8 k → HasUtf8 d → MembersHaveUtf8 ms → MembersHaveUtf8 (put k d ms)
put_utf8 k d no_members name here h = (name, here, tt)
put_utf8 k d (member l e ms) name here h =
    put_either (slice_cmp nat_cmp k l) _ _ _ (name, here, h) (h.0, here, h.2) (h.0, h.1, put_utf8 k d ms name here h.2)

abbrev MayHave : {A : Type 0} → (A → Type 0) → Option A → Type 0
MayHave P None = Unit {0}
MayHave P (Some a) = P a

may_map : {A B : Type 0} (P : A → Type 0) (Q : B → Type 0) (f : A → B) → ((a : A) → P a → Q (f a)) → (o : Option A) → MayHave P o → MayHave Q (option_map f o)
may_map P Q f h None k = tt
may_map P Q f h (Some a) k = h a k

may_then : {A B : Type 0} (P : A → Type 0) (Q : B → Type 0) (f : A → Option B) → ((a : A) → P a → MayHave Q (f a)) → (o : Option A) → MayHave P o → MayHave Q (option_and_then f o)
may_then P Q f h None k = tt
may_then P Q f h (Some a) k = h a k

no_claim : {A : Type 0} (o : Option A) → MayHave (λ a. Unit {0}) o
no_claim None = tt
no_claim (Some a) = tt

mutual
  json_utf8 : (j : Json) → IsGood j → MayHave HasUtf8 (of_json j)
  json_utf8 json.null h = tt
  json_utf8 (json.boolean b) h = tt
  json_utf8 (json.number s) h = may_map (λ n. Unit {0}) HasUtf8 number (λ n k. tt) (number_of s) (no_claim (number_of s))
  json_utf8 (json.string s) h = h
  json_utf8 (json.array js) h = may_map ItemsHaveUtf8 HasUtf8 array (λ ds k. k) (of_items js) (items_utf8 js h)
  json_utf8 (json.object ms) h = may_map MembersHaveUtf8 HasUtf8 object (λ ns k. k) (of_members ms no_members) (members_utf8 ms no_members h tt)

  items_utf8 : (js : json.Items) → AreGood js → MayHave ItemsHaveUtf8 (of_items js)
  items_utf8 json.no_items h = tt
  items_utf8 (json.item j js) h =
      may_then HasUtf8 ItemsHaveUtf8 _ (λ d k. may_map ItemsHaveUtf8 ItemsHaveUtf8 (item d) (λ ds rest. (k, rest)) (of_items js) (items_utf8 js h.1)) (of_json j) (json_utf8 j h.0)

  members_utf8 : (js : json.Members) (found : Members) → MembersGood js → MembersHaveUtf8 found → MayHave MembersHaveUtf8 (of_members js found)
  members_utf8 json.no_members found h so_far = so_far
  members_utf8 (json.member k j js) found h so_far =
      may_then HasUtf8 MembersHaveUtf8 _ (λ d here. members_utf8 js (put k d found) h.2 (put_utf8 k d found h.0 here so_far)) (of_json j) (json_utf8 j h.1)

last_good : (o : Option (Json × List Token)) → Parsed IsGood o → MayHave IsGood (option_and_then (λ p. json.if_last p.0 p.1) o)
last_good None h = tt
last_good (Some (j, [])) h = h.0
last_good (Some (j, t ∷ ts)) h = tt

-- the names and strings that are read from a text are UTF-8
pub read_utf8 : (text : List ℕ) (d : Data) → IsJson text d → HasUtf8 d
read_utf8 text d is =
    subst (MayHave HasUtf8) is.1
    (may_then IsGood HasUtf8 of_json json_utf8 _ (last_good (json.value max_depth (tokens text)) (value_good max_depth (tokens text) (tokens_of text is.0))))
