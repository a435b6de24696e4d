-- serde_json reads its compact text of a value back as that value. If names and strings needn't be UTF-8, `P` is ⊥.
use Rattle.bcs_json_spec.proofs.Prelude.{⊤, ◌≡◌, ◌∙◌, ℕ, pos, negsuc, ◌^◌, ◌<◌, ◌≤◌, List, [], ◌∷◌, ◌++◌, Bool, true, false, Some, Ordering, Less, Greater, IsUtf8, append-nil, nat_cmp, arith, option_map, refl, sym, ap, or_from, nat_list_cmp_total, IsAscii-decimal, IsAscii-signed, IsUtf8-append, IsUtf8-from_ascii, slice_cmp, AllByRecursion, IsStrictlySortedBy, match_ordering, ordering_reverse, option_and_then, tokens, IsNumber, quoted, HasNumbers, ItemsHaveNumbers, MembersHaveNumbers, json_tokens, IsNumber-decimal, IsNumber-signed_decimal, tokens-print, ArePrintable-json_tokens, value-json_tokens, IsUtf8-are_ascii, IsUtf8-boolean, IsUtf8-quoted, Num, unsigned, negative, float, Data, null, boolean, number, string, array, object, Items, no_items, item, Members, no_members, member, put, depth, items_depth, members_depth, max_depth, number_of, of_items, of_json, of_members, read, comma_if, compact_text, has_float, items_have_float, items_outline, items_text, members_have_float, members_outline, members_text, number_text, outline, number_of-decimal, number_of-negative, print-outline, IsJson, NamesRise, names_of}
use Rattle.json.specs.Json as json
use Rattle.json.specs.Tree as tree

-- ---- what can be written

-- the number has a text that is read as this number
abbrev pub IsNum : Num → Type 0
IsNum (unsigned n) = n < 2 ^ 64
IsNum (negative (pos n)) = ⊥
IsNum (negative (negsuc n)) = n < 2 ^ 63
IsNum (float x) = ⊥

module _ (P : Type 0) where
  abbrev mutual
    -- numbers are integers of 64 bits, and the names of each object ascend; if `P`, names and strings are UTF-8
    pub IsWritable : Data → Type 0
    IsWritable (number n) = IsNum n
    IsWritable (string s) = P → IsUtf8 s
    IsWritable (array ds) = ItemsWritable ds
    IsWritable (object ms) = NamesRise ms × MembersWritable ms
    IsWritable _ = Unit {0}

    pub ItemsWritable : Items → Type 0
    ItemsWritable no_items = Unit {0}
    ItemsWritable (item d ds) = IsWritable d × ItemsWritable ds

    pub MembersWritable : Members → Type 0
    MembersWritable no_members = Unit {0}
    MembersWritable (member k d ms) = (P → IsUtf8 k) × IsWritable d × MembersWritable ms

-- ---- its tokens

number_is : (n : Num) → IsNum n → IsNumber (number_text n)
number_is (unsigned n) h = IsNumber-decimal n h
number_is (negative (pos n)) h = absurd h
number_is (negative (negsuc n)) h = IsNumber-signed_decimal (negsuc n) h
number_is (float x) h = absurd h

module _ (P : Type 0) where
  mutual
    has_numbers : (d : Data) → IsWritable P d → HasNumbers (outline d)
    has_numbers null h = tt
    has_numbers (boolean b) h = tt
    has_numbers (number n) h = number_is n h
    has_numbers (string s) h = tt
    has_numbers (array ds) h = items_numbers ds h
    has_numbers (object ms) h = members_numbers ms h.1

    items_numbers : (ds : Items) → ItemsWritable P ds → ItemsHaveNumbers (items_outline ds)
    items_numbers no_items h = tt
    items_numbers (item d ds) h = (has_numbers d h.0, items_numbers ds h.1)

    members_numbers : (ms : Members) → MembersWritable P ms → MembersHaveNumbers (members_outline ms)
    members_numbers no_members h = tt
    members_numbers (member k d ms) h = (has_numbers d h.1, members_numbers ms h.2)

  -- the tokens of the text are those of the value
  text_tokens : (d : Data) → IsWritable P d → tokens (compact_text d) ≡ json_tokens (outline d)
  text_tokens d h = ap tokens (sym (print-outline d)) ∙ tokens-print (json_tokens (outline d)) (ArePrintable-json_tokens (outline d) (has_numbers d h))

-- ---- its depth

mutual
  outline_depth : (d : Data) → tree.depth (outline d) ≤ depth d
  outline_depth null = omega arith
  outline_depth (boolean b) = omega arith
  outline_depth (number n) = omega arith
  outline_depth (string s) = omega arith
  outline_depth (array ds) = omega (arith, items_outline_depth ds)
  outline_depth (object ms) = omega (arith, members_outline_depth ms)

  items_outline_depth : (ds : Items) → tree.items_depth (items_outline ds) ≤ items_depth ds
  items_outline_depth no_items = omega arith
  items_outline_depth (item d ds) = omega (arith, outline_depth d, items_outline_depth ds)

  members_outline_depth : (ms : Members) → tree.members_depth (members_outline ms) ≤ members_depth ms
  members_outline_depth no_members = omega arith
  members_outline_depth (member k d ms) = omega (arith, outline_depth d, members_outline_depth ms)

-- ---- adding members again

abbrev cmp : List ℕ → List ℕ → Ordering
cmp = slice_cmp nat_cmp

-- adds members one after another
abbrev put_all : Members → Members → Members
put_all no_members found = found
put_all (member k d ms) found = put_all ms (put k d found)

-- a member below all others stays first
stays_first : (l : List ℕ) (e : Data) (ms found : Members) → AllByRecursion (λ k. cmp l k ≡ Less) (names_of ms) → put_all ms (member l e found) ≡ member l e (put_all ms found)
stays_first l e no_members found above = refl
stays_first l e (member k d ms) found above =
    let later : cmp k l ≡ Greater = nat_list_cmp_total.antisymm k l ∙ ap ordering_reverse above.0 in
    ap (λ r. put_all ms (match_ordering r (member k d (member l e found)) (member l d found) (member l e (put k d found)))) later
    ∙ stays_first l e ms (put k d found) above.1

-- adding members in ascending order gives the same members
put_again : (ms : Members) → NamesRise ms → put_all ms no_members ≡ ms
unfolding IsStrictlySortedBy
put_again no_members h = refl
put_again (member k d ms) h = stays_first k d ms no_members h.0 ∙ ap (member k d) (put_again ms h.1)

-- ---- its value

number_back : (n : Num) → IsNum n → number_of (number_text n) ≡ Some n
number_back (unsigned n) h = number_of-decimal n h
number_back (negative (pos n)) h = absurd h
number_back (negative (negsuc n)) h = number_of-negative n h
number_back (float x) h = absurd h

module _ (P : Type 0) where
  mutual
    value_back : (d : Data) → IsWritable P d → of_json (outline d) ≡ Some d
    value_back null h = refl
    value_back (boolean b) h = refl
    value_back (number n) h = ap (option_map number) (number_back n h)
    value_back (string s) h = refl
    value_back (array ds) h = ap (option_map array) (items_back ds h)
    value_back (object ms) h = ap (option_map object) (members_back ms no_members h.1 ∙ ap Some (put_again ms h.0))

    items_back : (ds : Items) → ItemsWritable P ds → of_items (items_outline ds) ≡ Some ds
    items_back no_items h = refl
    items_back (item d ds) h =
        ap (option_and_then (λ e. option_map (item e) (of_items (items_outline ds)))) (value_back d h.0) ∙ ap (option_map (item d)) (items_back ds h.1)

    members_back : (ms found : Members) → MembersWritable P ms → of_members (members_outline ms) found ≡ Some (put_all ms found)
    members_back no_members found h = refl
    members_back (member k d ms) found h =
        ap (option_and_then (λ e. of_members (members_outline ms) (put k e found))) (value_back d h.1) ∙ members_back ms (put k d found) h.2

  pub read_back : (d : Data) → IsWritable P d → depth d ≤ max_depth → read (compact_text d) ≡ Some d
  read_back d h shallow =
      let parsed = ap (json.value max_depth) (text_tokens P d h ∙ sym (append-nil (json_tokens (outline d)))) ∙ value-json_tokens (outline d) max_depth [] (omega (arith, shallow, outline_depth d)) in
      ap (λ o. option_and_then of_json (option_and_then (λ p. json.if_last p.0 p.1) o)) parsed ∙ value_back d h

  mutual
    pub no_float : (d : Data) → IsWritable P d → has_float d ≡ false
    no_float null h = refl
    no_float (boolean b) h = refl
    no_float (number (unsigned n)) h = refl
    no_float (number (negative z)) h = refl
    no_float (number (float x)) h = absurd h
    no_float (string s) h = refl
    no_float (array ds) h = items_no_float ds h
    no_float (object ms) h = members_no_float ms h.1

    items_no_float : (ds : Items) → ItemsWritable P ds → items_have_float ds ≡ false
    items_no_float no_items h = refl
    items_no_float (item d ds) h = or_from _ _ (no_float d h.0) (items_no_float ds h.1)

    members_no_float : (ms : Members) → MembersWritable P ms → members_have_float ms ≡ false
    members_no_float no_members h = refl
    members_no_float (member k d ms) h = or_from _ _ (no_float d h.1) (members_no_float ms h.2)

-- ---- its bytes

number_utf8 : (n : Num) → IsNum n → IsUtf8 (number_text n)
number_utf8 (unsigned n) h = IsUtf8-from_ascii (number_text (unsigned n)) (IsAscii-decimal n h)
number_utf8 (negative (pos n)) h = absurd h
number_utf8 (negative (negsuc n)) h = IsUtf8-from_ascii (number_text (negative (negsuc n))) (IsAscii-signed (negsuc n) h)
number_utf8 (float x) h = absurd h

one_byte : (c : ℕ) (text : List ℕ) → IsUtf8 (c ∷ []) → IsUtf8 text → IsUtf8 (c ∷ text)
one_byte c text h k = IsUtf8-append (c ∷ []) text h k

comma_utf8 : (later : Bool) (text : List ℕ) → IsUtf8 text → IsUtf8 (comma_if later ++ text)
comma_utf8 true text h = one_byte 44 text (IsUtf8-are_ascii (44 ∷ []) refl) h
comma_utf8 false text h = h

mutual
  text_utf8 : (d : Data) → IsWritable ⊤ d → IsUtf8 (compact_text d)
  text_utf8 null h = IsUtf8-are_ascii (compact_text null) refl
  text_utf8 (boolean b) h = IsUtf8-boolean b
  text_utf8 (number n) h = number_utf8 n h
  text_utf8 (string s) h = IsUtf8-quoted s (h tt)
  text_utf8 (array ds) h = one_byte 91 (items_text false ds) (IsUtf8-are_ascii (91 ∷ []) refl) (items_utf8 false ds h)
  text_utf8 (object ms) h = one_byte 123 (members_text false ms) (IsUtf8-are_ascii (123 ∷ []) refl) (members_utf8 false ms h.1)

  items_utf8 : (later : Bool) (ds : Items) → ItemsWritable ⊤ ds → IsUtf8 (items_text later ds)
  items_utf8 later no_items h = IsUtf8-are_ascii (93 ∷ []) refl
  items_utf8 later (item d ds) h = comma_utf8 later _ (IsUtf8-append (compact_text d) (items_text true ds) (text_utf8 d h.0) (items_utf8 true ds h.1))

  members_utf8 : (later : Bool) (ms : Members) → MembersWritable ⊤ ms → IsUtf8 (members_text later ms)
  members_utf8 later no_members h = IsUtf8-are_ascii (125 ∷ []) refl
  members_utf8 later (member k d ms) h =
      let rest = IsUtf8-append (compact_text d) (members_text true ms) (text_utf8 d h.1) (members_utf8 true ms h.2) in
      comma_utf8 later _ (IsUtf8-append (quoted k) _ (IsUtf8-quoted k (h.0 tt)) (one_byte 58 _ (IsUtf8-are_ascii (58 ∷ []) refl) rest))

-- the compact text of writable JSON is JSON, and is read as exactly that
pub text_is_json : (d : Data) → IsWritable ⊤ d → depth d ≤ max_depth → IsJson (compact_text d) d
text_is_json d h shallow = (text_utf8 d h, read_back ⊤ d h shallow)
