-- The JSON of a value can be written: its compact text is read as exactly this JSON. If `P` and the names of the
-- registry are UTF-8, so are its names and strings.
use Rattle.bcs_json_spec.proofs.Prelude.{◌≡◌, ◌∙◌, ℕ, suc, ℤ, pos, negsuc, ◌^◌, ◌<◌, ◌≤◌, ◌==◌, ◌&&◌, List, [], ◌∷◌, Bool, true, false, cond, if◌then◌else◌, Some, Ok, Ordering, Less, Equal, Greater, IsUtf8, arith, codes, decimal, nat_cmp, nat_lt, refl, ap, sym, subst, pow-le-pow_right, false≢true, ltb-false, Decides-ltb, nat_list_cmp_total, IsAscii-decimal_wide, IsUtf8-append, IsUtf8-from_ascii, IsUtf8-from_is_utf8, IsAscii-from_all, slice_cmp, signed_decimal, Width, w8, byte_len, IsStrictlySortedBy, option_map_or, match_ordering, decode_of, encode_lower, is_hex_digit, decode_of-encode_lower, decode_of-ok, IsUtf8-are_ascii, Data, number, whole, string, Members, no_members, member, put, of_integer, bits, IsSigned, holds_signed, holds_unsigned, width_bytes, bits_most, half_most, holds_signed-is, two_halves, Choice, Entries, Field, Payload, choice_numbered, field_shapes, newtype, payload_shape, tuple, Shape, Shapes, shape, single, NamesRise, names_put, names_of, sorted_inserted, all_fit, are_bytes, each_fits, fits, pairs_fit, Pairs, Tree, Trees, count, no_pairs, no_trees, pair, tree, is_byte, trees_bytes, JsonContent, fields, json_content_at, of, one_of, payload_content, is_wide, shown, shown_all, shown_choice, shown_each, shown_fields, shown_pairs}
use Rattle.bcs_registry_model.specs.Container as container
use Rattle.bcs_registry_model.specs.Shape as shape
use Rattle.bcs_value_model.specs.Tree as tree
use Rattle.bcs_json_spec.proofs.Unnamed.{unnamed, unnamed_at, unnamed_payload}
use Rattle.bcs_json_spec.proofs.Fitting.{and_left, and_right}
use Rattle.bcs_json_spec.proofs.ReadBack.{are_bytes_is, bytes_again}
use Rattle.bcs_json_spec.proofs.Utf8Names.{ChoiceNames, EachHasNames, FieldNames, HasNames, content_names, payload_names}
use Rattle.bcs_json_spec.proofs.WrittenBack.{IsWritable, ItemsWritable, MembersWritable}

-- ---- numbers and bytes

digits_utf8 : (n : ℕ) → n < 2 ^ 128 → IsUtf8 (decimal n)
digits_utf8 n h = IsUtf8-from_ascii (decimal n) (IsAscii-decimal_wide n (omega (arith, h)))

digit_is_ascii : (c : ℕ) → is_hex_digit c ≡ true → c < 128
digit_is_ascii c h = grind (arith)

hex_text : (s b : List ℕ) → decode_of s ≡ Ok b → IsUtf8 s
hex_text s b is = IsUtf8-from_ascii s (IsAscii-from_all s (λ k d within. digit_is_ascii _ ((decode_of-ok s b is).1 k d within)))

-- hexadecimal digits
hex_utf8 : (b : List ℕ) → are_bytes b ≡ true → IsUtf8 (encode_lower b)
hex_utf8 b h = hex_text (encode_lower b) b (decode_of-encode_lower b (are_bytes_is b h))

byte_text : (registry : Entries) (s : Shape) (ts : Trees) → all_fit false registry ts s ≡ true → is_byte s ≡ true → IsUtf8 (encode_lower (trees_bytes ts))
byte_text registry (shape.unsigned w8) ts h is = hex_utf8 (trees_bytes ts) (bytes_again registry ts h).1
byte_text registry _ ts h is = absurd (false≢true is)

-- a width that isn't wide has at most 32 bits
pub narrow : (w : Width) → is_wide w ≡ false → 2 ^ bits w ≤ 2 ^ 32
narrow w is = subst (λ n. n ≤ 2 ^ 32) (sym (width_bytes w)) (pow-le-pow_right {n = 256} (omega arith) {i = byte_len w} {j = 4} (ltb-false 4 (byte_len w) is))

module _ (P : Type 0) where
  -- an integer, as a number or as a string
  unsigned_at : (b : Bool) (w : Width) (n : ℕ) → is_wide w ≡ b → n < 2 ^ bits w → IsWritable P (if b then string (decimal n) else number (whole n))
  unsigned_at true w n is h = λ p. digits_utf8 n (omega (arith, h, bits_most w))
  unsigned_at false w n is h = omega (arith, h, narrow w is)

  signed_at : (b : Bool) (w : Width) (z : ℤ) → is_wide w ≡ b → IsSigned w z → IsWritable P (if b then string (signed_decimal z) else number (of_integer z))
  signed_at true w (pos n) is h = λ p. digits_utf8 n (omega (arith, h.sfits, half_most w))
  signed_at true w (negsuc n) is h = λ p.
      IsUtf8-append (45 ∷ []) (decimal (suc n)) (IsUtf8-are_ascii (45 ∷ []) refl) (digits_utf8 (suc n) (omega (arith, h.sfits, half_most w)))
  signed_at false w (pos n) is h = omega (arith, h.sfits, two_halves w, narrow w is)
  signed_at false w (negsuc n) is h = omega (arith, h.sfits, two_halves w, narrow w is)

  unsigned_writable : (w : Width) (n : ℕ) → holds_unsigned w n ≡ true → IsWritable P (if is_wide w then string (decimal n) else number (whole n))
  unsigned_writable w n h = unsigned_at (is_wide w) w n refl ((Decides-ltb n (2 ^ bits w)).0 h)

  signed_writable : (w : Width) (z : ℤ) → holds_signed w z ≡ true → IsWritable P (if is_wide w then string (signed_decimal z) else number (of_integer z))
  signed_writable w z h = signed_at (is_wide w) w z refl (holds_signed-is w z h)

  -- ---- members

  put_either : (r : Ordering) (a b c : Members) → MembersWritable P a → MembersWritable P b → MembersWritable P c → MembersWritable P (match_ordering r a b c)
  put_either Less a b c h i j = h
  put_either Equal a b c h i j = i
  put_either Greater a b c h i j = j

  put_members : (k : List ℕ) (d : Data) (ms : Members) → (P → IsUtf8 k) → IsWritable P d → MembersWritable P ms → MembersWritable P (put k d ms)
  put_members k d no_members name here h = (name, here, tt)
  put_members k d (member l e ms) name here h =
      put_either (slice_cmp nat_cmp k l) _ _ _ (name, here, h) (h.0, here, h.2) (h.0, h.1, put_members k d ms name here h.2)

  put_writable : (k : List ℕ) (d : Data) (ms : Members) → (P → IsUtf8 k) → IsWritable P d → NamesRise ms × MembersWritable P ms → NamesRise (put k d ms) × MembersWritable P (put k d ms)
  put_writable k d ms name here h = (
    subst (λ (ks : List (List ℕ)). IsStrictlySortedBy (slice_cmp nat_cmp) ks) (sym (names_put k d ms)) (sorted_inserted (slice_cmp nat_cmp) nat_list_cmp_total k (names_of ms) h.0),
    put_members k d ms name here h.1,
  )

  no_names : NamesRise no_members × MembersWritable P no_members
  unfolding IsStrictlySortedBy
  no_names = (tt, tt)

  single_writable : (k : List ℕ) (d : Data) → (P → IsUtf8 k) → IsWritable P d → IsWritable P (single k d)
  single_writable k d name here = put_writable k d no_members name here no_names

  -- ---- variants

  -- the name of a variant, alone or with its payload
  choice_writable : (show : JsonContent → Data) (name : List ℕ) (q : Payload) → (P → IsUtf8 name) → IsWritable P (show (payload_content q)) → IsWritable P (shown_choice show (Some (name, q)))
  choice_writable show name container.unit h k = h
  choice_writable show name (newtype s) h k = single_writable name (show (of s)) h k
  choice_writable show name (tuple ss) h k = single_writable name (show (of (shape.tuple ss))) h k
  choice_writable show name (container.fields fs) h k = single_writable name (show (fields fs)) h k

  module _ (registry : Entries) (t : Tree) (show : JsonContent → Data) (each : (f : JsonContent) → (P → HasNames f) → fits false registry t (unnamed f) ≡ true → IsWritable P (show f)) where
    numbered_writable : (n : ℕ) (cs : List Choice) → (P → ChoiceNames cs) → fits false registry t (option_map_or (λ c. container.of (payload_shape c.1)) (choice_numbered n cs) container.nothing) ≡ true
        → IsWritable P (shown_choice show (choice_numbered n cs))
    numbered_writable n [] names h = tt
    numbered_writable n (c ∷ cs) names h = at (c.0 == n) (numbered_writable n cs (λ p. (names p).2)) h
      where
        at : (b : Bool) → (fits false registry t (option_map_or (λ c. container.of (payload_shape c.1)) (choice_numbered n cs) container.nothing) ≡ true → IsWritable P (shown_choice show (choice_numbered n cs)))
            → fits false registry t (option_map_or (λ c. container.of (payload_shape c.1)) (cond b (Some c.1) (choice_numbered n cs)) container.nothing) ≡ true
            → IsWritable P (shown_choice show (cond b (Some c.1) (choice_numbered n cs)))
        at true later h =
            choice_writable show c.1.0 c.1.1 (λ p. (names p).0)
            (each (payload_content c.1.1) (λ p. payload_names c.1.1 (names p).1) (ap (fits false registry t) (unnamed_payload c.1.1) ∙ h))
        at false later h = later h

  -- ---- trees

  either_writable : (b : Bool) (c d : Data) → (b ≡ true → IsWritable P c) → IsWritable P d → IsWritable P (if b then c else d)
  either_writable true c d h k = h refl
  either_writable false c d h k = k

  module _ (registry : Entries) (names : P → EachHasNames registry) where
    mutual
      writable : (t : Tree) (f : JsonContent) → (P → HasNames f) → fits false registry t (unnamed f) ≡ true → IsWritable P (shown registry t f)
      writable (tree.truth b) (of shape.truth) n h = tt
      writable (tree.unsigned m) (of (shape.unsigned w)) n h = unsigned_writable w m h
      writable (tree.signed z) (of (shape.signed w)) n h = signed_writable w z h
      writable (tree.text s) (of shape.text) n h = λ p. IsUtf8-from_is_utf8 s h
      writable (tree.bytes b) (of shape.bytes) n h = λ p. hex_utf8 b h
      writable (tree.present t) (of (shape.option s)) n h = single_writable (codes "some") (shown registry t (of s)) (λ p. IsUtf8-are_ascii (codes "some") refl) (writable t (of s) (λ p. tt) h)
      writable (tree.items ts) (of (shape.seq s)) n h = either_writable (is_byte s) _ _ (λ is p. byte_text registry s ts h is) (all_writable ts s h)
      writable (tree.items ts) (of (shape.tuple ss)) n h = each_writable ts ss h
      writable (tree.items ts) (of (shape.array s k)) n h =
          let fit = and_right (count ts == k) _ h in
          either_writable (is_byte s) _ _ (λ is p. byte_text registry s ts fit is) (all_writable ts s fit)
      writable (tree.items ts) (fields fs) n h = fields_writable ts fs n h
      writable (tree.pairs ps) (of (shape.map k v)) n h = pairs_writable ps k v h
      writable (tree.variant m t) (one_of cs) n h = numbered_writable registry t (shown registry t) (writable t) m cs n (and_right (nat_lt m (2 ^ 32)) _ h)
      writable (tree.named t) (of (shape.name k)) n h =
          writable t (json_content_at k registry) (λ p. content_names k registry (names p)) (ap (fits false registry t) (unnamed_at k registry) ∙ h)
      writable _ _ n h = tt

      all_writable : (ts : Trees) (s : Shape) → all_fit false registry ts s ≡ true → ItemsWritable P (shown_all registry ts s)
      all_writable no_trees s h = tt
      all_writable (tree t ts) s h = (writable t (of s) (λ p. tt) (and_left _ _ h), all_writable ts s (and_right (fits false registry t (container.of s)) _ h))

      each_writable : (ts : Trees) (ss : Shapes) → each_fits false registry ts ss ≡ true → ItemsWritable P (shown_each registry ts ss)
      each_writable (tree t ts) (shape s ss) h = (writable t (of s) (λ p. tt) (and_left _ _ h), each_writable ts ss (and_right (fits false registry t (container.of s)) _ h))
      each_writable _ _ h = tt

      pairs_writable : (ps : Pairs) (k v : Shape) → pairs_fit false registry ps k v ≡ true → ItemsWritable P (shown_pairs registry ps k v)
      pairs_writable no_pairs k v h = tt
      pairs_writable (pair l w ps) k v h =
          let here = and_left (fits false registry l (container.of k) && fits false registry w (container.of v)) _ h in (
            (writable l (of k) (λ p. tt) (and_left _ _ here), (writable w (of v) (λ p. tt) (and_right (fits false registry l (container.of k)) _ here), tt)),
            pairs_writable ps k v (and_right (fits false registry l (container.of k) && fits false registry w (container.of v)) _ h),
          )

      fields_writable : (ts : Trees) (fs : List Field) → (P → FieldNames fs) → each_fits false registry ts (field_shapes fs) ≡ true → NamesRise (shown_fields registry ts fs) × MembersWritable P (shown_fields registry ts fs)
      fields_writable (tree t ts) (f ∷ fs) n h =
          put_writable f.0 (shown registry t (of f.1)) (shown_fields registry ts fs) (λ p. (n p).0) (writable t (of f.1) (λ p. tt) (and_left _ _ h))
          (fields_writable ts fs (λ p. (n p).1) (and_right (fits false registry t (container.of f.1)) _ h))
      fields_writable _ _ n h = no_names

    -- the JSON of a value of the format
    pub shown_writable : (s : Shape) (t : Tree) → fits false registry t (container.of s) ≡ true → IsWritable P (shown registry t (of s))
    shown_writable s t h = writable t (of s) (λ p. tt) h
