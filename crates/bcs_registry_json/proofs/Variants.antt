-- The variants read from the object of an enum, by number.
use Rattle.bcs_registry_json.proofs.Prelude.{◌≡◌, ◌<◌, ◌^◌, ◌∙◌, ◌&&◌, ◌||◌, ℕ, List, [], ◌∷◌, Bool, true, false, Ordering, Less, Equal, Greater, ap, decimal, map, nat_cmp, refl, string_bytes, Decides-ltb, insert_entry, list_all, IsStrictlySortedBy, keys_of, match_ordering, Entry, Data, put, view, Payload, IsFaultBy, IsVariantText, IsVariantsText, all_variants, are_variants, is_variant, is_variant_number, shown_choices, choice_of, payload_of, RegistryFault, Named, VariantFormat, Variant, numbers_rise}
use Rattle.bcs_registry_json.proofs.Choices.{has_number, has_sizes, insert_all, insert_shown}
use Rattle.bcs_registry_json.proofs.Entries.{IsRead, all_read, member_false, one_read}
use Rattle.bcs_registry_json.proofs.Rows.{passes_on}
use Rattle.bcs_registry_json.proofs.TwoTests.{and-false_left, and-false_right}

-- a variant in a map, as a name and a payload
abbrev pub variant_of : Named VariantFormat → List ℕ × Payload
variant_of v = (string_bytes v.name, payload_of v.value)

choices_either : (o : Ordering) (a b c : List Variant) → map choice_of (match_ordering o a b c) ≡ match_ordering o (map choice_of a) (map choice_of b) (map choice_of c)
choices_either Less a b c = refl
choices_either Equal a b c = refl
choices_either Greater a b c = refl

choices_inserted : (es : List Variant) (n : ℕ) (v : Named VariantFormat) → map choice_of (insert_entry nat_cmp es n v) ≡ insert_entry nat_cmp (map choice_of es) n (variant_of v)
choices_inserted [] n v = refl
choices_inserted (e ∷ es) n v =
    choices_either (nat_cmp n e.0) ((n, v) ∷ e ∷ es) ((e.0, v) ∷ es) (e ∷ insert_entry nat_cmp es n v) ∙ rw (choices_inserted es n v) refl

-- the variants that were read so far from the object of an enum
pub record VariantsRead (d : Data) (rest : List Entry) (es : List Variant) : Type 0 where
  pub read : IsRead d rest (shown_choices (map choice_of es))
  pub rise : IsStrictlySortedBy nat_cmp (keys_of es)
  pub numbers : list_all has_number (map choice_of es) ≡ true
  pub sizes : list_all has_sizes (map choice_of es) ≡ true

pub variants_written : (d : Data) (rest : List Entry) (es : List Variant) → VariantsRead d rest es → rest ≡ [] → IsVariantsText d (map choice_of es)
variants_written d rest es is none = record {
  is = all_read d rest (shown_choices (map choice_of es)) is.read none;
  range = record {
    rise = numbers_rise es is.rise;
    numbers = is.numbers;
    sizes = is.sizes;
  };
}

pub one_variant : (d : Data) (rest left : List Entry) (e : Entry) (es more : List Variant) (n : ℕ) (v : Named VariantFormat) → VariantsRead d rest es → rest ≡ e ∷ left
    → more ≡ insert_entry nat_cmp es n v → IsStrictlySortedBy nat_cmp (keys_of more) → n < 2 ^ 32 → string_bytes e.0 ≡ decimal n → IsVariantText (view e.1) (variant_of v)
    → VariantsRead d left more
one_variant d rest left e es more n v is next inserted rise small named written =
    let cs = map choice_of es in
    let choices : map choice_of more ≡ insert_entry nat_cmp cs n (variant_of v) = ap (map choice_of) inserted ∙ choices_inserted es n v in
    let shown : shown_choices (map choice_of more) ≡ put (string_bytes e.0) (view e.1) (shown_choices cs) =
    ap shown_choices choices ∙ insert_shown n (variant_of v) small cs is.numbers ∙ rw (named, written.is) refl in
    record {
      read = one_read d rest left (shown_choices cs) e is.read next (shown_choices (map choice_of more)) shown;
      rise = rise;
      numbers = ap (list_all has_number) choices ∙ insert_all n (variant_of v) has_number ((Decides-ltb n (2 ^ 32)).1 small) cs is.numbers;
      sizes = ap (list_all has_sizes) choices ∙ insert_all n (variant_of v) has_sizes written.sizes cs is.sizes;
    }

-- ---- faults

module _ (d : Data) (rest left : List Entry) (e : Entry) (es : List Variant) (is : VariantsRead d rest es) (next : rest ≡ e ∷ left) where
  member_fails : (loose : Bool) → ((loose || is_variant_number (string_bytes e.0)) && is_variant loose (view e.1)) ≡ false → are_variants loose d ≡ false
  member_fails loose h =
      member_false d rest left (shown_choices (map choice_of es)) e is.read next
      (λ k m. (loose || is_variant_number k) && is_variant loose m) (all_variants loose) (are_variants loose) (λ k m ms. refl) (λ ms. refl) h

  pub number_fault : is_variant_number (string_bytes e.0) ≡ false → are_variants false d ≡ false
  number_fault h = member_fails false (and-false_left (is_variant_number (string_bytes e.0)) (is_variant false (view e.1)) h)

  pub variant_fault : (x : RegistryFault) → IsFaultBy (λ loose. is_variant loose (view e.1)) x → IsFaultBy (λ loose. are_variants loose d) x
  variant_fault x = passes_on (λ loose. is_variant loose (view e.1)) (λ loose. are_variants loose d) x
      (λ loose h. member_fails loose (and-false_right (loose || is_variant_number (string_bytes e.0)) (is_variant loose (view e.1)) h))
