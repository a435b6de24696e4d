-- JSON with the right shape and its numbers in range represents a format or a registry.
use Rattle.bcs_registry.proofs.Prelude.{◌≡◌, ◌^◌, ◌∙◌, ◌&&◌, ℕ, List, [], ◌∷◌, Bool, true, false, Option, Some, None, Less, ap, bytes_eq, codes, decimal, if◌then◌else◌, is_some, nat_lt, refl, subst, sym, unwrap_or, false≢true, bytes_eq-Decides, insert_entry, slice_cmp, list_all, AllByRecursion, IsStrictlySortedBy, keys_of, digits_value, Data, whole, number, string, list, object, Items, no_items, item, Members, no_members, member, put, Choice, Container, Entries, Field, Payload, IsContainerText, IsFieldText, IsFieldsText, IsPayloadText, IsTupleText, IsVariantText, IsVariantsText, Shape, unit, name, option, seq, map, tuple, array, all_containers, all_fields, all_variants, are_fields, are_formats, are_variants, is_container, is_field, is_format, is_map, is_payload, is_registry, is_size, is_text, is_tuple, is_tuple_array, is_variant, is_variant_number, format_named, shown_choices, shown_container, shown_containers, shown_struct, shown_format, shown_formats, single, IsInRange, NumbersRise, all_sizes_fit, container_sizes_fit, numbers_fit, sizes_fit, IsFormatText, IsRegistryText, SomeFormat, SomeRegistry, has_number, has_sizes, insert_all, insert_rises, insert_shown, numbered_below, word_written, IsRising, MembersRising, NamesRise, names_of, read_rising, and-true_parts}
use Rattle.std.proofs.Common.{nat_cmp}
use Rattle.bcs_registry_model.specs.Container as container
use Rattle.bcs_registry.proofs.Back.{array_in, each_field, each_format, field_in, fields_in, format_in, formats_in, map_in, payload_in, size_in, text_in, variant_in}

-- a name that passes the test is equal
name_is : (key k : List ℕ) → bytes_eq key k ≡ true → key ≡ k
name_is key k h = (bytes_eq-Decides key k).0 h

is_at : (key k : List ℕ) (d : Data) → bytes_eq key k ≡ true → single key d ≡ single k d
is_at key k d h = ap (λ (l : List ℕ). single l d) (name_is key k h)

-- ---- formats

some_word : (word : List ℕ) (o : Option Shape) → format_named word ≡ o → is_some o ≡ true → IsFormatText (string word) (unwrap_or o unit)
some_word word None named h = absurd cc
some_word word (Some s) named h = word_written word s named

some_text : (d : Data) → is_text d ≡ true → d ≡ string (text_in d)
some_text (string s) h = refl
some_text _ h = absurd cc

some_size : (d : Data) → is_size false d ≡ true → (d ≡ number (whole (size_in d))) × (nat_lt (size_in d) (2 ^ 64) ≡ true)
some_size (number (whole n)) h = (refl, h)
some_size _ h = absurd cc

-- one tag in a chain of tests, where rest is the test for the following tags
module _ {A : Type 0} (Is : Data → A → Type 0) (key : List ℕ) (d : Data) where
  tagged : (k : List ℕ) (test : Bool) (a : A) (rest : Bool) (b : A) → (test ≡ true → Is (single k d) a) → (rest ≡ true → Is (single key d) b)
      → (if bytes_eq key k then test else rest) ≡ true → Is (single key d) (if bytes_eq key k then a else b)
  tagged k test a rest b f g = at (bytes_eq key k) refl
    where
      at : (same : Bool) → bytes_eq key k ≡ same → (if same then test else rest) ≡ true → Is (single key d) (if same then a else b)
      at true e h = subst (λ (x : Data). Is x a) (sym (is_at key k d e)) (f h)
      at false e h = g h

some_tagged : (key : List ℕ) (d : Data) → (is_format false d ≡ true → IsFormatText d (format_in d)) → (is_map false d ≡ true → IsFormatText (single (codes "MAP") d) (map_in d))
    → (is_tuple false d ≡ true → IsTupleText d (formats_in d)) → (is_tuple_array false d ≡ true → IsFormatText (single (codes "TUPLEARRAY") d) (array_in d))
    → is_format false (single key d) ≡ true → IsFormatText (single key d) (format_in (single key d))
some_tagged key d f m t a =
    tagged IsFormatText key d (codes "TYPENAME") (is_text d) (name (text_in d)) _ _ (λ h. record { is = ap (single (codes "TYPENAME")) (some_text d h); sizes = refl })
    (tagged IsFormatText key d (codes "OPTION") (is_format false d) (option (format_in d)) _ _ (λ h. let w = f h in record { is = ap (single (codes "OPTION")) w.is; sizes = w.sizes })
    (tagged IsFormatText key d (codes "SEQ") (is_format false d) (seq (format_in d)) _ _ (λ h. let w = f h in record { is = ap (single (codes "SEQ")) w.is; sizes = w.sizes })
    (tagged IsFormatText key d (codes "MAP") (is_map false d) (map_in d) _ _ m
    (tagged IsFormatText key d (codes "TUPLE") (is_tuple false d) (tuple (formats_in d)) _ _ (λ h. let w = t h in record { is = ap (single (codes "TUPLE")) w.is; sizes = w.sizes })
    (tagged IsFormatText key d (codes "TUPLEARRAY") (is_tuple_array false d) (array_in d) false unit a (λ h. absurd (false≢true h)))))))

-- two members by their names
two_at : (first second one other : List ℕ) (d e : Data) → (bytes_eq first one && bytes_eq second other) ≡ true
    → object (member first d (member second e no_members)) ≡ object (member one d (member other e no_members))
two_at first second one other d e h =
    let p = and-true_parts (bytes_eq first one) (bytes_eq second other) h in
    ap (λ (l : List ℕ). object (member l d (member second e no_members))) (name_is first one p.0)
    ∙ ap (λ (l : List ℕ). object (member one d (member l e no_members))) (name_is second other p.1)

some_pair : (first second : List ℕ) (k v : Data) → (is_format false k ≡ true → IsFormatText k (format_in k)) → (is_format false v ≡ true → IsFormatText v (format_in v))
    → is_map false (object (member first k (member second v no_members))) ≡ true
    → IsFormatText (single (codes "MAP") (object (member first k (member second v no_members)))) (map (format_in k) (format_in v))
some_pair first second k v f g h =
    let p = and-true_parts (bytes_eq first (codes "KEY") && bytes_eq second (codes "VALUE")) (is_format false k && is_format false v) h in
    let q = and-true_parts (is_format false k) (is_format false v) p.1 in
    let a = f q.0 in
    let b = g q.1 in
    record {
      is = ap (single (codes "MAP")) (two_at first second (codes "KEY") (codes "VALUE") k v p.0
          ∙ ap (λ (x : Data). object (member (codes "KEY") x (member (codes "VALUE") v no_members))) a.is
          ∙ ap (λ (x : Data). object (member (codes "KEY") (shown_format (format_in k)) (member (codes "VALUE") x no_members))) b.is);
      sizes = rw (a.sizes, b.sizes) refl;
    }

some_sized : (first second : List ℕ) (c n : Data) → (is_format false c ≡ true → IsFormatText c (format_in c))
    → is_tuple_array false (object (member first c (member second n no_members))) ≡ true
    → IsFormatText (single (codes "TUPLEARRAY") (object (member first c (member second n no_members)))) (array (format_in c) (size_in n))
some_sized first second c n f h =
    let p = and-true_parts (bytes_eq first (codes "CONTENT") && bytes_eq second (codes "SIZE")) (is_format false c && is_size false n) h in
    let q = and-true_parts (is_format false c) (is_size false n) p.1 in
    let a = f q.0 in
    let b = some_size n q.1 in
    record {
      is = ap (single (codes "TUPLEARRAY")) (two_at first second (codes "CONTENT") (codes "SIZE") c n p.0
          ∙ ap (λ (x : Data). object (member (codes "CONTENT") x (member (codes "SIZE") n no_members))) a.is
          ∙ ap (λ (x : Data). object (member (codes "CONTENT") (shown_format (format_in c)) (member (codes "SIZE") x no_members))) b.0);
      sizes = rw (a.sizes, b.1) refl;
    }

mutual
  some_format : (d : Data) → is_format false d ≡ true → IsFormatText d (format_in d)
  some_format (string word) h = some_word word (format_named word) refl h
  some_format (object (member key d no_members)) h = some_tagged key d (some_format d) (some_map d) (some_tuple d) (some_tuple_array d) h
  some_format _ h = absurd (false≢true h)

  some_map : (d : Data) → is_map false d ≡ true → IsFormatText (single (codes "MAP") d) (map_in d)
  some_map (object (member first k (member second v no_members))) h = some_pair first second k v (some_format k) (some_format v) h
  some_map _ h = absurd (false≢true h)

  some_tuple_array : (d : Data) → is_tuple_array false d ≡ true → IsFormatText (single (codes "TUPLEARRAY") d) (array_in d)
  some_tuple_array (object (member first c (member second n no_members))) h = some_sized first second c n (some_format c) h
  some_tuple_array _ h = absurd (false≢true h)

  some_tuple : (d : Data) → is_tuple false d ≡ true → IsTupleText d (formats_in d)
  some_tuple (list ds) h = let w = some_formats ds h in record { is = ap list w.0; sizes = w.1 }
  some_tuple _ h = absurd (false≢true h)

  some_formats : (ds : Items) → are_formats false ds ≡ true → (ds ≡ shown_formats (each_format ds)) × (all_sizes_fit (each_format ds) ≡ true)
  some_formats no_items h = (refl, refl)
  some_formats (item d ds) h =
      let p = and-true_parts (is_format false d) (are_formats false ds) h in
      let a = some_format d p.0 in
      let b = some_formats ds p.1 in
      (ap (λ x. item x ds) a.is ∙ ap (item (shown_format (format_in d))) b.0, rw (a.sizes, b.1) refl)

pub format_written : SomeFormat
format_written text d json h = (format_in d, (d, json, some_format d h))

-- ---- fields and payloads

some_field : (d : Data) → is_field false d ≡ true → IsFieldText d (field_in d)
some_field (object (member n d no_members)) h = let w = some_format d h in record { is = ap (single n) w.is; sizes = w.sizes }
some_field _ h = absurd (false≢true h)

every_field : (ds : Items) → all_fields false ds ≡ true → (ds ≡ shown_struct (each_field ds)) × (list_all (λ f. sizes_fit f.1) (each_field ds) ≡ true)
every_field no_items h = (refl, refl)
every_field (item d ds) h =
    let p = and-true_parts (is_field false d) (all_fields false ds) h in
    let a = some_field d p.0 in
    let b = every_field ds p.1 in
    (ap (λ x. item x ds) a.is ∙ ap (item (single (field_in d).0 (shown_format (field_in d).1))) b.0, rw (a.sizes, b.1) refl)

some_fields : (d : Data) → are_fields false d ≡ true → IsFieldsText d (fields_in d)
some_fields (list ds) h = let w = every_field ds h in record { is = ap list w.0; sizes = w.1 }
some_fields _ h = absurd (false≢true h)

some_payload : (d : Data) → is_payload false d ≡ true → IsPayloadText d (payload_in d)
some_payload (string word) h = record { is = ap string (name_is word (codes "UNIT") h); sizes = refl }
some_payload (object (member key d no_members)) h =
    tagged IsPayloadText key d (codes "NEWTYPE") (is_format false d) (container.newtype (format_in d)) _ _
    (λ g. let w = some_format d g in record { is = ap (single (codes "NEWTYPE")) w.is; sizes = w.sizes })
    (tagged IsPayloadText key d (codes "TUPLE") (is_tuple false d) (container.tuple (formats_in d)) _ _
    (λ g. let w = some_tuple d g in record { is = ap (single (codes "TUPLE")) w.is; sizes = w.sizes })
    (tagged IsPayloadText key d (codes "STRUCT") (are_fields false d) (container.fields (fields_in d)) false container.unit
    (λ g. let w = some_fields d g in record { is = ap (single (codes "STRUCT")) w.is; sizes = w.sizes })
    (λ g. absurd (false≢true g))))
    h
some_payload _ h = absurd (false≢true h)

some_variant : (d : Data) → is_variant false d ≡ true → IsVariantText d (variant_in d)
some_variant (object (member n d no_members)) h = let w = some_payload d h in record { is = ap (single n) w.is; sizes = w.sizes }
some_variant _ h = absurd (false≢true h)

-- ---- variants

abbrev choices_in : Members → List Choice
choices_in no_members = []
choices_in (member k d ms) = insert_entry nat_cmp (choices_in ms) (digits_value 10 k) (variant_in d)

record AreWritten (ms : Members) : Type 0 where
  shown : shown_choices (choices_in ms) ≡ ms
  rise : IsStrictlySortedBy nat_cmp (keys_of (choices_in ms))
  numbers : list_all has_number (choices_in ms) ≡ true
  sizes : list_all has_sizes (choices_in ms) ≡ true

-- a member whose name is below all others comes first
put_first : (k : List ℕ) (d : Data) (ms : Members) → AllByRecursion (λ y. slice_cmp nat_cmp k y ≡ Less) (names_of ms) → put k d ms ≡ member k d ms
put_first k d no_members h = refl
put_first k d (member l e ms) h = rw h.0 refl

one_written : (k : List ℕ) (d : Data) (ms : Members) → AllByRecursion (λ y. slice_cmp nat_cmp k y ≡ Less) (names_of ms) → AreWritten ms
    → is_variant_number k ≡ true → IsVariantText d (variant_in d) → AreWritten (member k d ms)
one_written k d ms first rest plain v =
    let n : ℕ = digits_value 10 k in
    let p = and-true_parts (bytes_eq k (decimal n)) (nat_lt n (2 ^ 32)) plain in
    let named : decimal n ≡ k = sym (name_is k (decimal n) p.0) in
    record {
      shown = insert_shown n (variant_in d) (numbered_below n p.1) (choices_in ms) rest.numbers ∙ rw (named, rest.shown, sym v.is) (put_first k d ms first);
      rise = insert_rises n (variant_in d) (choices_in ms) rest.rise;
      numbers = insert_all n (variant_in d) has_number p.1 (choices_in ms) rest.numbers;
      sizes = insert_all n (variant_in d) has_sizes v.sizes (choices_in ms) rest.sizes;
    }

choices_written : (ms : Members) → NamesRise ms → all_variants false ms ≡ true → AreWritten ms
unfolding IsStrictlySortedBy
choices_written no_members rise h = record { shown = refl; rise = tt; numbers = refl; sizes = refl }
choices_written (member k d ms) rise h =
    let p = and-true_parts (is_variant_number k && is_variant false d) (all_variants false ms) h in
    let q = and-true_parts (is_variant_number k) (is_variant false d) p.0 in
    one_written k d ms rise.0 (choices_written ms rise.1 p.1) q.0 (some_variant d q.1)

abbrev variants_in : Data → List Choice
variants_in (object ms) = choices_in ms
variants_in _ = []

some_variants : (d : Data) → IsRising d → are_variants false d ≡ true → IsVariantsText d (variants_in d)
some_variants (object ms) rising h =
    let w = choices_written ms rising.0 h in
    record { is = ap object (sym w.shown); range = record { rise = w.rise; numbers = w.numbers; sizes = w.sizes } }
some_variants _ rising h = absurd (false≢true h)

-- ---- containers

abbrev made : Data → Container
made (object (member key d no_members)) =
    if bytes_eq key (codes "NEWTYPESTRUCT") then container.newtype_struct (format_in d)
    else (if bytes_eq key (codes "TUPLESTRUCT") then container.tuple_struct (formats_in d)
    else (if bytes_eq key (codes "STRUCT") then container.field_struct (fields_in d)
    else (if bytes_eq key (codes "ENUM") then container.enumeration (variants_in d) else container.unit_struct)))
made _ = container.unit_struct

-- a container without variant numbers
plain_range : (c : Container) → NumbersRise c → numbers_fit c ≡ true → container_sizes_fit c ≡ true → IsInRange c
plain_range c rise numbers sizes = record { rise = rise; numbers = numbers; sizes = sizes }

some_container : (d : Data) → IsRising d → is_container false d ≡ true → IsContainerText d (made d)
some_container (string word) rising h = record { is = ap string (name_is word (codes "UNITSTRUCT") h); range = plain_range container.unit_struct tt refl refl }
some_container (object (member key d no_members)) rising h =
    tagged IsContainerText key d (codes "NEWTYPESTRUCT") (is_format false d) (container.newtype_struct (format_in d)) _ _
    (λ g. let w = some_format d g in record { is = ap (single (codes "NEWTYPESTRUCT")) w.is; range = plain_range (container.newtype_struct (format_in d)) tt refl w.sizes })
    (tagged IsContainerText key d (codes "TUPLESTRUCT") (is_tuple false d) (container.tuple_struct (formats_in d)) _ _
    (λ g. let w = some_tuple d g in record { is = ap (single (codes "TUPLESTRUCT")) w.is; range = plain_range (container.tuple_struct (formats_in d)) tt refl w.sizes })
    (tagged IsContainerText key d (codes "STRUCT") (are_fields false d) (container.field_struct (fields_in d)) _ _
    (λ g. let w = some_fields d g in record { is = ap (single (codes "STRUCT")) w.is; range = plain_range (container.field_struct (fields_in d)) tt refl w.sizes })
    (tagged IsContainerText key d (codes "ENUM") (are_variants false d) (container.enumeration (variants_in d)) false container.unit_struct
    (λ g. let w = some_variants d rising.1.0 g in record { is = ap (single (codes "ENUM")) w.is; range = w.range })
    (λ g. absurd (false≢true g)))))
    h
some_container _ rising h = absurd (false≢true h)

abbrev entries_in : Members → Entries
entries_in no_members = []
entries_in (member k d ms) = (k, made d) ∷ entries_in ms

names_same : (ms : Members) → keys_of (entries_in ms) ≡ names_of ms
names_same no_members = refl
names_same (member k d ms) = ap (λ ns. k ∷ ns) (names_same ms)

some_containers : (ms : Members) → MembersRising ms → all_containers false ms ≡ true → (ms ≡ shown_containers (entries_in ms)) × AllByRecursion (λ e. IsInRange e.1) (entries_in ms)
some_containers no_members rising h = (refl, tt)
some_containers (member k d ms) rising h =
    let p = and-true_parts (is_container false d) (all_containers false ms) h in
    let a = some_container d rising.0 p.0 in
    let b = some_containers ms rising.1 p.1 in
    (ap (λ x. member k x ms) a.is ∙ ap (member k (shown_container (made d))) b.0, (a.range, b.1))

some_registry : (d : Data) → IsRising d → is_registry false d ≡ true → (r : Entries) × IsRegistryText d r
some_registry (object ms) rising h =
    let w = some_containers ms rising.1 h in (
      entries_in ms,
      record {
        is = ap object w.0;
        orderly = record {
          names = subst (λ (ns : List (List ℕ)). IsStrictlySortedBy (slice_cmp nat_cmp) ns) (sym (names_same ms)) rising.0;
          containers = w.1;
        };
      },
    )
some_registry _ rising h = absurd (false≢true h)

pub registry_written : SomeRegistry
registry_written text d json h = let w = some_registry d (read_rising text d json.1) h in (w.0, (d, json, w.1))
