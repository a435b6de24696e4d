-- In a registry that was read from a text, the names of fields and variants are UTF-8.
use Rattle.bcs_json_spec.proofs.Prelude.{◌≡◌, ◌∙◌, ◌^◌, ℕ, ◌<◌, List, [], ◌∷◌, Bool, true, false, bytes_eq, cond, Some, None, Ordering, Less, Equal, Greater, IsUtf8, decimal, nat_cmp, nat_lt, refl, subst, Decides-ltb, nat_cmp_is, slice_cmp, AllByRecursion, list_all, IsStrictlySortedBy, keys_of, option_map_or, match_ordering, Data, Members, no_members, member, put, get_member, get_member-put, get_member-put_other, Choice, Container, Entries, Field, Payload, container_at, enumeration, field_struct, newtype_struct, tuple_struct, unit_struct, IsInRange, shown_choices, shown_container, shown_containers, shown_struct, shown_payload, single, WritesRegistry, texts_differ, JsonContent, fields, json_content, json_content_at, nothing, one_of, payload_content, without}
use Rattle.bcs_registry_model.specs.Container as container
use Rattle.bcs_json_spec.proofs.Fitting.{and_left, and_right}
use Rattle.bcs_json_spec.proofs.Members.{without_put}
use Rattle.bcs_json_spec.proofs.Utf8Read.{HasUtf8, ItemsHaveUtf8, MembersHaveUtf8, read_utf8}

-- ---- names

abbrev pub FieldNames : List Field → Type 0
FieldNames [] = Unit {0}
FieldNames (f ∷ fs) = IsUtf8 f.0 × FieldNames fs

abbrev PayloadNames : Payload → Type 0
PayloadNames (container.fields fs) = FieldNames fs
PayloadNames _ = Unit {0}

abbrev pub ChoiceNames : List Choice → Type 0
ChoiceNames [] = Unit {0}
ChoiceNames (c ∷ cs) = IsUtf8 c.1.0 × PayloadNames c.1.1 × ChoiceNames cs

-- the names in a content are UTF-8
abbrev pub HasNames : JsonContent → Type 0
HasNames (fields fs) = FieldNames fs
HasNames (one_of cs) = ChoiceNames cs
HasNames _ = Unit {0}

abbrev pub EachHasNames : Entries → Type 0
EachHasNames [] = Unit {0}
EachHasNames (e ∷ es) = HasNames (json_content e.1) × EachHasNames es

-- ---- found by name and by number

found_names : (name : List ℕ) (registry : Entries) → EachHasNames registry → HasNames (option_map_or json_content (container_at name registry) nothing)
found_names name [] h = tt
found_names name (e ∷ es) h = at (bytes_eq name e.0) (found_names name es h.1)
  where
    at : (b : Bool) → HasNames (option_map_or json_content (container_at name es) nothing) → HasNames (option_map_or json_content (cond b (Some e.1) (container_at name es)) nothing)
    at true later = h.0
    at false later = later

-- the content of a container
pub content_names : (name : List ℕ) (registry : Entries) → EachHasNames registry → HasNames (json_content_at name registry)
content_names name registry h = found_names name registry h

pub payload_names : (p : Payload) → PayloadNames p → HasNames (payload_content p)
payload_names container.unit h = tt
payload_names (container.newtype s) h = tt
payload_names (container.tuple ss) h = tt
payload_names (container.fields fs) h = h

-- ---- reading a text

fields_read : (fs : List Field) → ItemsHaveUtf8 (shown_struct fs) → FieldNames fs
fields_read [] h = tt
fields_read (f ∷ fs) h = (h.0.0, fields_read fs h.1)

payload_read : (p : Payload) → HasUtf8 (shown_payload p) → PayloadNames p
payload_read container.unit h = tt
payload_read (container.newtype s) h = tt
payload_read (container.tuple ss) h = tt
payload_read (container.fields fs) h = fields_read fs h.1

-- a member that is found
found_utf8 : (k : List ℕ) (d : Data) (ms : Members) → MembersHaveUtf8 ms → get_member k ms ≡ Some d → HasUtf8 d
found_utf8 k d no_members h is = absurd cc
found_utf8 k d (member l e ms) h is = at (slice_cmp nat_cmp k l) (found_utf8 k d ms h.2) is
  where
    at : (o : Ordering) → (get_member k ms ≡ Some d → HasUtf8 d) → match_ordering o (get_member k ms) (Some e) (get_member k ms) ≡ Some d → HasUtf8 d
    at Less later is = later is
    at Equal later is = let same : e ≡ d = cc in subst HasUtf8 same h.1
    at Greater later is = later is

without_utf8 : (k : List ℕ) (ms : Members) → MembersHaveUtf8 ms → MembersHaveUtf8 (without k ms)
without_utf8 k no_members h = tt
without_utf8 k (member l e ms) h = at (bytes_eq k l) (without_utf8 k ms h.2)
  where
    at : (b : Bool) → MembersHaveUtf8 (without k ms) → MembersHaveUtf8 (cond b ms (member l e (without k ms)))
    at true later = h.2
    at false later = (h.0, h.1, later)

below_differs : (m n : ℕ) → nat_cmp m n ≡ Less → m ≡ n → ⊥
below_differs m n h same = cc (nat_cmp_is m n Equal same, h)

-- no later variant has the number of the first
new_number : (n : ℕ) (cs : List Choice) → n < 2 ^ 32 → list_all (λ c. nat_lt c.0 (2 ^ 32)) cs ≡ true → AllByRecursion (λ m. nat_cmp n m ≡ Less) (keys_of cs)
    → get_member (decimal n) (shown_choices cs) ≡ None
new_number n [] small fit above = refl
new_number n (c ∷ cs) small fit above =
    get_member-put_other (decimal n) (decimal c.0) (single c.1.0 (shown_payload c.1.1)) (shown_choices cs)
    (texts_differ n c.0 small ((Decides-ltb c.0 (2 ^ 32)).0 (and_left _ _ fit)) (below_differs n c.0 above.0))
    ∙ new_number n cs small (and_right (nat_lt c.0 (2 ^ 32)) _ fit) above.1

choices_read : (cs : List Choice) → IsStrictlySortedBy nat_cmp (keys_of cs) → list_all (λ c. nat_lt c.0 (2 ^ 32)) cs ≡ true → MembersHaveUtf8 (shown_choices cs) → ChoiceNames cs
unfolding IsStrictlySortedBy
choices_read [] rise fit h = tt
choices_read (c ∷ cs) rise fit h =
    let k = decimal c.0 in
    let d = single c.1.0 (shown_payload c.1.1) in
    let ms = shown_choices cs in
    let rest = and_right (nat_lt c.0 (2 ^ 32)) _ fit in
    let own = found_utf8 k d (put k d ms) h (get_member-put k d ms) in
    let new = new_number c.0 cs ((Decides-ltb c.0 (2 ^ 32)).0 (and_left _ _ fit)) rest rise.0 in
    (own.0, payload_read c.1.1 own.1, choices_read cs rise.1 rest (subst MembersHaveUtf8 (without_put k d ms new) (without_utf8 k (put k d ms) h)))

container_read : (c : Container) → IsInRange c → HasUtf8 (shown_container c) → HasNames (json_content c)
container_read unit_struct range h = tt
container_read (newtype_struct s) range h = tt
container_read (tuple_struct ss) range h = tt
container_read (field_struct fs) range h = fields_read fs h.1
container_read (enumeration cs) range h = choices_read cs range.rise range.numbers h.1

containers_read : (registry : Entries) → AllByRecursion (λ e. IsInRange e.1) registry → MembersHaveUtf8 (shown_containers registry) → EachHasNames registry
containers_read [] ranges h = tt
containers_read (e ∷ es) ranges h = (container_read e.1 ranges.0 h.1, containers_read es ranges.1 h.2)

-- the names in a registry that was read from a text
pub written_names : (text : List ℕ) (registry : Entries) → WritesRegistry text registry → EachHasNames registry
written_names text registry w = containers_read registry w.2.orderly.containers (subst HasUtf8 w.2.is (read_utf8 text w.0 w.1))
