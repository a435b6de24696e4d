-- The location of a refused part: the parts before it were read.
use Rattle.bcs_json_reader.proofs.Prelude.{◌≡◌, ◌∙◌, ◌++◌, ℕ, suc, List, [], ◌∷◌, codes, length, Some, None, Result, Ok, Err, IfSome, option_map, map, string_bytes, refl, ap, sym, subst, arith, length-append, option_map_or, result_err, Data, Members, array, object, no_items, no_members, get_member, view, items_view, Json, Entries, Payload, Choice, choice_called, Shape, shape_of, formats_shapes, field_of, Format, Named, Tree, of, payload_content, without, PointerStep, JsonPart, part, parts, entry, item_parts, each_parts, entry_parts, field_parts, option_parts, enum_parts, pair_parts, IsPlaceAmong, fault_at, Read, Reports, read_content, read_data, read_named, read_pair, read_part, steps, fault_alone, location_of, IsPlaced, Refusal}
use Rattle.serde_json.specs.Data as json
use Rattle.bcs_registry_model.specs.Container as container
use Rattle.bcs_json_spec.specs.Place.{item, member}
use Rattle.bcs_json_reader.proofs.Placed.{IsWay, placed_here, placed_on, read_later}

-- the list found so far, with one more value
pub found_more : {V : Type 0} (vs ws : List V) (v : V) → ws ≡ vs ++ v ∷ [] → length ws ≡ suc (length vs)
found_more vs ws v h = let e : length ws ≡ length (vs ++ v ∷ []) = ap length h in let long = length-append vs (v ∷ []) in omega (arith, e, long)

-- `r` is the refusal of what was read inside, with the step `s` in front of its location
pub record IsOutside {X : Type 0} (s : PointerStep) (inner : Result X Refusal) (r : Refusal) : Type 0 where
  pub same : Err r.fault ≡ fault_alone inner
  pub location : IfSome (steps r.location) (λ path. option_map (λ tail. s ∷ tail) (location_of inner) ≡ Some path)

pub outside_at : {X : Type 0} (n m : ℕ) (inner : Result X Refusal) (r : Refusal) → m ≡ n → IsOutside (item m) inner r → IsOutside (item n) inner r
outside_at n m inner r same h = subst (λ k. IsOutside (item k) inner r) same h

pub outside_named : {X : Type 0} (a b : List ℕ) (inner : Result X Refusal) (r : Refusal) → a ≡ b → IsOutside (member a) inner r → IsOutside (member b) inner r
outside_named a b inner r same h = subst (λ name. IsOutside (member name) inner r) same h

module _ (registry : Entries) (left : ℕ) where
  -- what was read from the JSON of a part
  pub record IsReadOf {X A : Type 0} (see : X → A) (p : JsonPart) (read : Read A) (inner : Result X Refusal) : Type 0 where
    pub reports : Reports see (fault_alone inner) read
    pub placed : IsPlaced registry (parts registry p.left p.target p.json) inner

  here : {X A : Type 0} (see : X → A) (p : JsonPart) (ps : List JsonPart) (inner : Result X Refusal) (r : Refusal) (read : Read A) → fault_at registry p.left p.target p.json ≡ result_err read
      → IsReadOf see p read inner → IsOutside p.step inner r → IsWay registry (p ∷ ps) r
  here see p ps inner r read fault h outside = placed_here registry p ps see p.step inner r read refl fault h.reports h.placed outside.same outside.location

  -- ---- one part

  -- the member `some` of an option
  pub some_placed : {X : Type 0} (s : Shape) (j d : Data) → j ≡ object (json.member (codes "some") d no_members) → (see : X → Tree) (inner : Result X Refusal) (r : Refusal)
      → IsReadOf see (part left (member (codes "some")) (of s) d) (read_data registry left (of s) d) inner → IsOutside (member (codes "some")) inner r → IsWay registry (option_parts left s j) r
  some_placed s j d is see inner r h outside =
      subst (λ i. IsWay registry (option_parts left s i) r) (sym is)
      (here see (part left (member (codes "some")) (of s) d) [] inner r (read_data registry left (of s) d) refl h outside)

  payload_same : (p : Payload) (j : Data) → read_content (read_named registry left) (payload_content p) j ≡ read_part (read_named registry left) (payload_content p) j
  payload_same container.unit j = refl
  payload_same (container.newtype s) j = refl
  payload_same (container.tuple ss) j = refl
  payload_same (container.fields fs) j = refl

  -- the payload of a variant
  pub payload_placed : {X : Type 0} (cs : List Choice) (word : List ℕ) (c : Choice) (j d : Data) → j ≡ object (json.member word d no_members) → choice_called word cs ≡ Some c
      → (see : X → Tree) (inner : Result X Refusal) (r : Refusal) → IsReadOf see (part left (member word) (payload_content c.1.1) d) (read_part (read_named registry left) (payload_content c.1.1) d) inner
      → IsOutside (member word) inner r → IsWay registry (enum_parts left cs j) r
  payload_placed cs word c j d is called see inner r h outside =
      subst (λ i. IsWay registry (enum_parts left cs i) r) (sym is)
      (subst (λ o. IsWay registry (option_map_or (λ c. part left (member word) (payload_content c.1.1) d ∷ []) o []) r) (sym called)
      (here see (part left (member word) (payload_content c.1.1) d) [] inner r (read_part (read_named registry left) (payload_content c.1.1) d) (ap result_err (payload_same c.1.1 d)) h outside))

  -- ---- items of one format

  module _ (s : Shape) (n : ℕ) (js rest : List Json) (j : Json) (is : js ≡ j ∷ rest) where
    abbrev the_item : JsonPart
    the_item = part left (item n) (of s) (view j)

    pub item_placed : {X : Type 0} (see : X → Tree) (inner : Result X Refusal) (r : Refusal) → IsReadOf see the_item (read_data registry left (of s) (view j)) inner → IsOutside (item n) inner r
        → IsWay registry (item_parts left s n (items_view js)) r
    item_placed see inner r h outside =
        subst (λ ks. IsWay registry (item_parts left s n (items_view ks)) r) (sym is)
        (here see the_item (item_parts left s (suc n) (items_view rest)) inner r (read_data registry left (of s) (view j)) refl h outside)

    pub item_onward : (m : ℕ) (t : Tree) → m ≡ suc n → read_data registry left (of s) (view j) ≡ Ok t
        → (path : List PointerStep) → IsPlaceAmong registry path (item_parts left s m (items_view rest)) → IsPlaceAmong registry path (item_parts left s n (items_view js))
    item_onward m t more h path g =
        subst (λ ks. IsPlaceAmong registry path (item_parts left s n (items_view ks))) (sym is)
        (read_later registry the_item (item_parts left s (suc n) (items_view rest)) (read_data registry left (of s) (view j)) t refl h path
        (subst (λ k. IsPlaceAmong registry path (item_parts left s k (items_view rest))) more g))

  -- ---- one item of each format

  module _ (n : ℕ) (fs gs : List Format) (f : Format) (first : fs ≡ f ∷ gs) (js rest : List Json) (j : Json) (is : js ≡ j ∷ rest) where
    abbrev each_item : JsonPart
    each_item = part left (item n) (of (shape_of f)) (view j)

    abbrev each_rest : List JsonPart
    each_rest = each_parts left (formats_shapes gs) (suc n) (items_view rest)

    each_is : each_parts left (formats_shapes fs) n (items_view js) ≡ each_item ∷ each_rest
    each_is = ap (λ hs. each_parts left (formats_shapes hs) n (items_view js)) first ∙ ap (λ ks. each_parts left (formats_shapes (f ∷ gs)) n (items_view ks)) is

    pub each_placed : {X : Type 0} (see : X → Tree) (inner : Result X Refusal) (r : Refusal) → IsReadOf see each_item (read_data registry left (of (shape_of f)) (view j)) inner → IsOutside (item n) inner r
        → IsWay registry (each_parts left (formats_shapes fs) n (items_view js)) r
    each_placed see inner r h outside =
        subst (λ ps. IsWay registry ps r) (sym each_is) (here see each_item each_rest inner r (read_data registry left (of (shape_of f)) (view j)) refl h outside)

    pub each_onward : (m : ℕ) (t : Tree) → m ≡ suc n → read_data registry left (of (shape_of f)) (view j) ≡ Ok t
        → (path : List PointerStep) → IsPlaceAmong registry path (each_parts left (formats_shapes gs) m (items_view rest)) → IsPlaceAmong registry path (each_parts left (formats_shapes fs) n (items_view js))
    each_onward m t more h path g =
        subst (IsPlaceAmong registry path) (sym each_is)
        (read_later registry each_item each_rest (read_data registry left (of (shape_of f)) (view j)) t refl h path
        (subst (λ k. IsPlaceAmong registry path (each_parts left (formats_shapes gs) k (items_view rest))) more g))

  -- no item is left
  pub each_none : (fs : List Format) (n : ℕ) (js : List Json) → js ≡ [] → each_parts left (formats_shapes fs) n (items_view js) ≡ []
  each_none [] n js none = refl
  each_none (f ∷ fs) n js none = ap (λ ks. each_parts left (formats_shapes (f ∷ fs)) n (items_view ks)) none

  -- ---- entries of a map

  module _ (k v : Shape) where
    abbrev reads_entry : Data → Read (Tree × Tree)
    reads_entry = read_pair (read_data registry left (of k)) (read_data registry left (of v))

    module _ (n : ℕ) (js rest : List Json) (j : Json) (is : js ≡ j ∷ rest) where
      abbrev the_entry : JsonPart
      the_entry = record { step = item n; left = left; target = entry k v; json = view j }

      pub entry_placed : {X : Type 0} (see : X → Tree × Tree) (inner : Result X Refusal) (r : Refusal) → IsReadOf see the_entry (reads_entry (view j)) inner → IsOutside (item n) inner r
          → IsWay registry (entry_parts left k v n (items_view js)) r
      entry_placed see inner r h outside =
          subst (λ ks. IsWay registry (entry_parts left k v n (items_view ks)) r) (sym is)
          (here see the_entry (entry_parts left k v (suc n) (items_view rest)) inner r (reads_entry (view j)) refl h outside)

      pub entry_onward : (m : ℕ) (t : Tree × Tree) → m ≡ suc n → reads_entry (view j) ≡ Ok t
          → (path : List PointerStep) → IsPlaceAmong registry path (entry_parts left k v m (items_view rest)) → IsPlaceAmong registry path (entry_parts left k v n (items_view js))
      entry_onward m t more h path g =
          subst (λ ks. IsPlaceAmong registry path (entry_parts left k v n (items_view ks))) (sym is)
          (read_later registry the_entry (entry_parts left k v (suc n) (items_view rest)) (reads_entry (view j)) t refl h path
          (subst (λ i. IsPlaceAmong registry path (entry_parts left k v i (items_view rest))) more g))

    -- the key and the value of an entry
    module _ (j a b : Data) (two : j ≡ array (json.item a (json.item b no_items))) where
      pub key_placed : {X : Type 0} (see : X → Tree) (inner : Result X Refusal) (r : Refusal) → IsReadOf see (part left (item 0) (of k) a) (read_data registry left (of k) a) inner → IsOutside (item 0) inner r
          → IsWay registry (pair_parts left k v j) r
      key_placed see inner r h outside =
          subst (λ i. IsWay registry (pair_parts left k v i) r) (sym two)
          (here see (part left (item 0) (of k) a) (part left (item 1) (of v) b ∷ []) inner r (read_data registry left (of k) a) refl h outside)

      pub value_placed : {X : Type 0} (see : X → Tree) (inner : Result X Refusal) (r : Refusal) (t : Tree) → read_data registry left (of k) a ≡ Ok t
          → IsReadOf see (part left (item 1) (of v) b) (read_data registry left (of v) b) inner → IsOutside (item 1) inner r
          → IsWay registry (pair_parts left k v j) r
      value_placed see inner r t key h outside =
          subst (λ i. IsWay registry (pair_parts left k v i) r) (sym two)
          (placed_on registry (part left (item 1) (of v) b ∷ []) (part left (item 0) (of k) a ∷ part left (item 1) (of v) b ∷ []) r
          (read_later registry (part left (item 0) (of k) a) (part left (item 1) (of v) b ∷ []) (read_data registry left (of k) a) t refl key)
          (here see (part left (item 1) (of v) b) [] inner r (read_data registry left (of v) b) refl h outside))

  -- ---- fields

  module _ (x : Named Format) (fs gs : List (Named Format)) (first : gs ≡ x ∷ fs) (ms : Members) where
    pub missing_none : get_member (string_bytes x.name) ms ≡ None → field_parts left (map field_of gs) ms ≡ []
    missing_none none =
        ap (λ hs. field_parts left (map field_of hs) ms) first
        ∙ ap (λ o. option_map_or (λ d. part left (member (string_bytes x.name)) (of (shape_of x.value)) d ∷ field_parts left (map field_of fs) (without (string_bytes x.name) ms)) o []) none

    module _ (m : Data) (found : get_member (string_bytes x.name) ms ≡ Some m) where
      abbrev the_field : JsonPart
      the_field = part left (member (string_bytes x.name)) (of (shape_of x.value)) m

      fields_are : field_parts left (map field_of gs) ms ≡ the_field ∷ field_parts left (map field_of fs) (without (string_bytes x.name) ms)
      fields_are =
          ap (λ hs. field_parts left (map field_of hs) ms) first
          ∙ ap (λ o. option_map_or (λ d. part left (member (string_bytes x.name)) (of (shape_of x.value)) d ∷ field_parts left (map field_of fs) (without (string_bytes x.name) ms)) o []) found

      pub field_placed : {X : Type 0} (see : X → Tree) (inner : Result X Refusal) (r : Refusal) → IsReadOf see the_field (read_data registry left (of (shape_of x.value)) m) inner
          → IsOutside (member (string_bytes x.name)) inner r → IsWay registry (field_parts left (map field_of gs) ms) r
      field_placed see inner r h outside =
          subst (λ ps. IsWay registry ps r) (sym fields_are)
          (here see the_field (field_parts left (map field_of fs) (without (string_bytes x.name) ms)) inner r (read_data registry left (of (shape_of x.value)) m) refl h outside)

      pub field_onward : (less : Members) (t : Tree) → less ≡ without (string_bytes x.name) ms → read_data registry left (of (shape_of x.value)) m ≡ Ok t
          → (path : List PointerStep) → IsPlaceAmong registry path (field_parts left (map field_of fs) less) → IsPlaceAmong registry path (field_parts left (map field_of gs) ms)
      field_onward less t rest h path g =
          subst (IsPlaceAmong registry path) (sym fields_are)
          (read_later registry the_field (field_parts left (map field_of fs) (without (string_bytes x.name) ms)) (read_data registry left (of (shape_of x.value)) m) t refl h path
          (subst (λ ns. IsPlaceAmong registry path (field_parts left (map field_of fs) ns)) rest g))
