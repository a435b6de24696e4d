-- The first part that is refused has the fault of the whole.
use Rattle.bcs_json_spec.proofs.Prelude.{◌≡◌, ◌≢◌, ◌∙◌, ℕ, zero, suc, List, [], ◌∷◌, ◌++◌, codes, Option, None, Some, Ok, Err, Bool, true, false, ◌==◌, if◌then◌else◌, bytes_eq, All, refl, ap, sym, option_or, option_map_or, result_err, All-head, All-tail, Data, array, object, Items, no_items, Members, no_members, get_member, Shape, Shapes, no_shapes, shape, Field, Payload, Choice, Entries, choice_called, Tree, Trees, is_byte, JsonContent, of, fields, one_of, nothing, json_content_at, payload_content, PlaceIsRefusedAlone, item_count, shape_count, without, PointerStep, Target, value, entry, JsonPart, part, parts, item_parts, each_parts, entry_parts, field_parts, option_parts, seq_parts, map_parts, tuple_parts, array_parts, struct_parts, enum_parts, pair_parts, shape_parts, named_parts, IsGood, IsPlaceAmong, IsRefusedAlone, Read, follow, read_all, read_array, read_choice, read_content, read_data, read_each, read_enum, read_fields, read_map, read_member, read_named, read_option, read_pair, read_pairs, read_part, read_seq, read_struct, read_tuple, JsonFault, BadShape}
use Rattle.serde_json.specs.Data as json
use Rattle.bcs_registry_model.specs.Shape as shape
use Rattle.bcs_registry_model.specs.Container as container
use Rattle.bcs_value_model.specs.Tree as tree
use Rattle.bcs_json_spec.specs.Place.{item, member}
use Rattle.bcs_json_spec.proofs.FaultAt.{fault_at, fault_of, good_of, none_of, refused_of}
use Rattle.bcs_json_spec.proofs.Places.{among, Leads}

no_some : {A P : Type 0} (x : A) → None ≡ Some x → P
no_some x h = cc

-- if the rest can't fail, the faults are those of the beginning
done : {A B : Type 0} (x : Read A) (f : A → B) → result_err (follow x (λ a. Ok (f a))) ≡ result_err x
done (Ok a) f = refl
done (Err e) f = refl

-- two readings, one after the other
both : {A B C : Type 0} (x : Read A) (y : Read B) (f : A → B → C) (o : Option JsonFault) (g : JsonFault) → (o ≡ Some g → result_err y ≡ Some g)
    → option_or (result_err x) o ≡ Some g → result_err (follow x (λ a. follow y (λ b. Ok (f a b)))) ≡ Some g
both (Ok a) y f o g rest h = done y (f a) ∙ rest h
both (Err e) y f o g rest h = h

module _ (registry : Entries) (g : JsonFault) where
  -- the first fault among the parts
  abbrev first : List JsonPart → Option JsonFault
  first [] = None
  first (p ∷ ps) = option_or (fault_at registry p.left p.target p.json) (first ps)

  -- the first fault among the parts, if there is one, is the fault of the reading
  abbrev ReportsFirst : {A : Type 0} → List JsonPart → Read A → Type 0
  ReportsFirst ps x = first ps ≡ Some g → result_err x ≡ Some g

  one_part : {A : Type 0} (p : JsonPart) (x : Read A) → fault_at registry p.left p.target p.json ≡ result_err x → ReportsFirst (p ∷ []) x
  one_part p (Ok a) is h = no_some g (sym (ap (λ o. option_or o None) is) ∙ h)
  one_part p (Err e) is h = sym (ap (λ o. option_or o None) is) ∙ h

  when : {A : Type 0} (b : Bool) (ps : List JsonPart) (x y : Read A) → ReportsFirst ps x → ReportsFirst (if b then ps else []) (if b then x else y)
  when true ps x y t h = t h
  when false ps x y t h = no_some g h

  onward : {A B : Type 0} (ps : List JsonPart) (x : Read A) (f : A → B) → ReportsFirst ps x → ReportsFirst ps (follow x (λ a. Ok (f a)))
  onward ps x f t h = done x f ∙ t h

  module _ (d : ℕ) where
    abbrev reads : Shape → Data → Read Tree
    reads s = read_data registry d (of s)

    items_report : (s : Shape) (i : ℕ) (ds : Items) → ReportsFirst (item_parts d s i ds) (read_all (reads s) ds)
    items_report s i no_items h = no_some g h
    items_report s i (json.item j ds) h = both (reads s j) (read_all (reads s) ds) tree.tree (first (item_parts d s (suc i) ds)) g (items_report s (suc i) ds) h

    each_report : (ss : Shapes) (i : ℕ) (ds : Items) → ReportsFirst (each_parts d ss i ds) (read_each (read_named registry d) ss ds)
    each_report (shape s ss) i (json.item j ds) h =
        both (reads s j) (read_each (read_named registry d) ss ds) tree.tree (first (each_parts d ss (suc i) ds)) g (each_report ss (suc i) ds) h
    each_report (shape s ss) i no_items h = no_some g h
    each_report no_shapes i ds h = no_some g h

    entries_report : (k v : Shape) (i : ℕ) (ds : Items) → ReportsFirst (entry_parts d k v i ds) (read_pairs (reads k) (reads v) ds)
    entries_report k v i no_items h = no_some g h
    entries_report k v i (json.item j ds) h =
        both (read_pair (reads k) (reads v) j) (read_pairs (reads k) (reads v) ds) (λ p ps. tree.pair p.0 p.1 ps) (first (entry_parts d k v (suc i) ds)) g (entries_report k v (suc i) ds) h

    field_report : (f : Field) (o : Option Data) (rest : List JsonPart) (x : Read Trees) → ReportsFirst rest x
        → ReportsFirst (option_map_or (λ j. part d (member f.0) (of f.1) j ∷ rest) o []) (follow (read_member (reads f.1) o) (λ t. follow x (λ ts. Ok (tree.tree t ts))))
    field_report f None rest x t h = no_some g h
    field_report f (Some j) rest x t h = both (reads f.1 j) x tree.tree (first rest) g t h

    fields_report : (fs : List Field) (ms : Members) → ReportsFirst (field_parts d fs ms) (read_fields (read_named registry d) fs ms)
    fields_report [] ms h = no_some g h
    fields_report (f ∷ fs) ms h =
        field_report f (get_member f.0 ms) (field_parts d fs (without f.0 ms)) (read_fields (read_named registry d) fs (without f.0 ms)) (fields_report fs (without f.0 ms)) h

    option_report : (s : Shape) (j : Data) → ReportsFirst (option_parts d s j) (read_option (reads s) j)
    option_report s (object (json.member k j no_members)) h =
        when (bytes_eq k (codes "some")) (part d (member k) (of s) j ∷ []) (follow (reads s j) (λ t. Ok (tree.present t))) (Err BadShape)
        (onward (part d (member k) (of s) j ∷ []) (reads s j) tree.present (one_part (part d (member k) (of s) j) (reads s j) refl)) h
    option_report s _ h = no_some g h

    seq_report : (s : Shape) (j : Data) → ReportsFirst (seq_parts d s j) (read_seq (is_byte s) (reads s) j)
    seq_report s (array ds) h = onward (item_parts d s 0 ds) (read_all (reads s) ds) tree.items (items_report s 0 ds) h
    seq_report s _ h = no_some g h

    map_report : (k v : Shape) (j : Data) → ReportsFirst (map_parts d k v j) (read_map (reads k) (reads v) j)
    map_report k v (array ds) h = onward (entry_parts d k v 0 ds) (read_pairs (reads k) (reads v) ds) tree.pairs (entries_report k v 0 ds) h
    map_report k v _ h = no_some g h

    tuple_report : (ss : Shapes) (j : Data) → ReportsFirst (tuple_parts d ss j) (read_tuple (shape_count ss) (read_each (read_named registry d) ss) j)
    tuple_report ss (array ds) h =
        when (item_count ds == shape_count ss) (each_parts d ss 0 ds) (follow (read_each (read_named registry d) ss ds) (λ ts. Ok (tree.items ts))) (Err BadShape)
        (onward (each_parts d ss 0 ds) (read_each (read_named registry d) ss ds) tree.items (each_report ss 0 ds)) h
    tuple_report ss _ h = no_some g h

    array_report : (s : Shape) (n : ℕ) (j : Data) → ReportsFirst (array_parts d s n j) (read_array (is_byte s) n (reads s) j)
    array_report s n (array ds) h =
        when (item_count ds == n) (item_parts d s 0 ds) (follow (read_all (reads s) ds) (λ ts. Ok (tree.items ts))) (Err BadShape)
        (onward (item_parts d s 0 ds) (read_all (reads s) ds) tree.items (items_report s 0 ds)) h
    array_report s n _ h = no_some g h

    struct_report : (fs : List Field) (j : Data) → ReportsFirst (struct_parts d fs j) (read_struct (read_named registry d) fs j)
    struct_report fs (object ms) h = onward (field_parts d fs ms) (read_fields (read_named registry d) fs ms) tree.items (fields_report fs ms) h
    struct_report fs _ h = no_some g h

    payload_same : (p : Payload) (j : Data) → read_content (read_named registry d) (payload_content p) j ≡ read_part (read_named registry d) (payload_content p) j
    payload_same container.unit j = refl
    payload_same (container.newtype s) j = refl
    payload_same (container.tuple ss) j = refl
    payload_same (container.fields fs) j = refl

    choice_report : (word : List ℕ) (o : Option Choice) (j : Data)
        → ReportsFirst (option_map_or (λ c. part d (member word) (payload_content c.1.1) j ∷ []) o []) (read_choice (read_named registry d) o j)
    choice_report word None j h = no_some g h
    choice_report word (Some c) j h =
        onward (part d (member word) (payload_content c.1.1) j ∷ []) (read_part (read_named registry d) (payload_content c.1.1) j) (tree.variant c.0)
        (one_part (part d (member word) (payload_content c.1.1) j) (read_part (read_named registry d) (payload_content c.1.1) j) (ap result_err (payload_same c.1.1 j))) h

    enum_report : (cs : List Choice) (j : Data) → ReportsFirst (enum_parts d cs j) (read_enum (read_named registry d) cs j)
    enum_report cs (object (json.member word j no_members)) h = choice_report word (choice_called word cs) j h
    enum_report cs _ h = no_some g h

    pair_report : (k v : Shape) (j : Data) → ReportsFirst (pair_parts d k v j) (read_pair (reads k) (reads v) j)
    pair_report k v (array (json.item a (json.item b no_items))) h =
        both (reads k a) (reads v b) (λ s t. (s, t)) (first (part d (item 1) (of v) b ∷ [])) g (one_part (part d (item 1) (of v) b) (reads v b) refl) h
    pair_report k v _ h = no_some g h

    -- a named container, given its contents
    module _ (named : (n : List ℕ) (j : Data) → ReportsFirst (named_parts registry d n j) (read_named registry d n j)) where
      shape_report : (s : Shape) (j : Data) → ReportsFirst (shape_parts d (named_parts registry d) s j) (reads s j)
      shape_report (shape.name n) j h = named n j h
      shape_report (shape.option s) j h = option_report s j h
      shape_report (shape.seq s) j h = seq_report s j h
      shape_report (shape.map k v) j h = map_report k v j h
      shape_report (shape.tuple ss) j h = tuple_report ss j h
      shape_report (shape.array s n) j h = array_report s n j h
      shape_report _ j h = no_some g h

      content_report : (f : JsonContent) (j : Data) → ReportsFirst (parts registry d (value f) j) (read_data registry d f j)
      content_report (of s) j h = shape_report s j h
      content_report (fields fs) j h = struct_report fs j h
      content_report (one_of cs) j h = enum_report cs j h
      content_report nothing j h = no_some g h

  named_report : (d : ℕ) (n : List ℕ) (j : Data) → ReportsFirst (named_parts registry d n j) (read_named registry d n j)
  named_report zero n j h = no_some g h
  named_report (suc d) n j h =
      onward (parts registry d (value (json_content_at n registry)) j) (read_data registry d (json_content_at n registry) j) tree.named
      (content_report d (named_report d) (json_content_at n registry) j) h

  -- the first fault among the parts is the fault
  pub parts_report : (d : ℕ) (t : Target) (j : Data) → first (parts registry d t j) ≡ Some g → fault_at registry d t j ≡ Some g
  parts_report d (value f) j h = content_report d (named_report d) f j h
  parts_report d (entry k v) j h = pair_report d k v j h

  past_good : (front ps : List JsonPart) → All (IsGood registry) front → first (front ++ ps) ≡ first ps
  past_good [] ps good = refl
  past_good (p ∷ front) ps good =
      ap (λ o. option_or o (first (front ++ ps))) (none_of registry p (All-head (IsGood registry) p front good)) ∙ past_good front ps (All-tail (IsGood registry) p front good)

same_some : {A : Type 0} (x y : A) (o : Option A) → o ≡ Some x → o ≡ Some y → y ≡ x
same_some x y o h k = cc

module _ (registry : Entries) where
  first_is : (e : JsonFault) (d : ℕ) (t : Target) (j : Data) (front : List JsonPart) (p : JsonPart) (back : List JsonPart) → parts registry d t j ≡ front ++ p ∷ back → All (IsGood registry) front
      → (o : Option JsonFault) → fault_at registry p.left p.target p.json ≡ o → o ≢ None → fault_at registry d t j ≡ Some e → o ≡ Some e
  first_is e d t j front p back split good None is bad whole = absurd (bad refl)
  first_is e d t j front p back split good (Some g) is bad whole =
      let report_text : first registry g (parts registry d t j) ≡ Some g = ap (first registry g) split ∙ past_good registry g front (p ∷ back) good ∙ ap (λ o. option_or o (first registry g back)) is in
      ap Some (same_some e g (fault_at registry d t j) whole (parts_report registry g d t j report_text))

  alone : (e : JsonFault) (path : List PointerStep) (d : ℕ) (t : Target) (j : Data) → fault_at registry d t j ≡ Some e → IsPlaceAmong registry path (parts registry d t j) → IsRefusedAlone registry e path d t j
  alone e [] d t j h good = (refused_of registry d t j e h, good)
  alone e (s ∷ path) d t j h place =
      let p = place.one in
      let here : fault_at registry p.left p.target p.json ≡ Some e =
      first_is e d t j place.front p place.back place.split place.good (fault_at registry p.left p.target p.json) refl (λ none. place.faulty.0 (good_of registry p none)) h in
      (p, among (IsGood registry) (Leads registry s path) (parts registry d t j) place, place.faulty.1, alone e path p.left p.target p.json here place.faulty.2)

pub place_is_refused_alone : PlaceIsRefusedAlone
place_is_refused_alone registry d f j path e h = alone registry e path d (value f) j (fault_of registry d (value f) j e h.0) h.1
