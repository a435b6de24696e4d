-- Refused JSON has a place, since each part nests less deep than the whole.
use Rattle.bcs_json_spec.proofs.Prelude.{◌≡◌, ◌∙◌, ℕ, zero, suc, ◌<◌, ◌≤◌, max, List, [], ◌∷◌, codes, Option, None, Some, Bool, true, false, ◌==◌, if◌then◌else◌, bytes_eq, All, refl, sym, arith, le-max_left, le-max_right, option_map_or, All-nil, All-cons, All-head, All-tail, none-some, Data, array, object, Items, no_items, Members, no_members, depth, items_depth, members_depth, get_member, Shape, Shapes, no_shapes, shape, Field, Choice, Entries, choice_called, JsonContent, of, fields, one_of, nothing, json_content_at, payload_content, SomePlace, item_count, shape_count, without, PointerStep, Target, value, entry, JsonPart, part, parts, item_parts, each_parts, entry_parts, field_parts, option_parts, seq_parts, map_parts, tuple_parts, array_parts, struct_parts, enum_parts, pair_parts, named_parts, IsPlaceAmong}
use Rattle.serde_json.specs.Data as json
use Rattle.bcs_registry_model.specs.Shape as shape
use Rattle.bcs_json_spec.specs.Place.{item, member}
use Rattle.bcs_json_spec.proofs.FaultAt.{fault_at, good_of, none_of}
use Rattle.bcs_json_spec.proofs.Lowest.{found_depth, without_depth}
use Rattle.bcs_json_spec.proofs.Places.{Inside, place-none, place-here, place-later}

below_left : (a b : ℕ) {n : ℕ} → max a b < n → a < n
below_left a b h = omega (arith, le-max_left a b, h)

below_right : (a b : ℕ) {n : ℕ} → max a b < n → b < n
below_right a b h = omega (arith, le-max_right a b, h)

abbrev IsUnder : ℕ → JsonPart → Type 0
IsUnder n p = depth p.json < n

-- all parts nest less deep than `n`
abbrev Under : ℕ → List JsonPart → Type 0
Under n = All (IsUnder n)

none_under : (n : ℕ) → Under n []
none_under n = All-nil (IsUnder n)

more_under : (n : ℕ) (p : JsonPart) (ps : List JsonPart) → depth p.json < n → Under n ps → Under n (p ∷ ps)
more_under n p ps h rest = All-cons (IsUnder n) p ps h rest

when : (n : ℕ) (b : Bool) (ps : List JsonPart) → Under n ps → Under n (if b then ps else [])
when n true ps h = h
when n false ps h = none_under n

module _ (n d : ℕ) where
  items_under : (s : Shape) (i : ℕ) (ds : Items) → items_depth ds < n → Under n (item_parts d s i ds)
  items_under s i no_items h = none_under n
  items_under s i (json.item j ds) h = more_under n (part d (item i) (of s) j) (item_parts d s (suc i) ds) (below_left (depth j) (items_depth ds) h) (items_under s (suc i) ds (below_right (depth j) (items_depth ds) h))

  each_under : (ss : Shapes) (i : ℕ) (ds : Items) → items_depth ds < n → Under n (each_parts d ss i ds)
  each_under (shape s ss) i (json.item j ds) h = more_under n (part d (item i) (of s) j) (each_parts d ss (suc i) ds) (below_left (depth j) (items_depth ds) h) (each_under ss (suc i) ds (below_right (depth j) (items_depth ds) h))
  each_under (shape s ss) i no_items h = none_under n
  each_under no_shapes i ds h = none_under n

  entries_under : (k v : Shape) (i : ℕ) (ds : Items) → items_depth ds < n → Under n (entry_parts d k v i ds)
  entries_under k v i no_items h = none_under n
  entries_under k v i (json.item j ds) h =
      more_under n (record { step = item i; left = d; target = entry k v; json = j }) (entry_parts d k v (suc i) ds) (below_left (depth j) (items_depth ds) h) (entries_under k v (suc i) ds (below_right (depth j) (items_depth ds) h))

  field_under : (f : Field) (o : Option Data) (rest : List JsonPart) → ((j : Data) → o ≡ Some j → depth j < n) → Under n rest
      → Under n (option_map_or (λ j. part d (member f.0) (of f.1) j ∷ rest) o [])
  field_under f None rest here h = none_under n
  field_under f (Some j) rest here h = more_under n (part d (member f.0) (of f.1) j) rest (here j refl) h

  fields_under : (fs : List Field) (ms : Members) → members_depth ms < n → Under n (field_parts d fs ms)
  fields_under [] ms h = none_under n
  fields_under (f ∷ fs) ms h =
      field_under f (get_member f.0 ms) (field_parts d fs (without f.0 ms)) (λ j is. let low = found_depth f.0 j ms is in omega (arith, low, h))
      (fields_under fs (without f.0 ms) (let low = without_depth f.0 ms in omega (arith, low, h)))

  choice_under : (word : List ℕ) (o : Option Choice) (j : Data) → depth j < n → Under n (option_map_or (λ c. part d (member word) (payload_content c.1.1) j ∷ []) o [])
  choice_under word None j h = none_under n
  choice_under word (Some c) j h = more_under n (part d (member word) (payload_content c.1.1) j) [] h (none_under n)

  option_under : (s : Shape) (j : Data) → depth j ≤ n → Under n (option_parts d s j)
  option_under s (object (json.member k j no_members)) h =
      when n (bytes_eq k (codes "some")) (part d (member k) (of s) j ∷ []) (more_under n (part d (member k) (of s) j) [] (below_left (depth j) 0 h) (none_under n))
  option_under s _ h = none_under n

  seq_under : (s : Shape) (j : Data) → depth j ≤ n → Under n (seq_parts d s j)
  seq_under s (array ds) h = items_under s 0 ds h
  seq_under s _ h = none_under n

  map_under : (k v : Shape) (j : Data) → depth j ≤ n → Under n (map_parts d k v j)
  map_under k v (array ds) h = entries_under k v 0 ds h
  map_under k v _ h = none_under n

  tuple_under : (ss : Shapes) (j : Data) → depth j ≤ n → Under n (tuple_parts d ss j)
  tuple_under ss (array ds) h = when n (item_count ds == shape_count ss) (each_parts d ss 0 ds) (each_under ss 0 ds h)
  tuple_under ss _ h = none_under n

  array_under : (s : Shape) (m : ℕ) (j : Data) → depth j ≤ n → Under n (array_parts d s m j)
  array_under s m (array ds) h = when n (item_count ds == m) (item_parts d s 0 ds) (items_under s 0 ds h)
  array_under s m _ h = none_under n

  struct_under : (fs : List Field) (j : Data) → depth j ≤ n → Under n (struct_parts d fs j)
  struct_under fs (object ms) h = fields_under fs ms h
  struct_under fs _ h = none_under n

  enum_under : (cs : List Choice) (j : Data) → depth j ≤ n → Under n (enum_parts d cs j)
  enum_under cs (object (json.member word j no_members)) h = choice_under word (choice_called word cs) j (below_left (depth j) 0 h)
  enum_under cs _ h = none_under n

  pair_under : (k v : Shape) (j : Data) → depth j ≤ n → Under n (pair_parts d k v j)
  pair_under k v (array (json.item a (json.item b no_items))) h =
      let rest : max (depth b) 0 < n = below_right (depth a) (max (depth b) 0) h in
      more_under n (part d (item 0) (of k) a) (part d (item 1) (of v) b ∷ []) (below_left (depth a) (max (depth b) 0) h) (more_under n (part d (item 1) (of v) b) [] (below_left (depth b) 0 rest) (none_under n))
  pair_under k v _ h = none_under n

module _ (registry : Entries) (n : ℕ) where
  content_under : (d : ℕ) → ((m : List ℕ) (j : Data) → depth j ≤ n → Under n (named_parts registry d m j)) → (f : JsonContent) (j : Data) → depth j ≤ n → Under n (parts registry d (value f) j)
  content_under d named (of (shape.name m)) j h = named m j h
  content_under d named (of (shape.option s)) j h = option_under n d s j h
  content_under d named (of (shape.seq s)) j h = seq_under n d s j h
  content_under d named (of (shape.map k v)) j h = map_under n d k v j h
  content_under d named (of (shape.tuple ss)) j h = tuple_under n d ss j h
  content_under d named (of (shape.array s m)) j h = array_under n d s m j h
  content_under d named (of _) j h = none_under n
  content_under d named (fields fs) j h = struct_under n d fs j h
  content_under d named (one_of cs) j h = enum_under n d cs j h
  content_under d named nothing j h = none_under n

  named_under : (d : ℕ) (m : List ℕ) (j : Data) → depth j ≤ n → Under n (named_parts registry d m j)
  named_under zero m j h = none_under n
  named_under (suc d) m j h = content_under d (named_under d) (json_content_at m registry) j h

  parts_under : (d : ℕ) (t : Target) (j : Data) → depth j ≤ n → Under n (parts registry d t j)
  parts_under d (value f) j h = content_under d (named_under d) f j h
  parts_under d (entry k v) j h = pair_under n d k v j h

module _ (registry : Entries) where
  abbrev Place : List JsonPart → Type 0
  Place ps = (path : List PointerStep) × IsPlaceAmong registry path ps

  some_among : (n : ℕ) → ((p : JsonPart) → depth p.json < n → (path : List PointerStep) × Inside registry path p) → (ps : List JsonPart) → Under n ps → Place ps
  some_among n inside [] h = ([], place-none registry)
  some_among n inside (p ∷ ps) h = elim (fault_at registry p.left p.target p.json) as (λ o. fault_at registry p.left p.target p.json ≡ o → Place (p ∷ ps)) [
    | None ↦ λ is. let rest = some_among n inside ps (All-tail (IsUnder n) p ps h) in (rest.0, place-later registry rest.0 p ps (good_of registry p is) rest.1)
    | Some e ↦ λ is. let here = inside p (All-head (IsUnder n) p ps h) in (p.step ∷ here.0, place-here registry here.0 p ps (λ good. absurd (none-some e (sym (none_of registry p good) ∙ is))) here.1)
  ] refl

  some_inside : (n d : ℕ) (t : Target) (j : Data) → depth j < n → Place (parts registry d t j)
  some_inside zero d t j h = absurd (omega (arith, h))
  some_inside (suc n) d t j h = some_among n (λ p low. some_inside n p.left p.target p.json low) (parts registry d t j) (parts_under registry n d t j (omega (arith, h)))

pub some_place : SomePlace
some_place registry d f j e h = let place = some_inside registry (suc (depth j)) d (value f) j (omega arith) in (place.0, (h, place.1))
