-- A struct whose fields before one were read, and that one is refused or missing, or a member belongs to no field.
use Rattle.bcs_json_tokens.proofs.Prelude.{◌≡◌, ◌∙◌, ◌++◌, ℕ, List, [], ◌∷◌, append-nil, Option, Some, None, Ok, Err, IfSome, Bool, true, false, not, ◌&&◌, option_map, option_map_or, refl, ap, sym, subst, All-nil, or_parts, or_from, not-true, list_any, bytes_eq, bytes_eq-Decides, map, Data, Members, no_members, member, put, get_member, get_member-put_other, without, Entries, Field, are_distinct, Tree, Trees, tree, and_left, and_right, of, Read, follow, read_end, read_fields, read_member, read_shape, read_named, PointerStep, JsonPart, part, parts, field_parts, IsPlaceAmong, IsGood, read_later, placed_here, Refusal, JsonFault, MissingField, UnknownField, IsWay, steps, Value, tree_of, Here, AreKept}
use Rattle.bcs_json_spec.specs.Place as place
use Rattle.bcs_json_tokens.proofs.AnyOrder.{Part, fields_in, names_in, AllTold, AllFound, still_found, without_other, differ}

-- what is left after the members of these fields are removed
abbrev pub left_after : List Part → Members → Members
left_after [] ms = ms
left_after (p ∷ ps) ms = left_after ps (without p.0.0 ms)

-- a member of another name is still there
pub left_other : (k : List ℕ) (ps : List Part) (ms : Members) → list_any (bytes_eq k) (names_in ps) ≡ false → get_member k (left_after ps ms) ≡ get_member k ms
left_other k [] ms h = refl
left_other k (p ∷ ps) ms h =
    let both = or_parts (bytes_eq k p.0.0) (list_any (bytes_eq k) (names_in ps)) h in
    left_other k ps (without p.0.0 ms) both.1 ∙ without_other k p.0.0 ms (λ e. differ k p.0.0 both.0 (sym e))

module _ (registry : Entries) (left : ℕ) where
  abbrev named : List ℕ → Data → Read Tree
  named = read_named registry left

  -- the fault of what is left is the fault of the struct
  pub fields_told : (ps : List Part) (rest : List Field) (ms : Members) (e : JsonFault) → are_distinct (names_in ps) ≡ true → AllTold named ps → AllFound ms ps
      → read_fields named rest (left_after ps ms) ≡ Err e → read_fields named (fields_in ps ++ rest) ms ≡ Err e
  fields_told [] rest ms e distinct told found h = h
  fields_told (p ∷ ps) rest ms e distinct told found h =
      let f = p.0 in
      let new = not-true (list_any (bytes_eq f.0) (names_in ps)) (and_left _ _ distinct) in
      let less = without f.0 ms in
      let others = fields_told ps rest less e (and_right (not (list_any (bytes_eq f.0) (names_in ps))) _ distinct) told.1 (still_found f.0 ms ps new found.1) h in
      ap (λ (o : Option Data). follow (read_member (read_shape named f.1) o) (λ t. follow (read_fields named (fields_in ps ++ rest) less) (λ ts. Ok (tree t ts)))) found.0
      ∙ ap (λ (x : Read Tree). follow x (λ t. follow (read_fields named (fields_in ps ++ rest) less) (λ ts. Ok (tree t ts)))) told.0
      ∙ ap (λ (x : Read Trees). follow x (λ ts. Ok (tree p.1.1 ts))) others

  -- its place is the place of the struct
  pub fields_onward : (ps : List Part) (rest : List Field) (ms : Members) → are_distinct (names_in ps) ≡ true → AllTold named ps → AllFound ms ps
      → (path : List PointerStep) → IsPlaceAmong registry path (field_parts left rest (left_after ps ms)) → IsPlaceAmong registry path (field_parts left (fields_in ps ++ rest) ms)
  fields_onward [] rest ms distinct told found path h = h
  fields_onward (p ∷ ps) rest ms distinct told found path h =
      let f = p.0 in
      let new = not-true (list_any (bytes_eq f.0) (names_in ps)) (and_left _ _ distinct) in
      let less = without f.0 ms in
      let more = field_parts left (fields_in ps ++ rest) less in
      let others = fields_onward ps rest less (and_right (not (list_any (bytes_eq f.0) (names_in ps))) _ distinct) told.1 (still_found f.0 ms ps new found.1) path h in
      subst (λ o. IsPlaceAmong registry path (option_map_or (λ d. part left (place.member f.0) (of f.1) d ∷ more) o [])) (sym found.0)
      (read_later registry (part left (place.member f.0) (of f.1) p.1.0) more (read_shape named f.1 p.1.0) p.1.1 refl told.0 path others)

  onwards : {qs rs : List JsonPart} → ((path : List PointerStep) → IsPlaceAmong registry path qs → IsPlaceAmong registry path rs) → (o : Option (List PointerStep))
      → IfSome o (λ path. IsPlaceAmong registry path qs) → IfSome o (λ path. IsPlaceAmong registry path rs)
  onwards f None h = tt
  onwards f (Some path) h = f path h

  module _ (ps : List Part) (f : Field) (later : List Field) (ms : Members) (distinct : are_distinct (names_in ps) ≡ true) (new : list_any (bytes_eq f.0) (names_in ps) ≡ false)
      (told : AllTold named ps) (found : AllFound ms ps) where
    first_fault : (o : Option Data) (e : JsonFault) → get_member f.0 ms ≡ o → read_member (read_shape named f.1) o ≡ Err e → read_fields named (fields_in ps ++ f ∷ later) ms ≡ Err e
    first_fault o e is h =
        fields_told ps (f ∷ later) ms e distinct told found
        (ap (λ (x : Read Tree). follow x (λ t. follow (read_fields named later (without f.0 (left_after ps ms))) (λ ts. Ok (tree t ts))))
        (ap (read_member (read_shape named f.1)) (left_other f.0 ps ms new ∙ is) ∙ h))

    -- the field has no member
    pub missing_told : get_member f.0 ms ≡ None → read_fields named (fields_in ps ++ f ∷ later) ms ≡ Err MissingField
    missing_told none = first_fault None MissingField none refl

    pub missing_placed : get_member f.0 ms ≡ None → (e : Refusal) → e.location ≡ Here → IsWay registry (field_parts left (fields_in ps ++ f ∷ later) ms) e
    missing_placed none e here other =
        subst (λ o. IfSome (steps o) (λ path. IsPlaceAmong registry path (field_parts left (fields_in ps ++ f ∷ later) ms))) (sym here)
        (fields_onward ps (f ∷ later) ms distinct told found []
        (subst (λ o. IsPlaceAmong registry [] (option_map_or (λ d. part left (place.member f.0) (of f.1) d ∷ field_parts left later (without f.0 (left_after ps ms))) o [])) (sym (left_other f.0 ps ms new ∙ none))
        (All-nil (IsGood registry))))

    -- the field's member is refused
    module _ (d : Data) (is : get_member f.0 ms ≡ Some d) (inner e : Refusal) (refused : read_shape named f.1 d ≡ Err inner.fault) (fault : e.fault ≡ inner.fault) where
      pub field_told : read_fields named (fields_in ps ++ f ∷ later) ms ≡ Err e.fault
      field_told = first_fault (Some d) inner.fault is refused ∙ ap Err (sym fault)

      pub field_placed : IsWay registry (parts registry left (place.value (of f.1)) d) inner
          → IfSome (steps e.location) (λ path. option_map (λ tail. place.member f.0 ∷ tail) (steps inner.location) ≡ Some path)
          → IsWay registry (field_parts left (fields_in ps ++ f ∷ later) ms) e
      field_placed way location other =
          onwards (fields_onward ps (f ∷ later) ms distinct told found) (steps e.location)
          (subst (λ o. IfSome (steps e.location) (λ path. IsPlaceAmong registry path (option_map_or (λ b. part left (place.member f.0) (of f.1) b ∷ field_parts left later (without f.0 (left_after ps ms))) o [])))
          (sym (left_other f.0 ps ms new ∙ is))
          (placed_here registry (part left (place.member f.0) (of f.1) d) (field_parts left later (without f.0 (left_after ps ms))) {X = Value} tree_of (place.member f.0) (Err inner) e (read_shape named f.1 d) refl refl
          (λ bad. refused) way (ap Err fault) location other))

  -- all fields are read, and another member is left
  module _ (ps : List Part) (ms : Members) (distinct : are_distinct (names_in ps) ≡ true) (told : AllTold named ps) (found : AllFound ms ps) (k : List ℕ) (other : list_any (bytes_eq k) (names_in ps) ≡ false)
      (present : get_member k ms ≡ None → ⊥) where
    left_over : (ns : Members) → (get_member k ns ≡ None → ⊥) → read_end ns ≡ Err UnknownField
    left_over no_members h = absurd (h refl)
    left_over (member l d ns) h = refl

    pub unknown_told : read_fields named (fields_in ps) ms ≡ Err UnknownField
    unknown_told =
        ap (λ fs. read_fields named fs ms) (sym (append-nil (fields_in ps)))
        ∙ fields_told ps [] ms UnknownField distinct told found (left_over (left_after ps ms) (λ none. present (sym (left_other k ps ms other) ∙ none)))

    pub unknown_placed : (e : Refusal) → e.location ≡ Here → IsWay registry (field_parts left (fields_in ps) ms) e
    unknown_placed e here ok =
        subst (λ o. IfSome (steps o) (λ path. IsPlaceAmong registry path (field_parts left (fields_in ps) ms))) (sym here)
        (subst (λ fs. IsPlaceAmong registry [] (field_parts left fs ms)) (append-nil (fields_in ps))
        (fields_onward ps [] ms distinct told found [] (All-nil (IsGood registry))))

-- ---- distinct names

any_front : (k : List ℕ) (ps : List Part) (f : Field) (later : List Field) → list_any (bytes_eq k) (map (λ g. g.0) (fields_in ps ++ f ∷ later)) ≡ false → (list_any (bytes_eq k) (names_in ps) ≡ false) × (bytes_eq k f.0 ≡ false)
any_front k [] f later h = (refl, (or_parts (bytes_eq k f.0) _ h).0)
any_front k (p ∷ ps) f later h =
    let both = or_parts (bytes_eq k p.0.0) _ h in
    let others = any_front k ps f later both.1 in
    (or_from (bytes_eq k p.0.0) _ both.0 others.0, others.1)

flip_at : (b : Bool) (k l : List ℕ) → bytes_eq l k ≡ b → bytes_eq k l ≡ false → bytes_eq l k ≡ false
flip_at false k l is h = is
flip_at true k l is h = absurd (differ k l h ((bytes_eq-Decides l k).0 is))

flip : (k l : List ℕ) → bytes_eq k l ≡ false → bytes_eq l k ≡ false
flip k l h = flip_at (bytes_eq l k) k l refl h

not_and : (b c : Bool) → b ≡ false → c ≡ true → (not b && c) ≡ true
not_and false c g h = h
not_and true c g h = absurd cc

pub distinct_front : (ps : List Part) (f : Field) (later : List Field) → are_distinct (map (λ g. g.0) (fields_in ps ++ f ∷ later)) ≡ true → (are_distinct (names_in ps) ≡ true) × (list_any (bytes_eq f.0) (names_in ps) ≡ false)
distinct_front [] f later h = (refl, refl)
distinct_front (p ∷ ps) f later h =
    let names = map (λ g. g.0) (fields_in ps ++ f ∷ later) in
    let here = any_front p.0.0 ps f later (not-true (list_any (bytes_eq p.0.0) names) (and_left _ _ h)) in
    let others = distinct_front ps f later (and_right (not (list_any (bytes_eq p.0.0) names)) _ h) in
    (not_and (list_any (bytes_eq p.0.0) (names_in ps)) (are_distinct (names_in ps)) here.0 others.0, or_from (bytes_eq f.0 p.0.0) _ (flip p.0.0 f.0 here.1) others.1)

-- ---- members that are put later

pub found_put : (k : List ℕ) (d : Data) (ms : Members) (ps : List Part) → list_any (bytes_eq k) (names_in ps) ≡ false → AllFound ms ps → AllFound (put k d ms) ps
found_put k d ms [] new found = tt
found_put k d ms (p ∷ ps) new found =
    let both = or_parts (bytes_eq k p.0.0) (list_any (bytes_eq k) (names_in ps)) new in
    (get_member-put_other p.0.0 k d ms (differ k p.0.0 both.0) ∙ found.0, found_put k d ms ps both.1 found.1)

module _ (json : Members → Members) where
  pub kept_found : (ps : List Part) (ks : List (List ℕ)) → AreKept (names_in ps ++ ks) json → (ms : Members) → AllFound ms ps → AllFound (json ms) ps
  kept_found [] ks kept ms found = tt
  kept_found (p ∷ ps) ks kept ms found = (kept.0 ms ∙ found.0, kept_found ps ks kept.1 ms found.1)

  pub kept_last : (ps : List Part) (k : List ℕ) → AreKept (names_in ps ++ k ∷ []) json → (ms : Members) → get_member k (json ms) ≡ get_member k ms
  kept_last [] k kept ms = kept.0 ms
  kept_last (p ∷ ps) k kept ms = kept_last ps k kept.1 ms

pub any_last : (k l : List ℕ) (ps : List Part) → list_any (bytes_eq k) (names_in ps ++ l ∷ []) ≡ false → (list_any (bytes_eq k) (names_in ps) ≡ false) × (bytes_eq k l ≡ false)
any_last k l [] h = (refl, (or_parts (bytes_eq k l) _ h).0)
any_last k l (p ∷ ps) h =
    let both = or_parts (bytes_eq k p.0.0) _ h in
    let others = any_last k l ps both.1 in
    (or_from (bytes_eq k p.0.0) _ both.0 others.0, others.1)
