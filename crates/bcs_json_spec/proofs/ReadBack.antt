-- The JSON that a value is printed as spells the value.
use Rattle.bcs_json_spec.proofs.Prelude.{◌≡◌, ◌∙◌, ℕ, suc, ℤ, pos, negsuc, List, [], ◌∷◌, ◌==◌, ◌&&◌, ◌^◌, nat_lt, Option, Some, None, Bool, true, false, if◌then◌else◌, refl, ap, sym, subst, signed_decimal, w8, option_map_or, false≢true, Decides-eqb, Decides-ltb, IsBytes, encode_lower, decode_of-encode_lower, Data, number, string, array, Members, of_integer, get_member-put, Field, Payload, newtype, tuple, Choice, Entries, choice_numbered, payload_shape, field_shapes, choice_called, Shape, Shapes, no_shapes, shape, IsWellFormed, fits, all_fit, each_fits, pairs_fit, are_bytes, Tree, Trees, no_trees, tree, Pairs, no_pairs, pair, count, ByteTextSpells, is_byte, byte_trees, trees_bytes, JsonContent, of, fields, one_of, json_content_at, payload_content, IfStringOrArray, IfThere, SpellsWhole, shown, shown_all, shown_each, shown_pairs, shown_fields, shown_choice, is_wide, Spells, AllSpell, EachSpells, PairsSpell, FieldsSpell, IsWordOf}
use Rattle.bcs_registry_model.specs.Container as container
use Rattle.bcs_registry_model.specs.Shape as shape
use Rattle.bcs_value_model.specs.Tree as tree
use Rattle.bcs_json_spec.proofs.Unnamed.{unnamed, unnamed_at, unnamed_payload}
use Rattle.bcs_json_spec.proofs.DistinctNames.{has_names, well_formed_names, payload_names_differ, numbered_called}
use Rattle.bcs_json_spec.proofs.Fitting.{and_left, and_right, Part}
use Rattle.bcs_json_spec.proofs.Members.{without_put, new_field, later_names}

-- ---- numbers

whole_back : (b : Bool) (z : ℤ) → SpellsWhole (if b then string (signed_decimal z) else number (of_integer z)) z
whole_back true z = refl
whole_back false (pos n) = refl
whole_back false (negsuc n) = refl

-- ---- bytes

pub are_bytes_is : (b : List ℕ) → are_bytes b ≡ true → IsBytes b
are_bytes_is [] h i = (Decides-ltb 0 256).0 refl
are_bytes_is (x ∷ b) h ℕ.zero = (Decides-ltb x 256).0 (and_left _ _ h)
are_bytes_is (x ∷ b) h (suc i) = are_bytes_is b (and_right (nat_lt x 256) _ h) i

module _ (registry : Entries) where
  pub bytes_again : (ts : Trees) → all_fit false registry ts (shape.unsigned w8) ≡ true → (ts ≡ byte_trees (trees_bytes ts)) × (are_bytes (trees_bytes ts) ≡ true)
  bytes_again no_trees h = (refl, refl)
  bytes_again (tree (tree.unsigned n) ts) h =
      let rest = bytes_again ts (and_right (nat_lt n 256) _ h) in
      (ap (tree (tree.unsigned n)) rest.0, ap (λ b. b && are_bytes (trees_bytes ts)) (and_left (nat_lt n 256) _ h) ∙ rest.1)
  bytes_again (tree _ ts) h = absurd (false≢true h)

  text_back : (s : Shape) (ts : Trees) → is_byte s ≡ true → all_fit false registry ts s ≡ true → ByteTextSpells true (encode_lower (trees_bytes ts)) ts
  text_back (shape.unsigned w8) ts is h =
      let x = bytes_again ts h in (trees_bytes ts, decode_of-encode_lower (trees_bytes ts) (are_bytes_is (trees_bytes ts) x.1), x.0)
  text_back _ ts is h = absurd (false≢true is)

  -- a list, as a string or as an array
  list_back : (b : Bool) (s : Shape) (ts : Trees) → is_byte s ≡ b → all_fit false registry ts s ≡ true → AllSpell registry ts s (shown_all registry ts s)
      → IfStringOrArray (λ r. ByteTextSpells b r ts) (AllSpell registry ts s) (if b then string (encode_lower (trees_bytes ts)) else array (shown_all registry ts s))
  list_back true s ts is h each = text_back s ts is h
  list_back false s ts is h each = each

  -- ---- variants

  only_unit : (t : Tree) → fits false registry t (container.of shape.unit) ≡ true → t ≡ tree.unit
  only_unit tree.unit h = refl
  only_unit _ h = absurd (false≢true h)

  no_variant : (n : ℕ) (t : Tree) (s : Shape) → fits false registry (tree.variant n t) (container.of s) ≡ true → ⊥
  no_variant n t shape.unit h = absurd (false≢true h)
  no_variant n t _ h = absurd (false≢true h)

  -- a variant is spelled if its payload is
  choice_back : (n : ℕ) (t : Tree) (cs : List Choice) (name : List ℕ) (p : Payload) → choice_called name cs ≡ Some (n, (name, p)) → fits false registry t (unnamed (payload_content p)) ≡ true
      → Spells registry t (payload_content p) (shown registry t (payload_content p))
      → Spells registry (tree.variant n t) (one_of cs) (shown_choice (shown registry t) (Some (name, p)))
  choice_back n t cs name container.unit called h w =
      subst (λ (o : Option Choice). IfThere (IsWordOf n t) o) (sym called) (refl, refl, only_unit t h)
  choice_back n t cs name (newtype s) called h w =
      subst (λ (o : Option Choice). IfThere (Part registry n t (shown registry t (of s))) o) (sym called) (refl, w)
  choice_back n t cs name (tuple ss) called h w =
      subst (λ (o : Option Choice). IfThere (Part registry n t (shown registry t (of (shape.tuple ss)))) o) (sym called) (refl, w)
  choice_back n t cs name (container.fields fs) called h w =
      subst (λ (o : Option Choice). IfThere (Part registry n t (shown registry t (fields fs))) o) (sym called) (refl, w)

  found_back : (n : ℕ) (t : Tree) (cs : List Choice) (o : Option (List ℕ × Payload)) → choice_numbered n cs ≡ o → has_names (one_of cs) ≡ true
      → fits false registry t (option_map_or (λ c. container.of (payload_shape c.1)) o container.nothing) ≡ true
      → ((f : JsonContent) → has_names f ≡ true → fits false registry t (unnamed f) ≡ true → Spells registry t f (shown registry t f))
      → Spells registry (tree.variant n t) (one_of cs) (shown_choice (shown registry t) o)
  found_back n t cs None is names h each = absurd (false≢true h)
  found_back n t cs (Some (name, p)) is names h each =
      let fit : fits false registry t (unnamed (payload_content p)) ≡ true = ap (fits false registry t) (unnamed_payload p) ∙ h in
      choice_back n t cs name p (numbered_called n cs (name, p) names is) fit (each (payload_content p) (payload_names_differ n cs (name, p) names is) fit)

  -- ---- structs

  -- the first field's member is found, and the others spell the other fields
  field_back : (t : Tree) (ts : Trees) (f : Field) (fs : List Field) → has_names (fields (f ∷ fs)) ≡ true → Spells registry t (of f.1) (shown registry t (of f.1))
      → FieldsSpell registry ts fs (shown_fields registry ts fs) → FieldsSpell registry (tree t ts) (f ∷ fs) (shown_fields registry (tree t ts) (f ∷ fs))
  field_back t ts f fs names w each =
      let own = get_member-put f.0 (shown registry t (of f.1)) (shown_fields registry ts fs) in
      let rest = without_put f.0 (shown registry t (of f.1)) (shown_fields registry ts fs) (new_field registry f ts fs (and_left _ _ names)) in
      (subst (λ (o : Option Data). IfThere (Spells registry t (of f.1)) o) (sym own) w, subst (λ (ms : Members). FieldsSpell registry ts fs ms) (sym rest) each)

-- ---- trees

module _ (registry : Entries) (well : IsWellFormed registry) where
  mutual
    back : (t : Tree) (f : JsonContent) → has_names f ≡ true → fits false registry t (unnamed f) ≡ true → Spells registry t f (shown registry t f)
    back tree.unit (of shape.unit) names h = tt
    back (tree.truth b) (of shape.truth) names h = refl
    back (tree.unsigned n) (of (shape.unsigned w)) names h = (whole_back (is_wide w) (pos n), h)
    back (tree.signed z) (of (shape.signed w)) names h = (whole_back (is_wide w) z, h)
    back (tree.text s) (of shape.text) names h = (refl, h)
    back (tree.bytes b) (of shape.bytes) names h = decode_of-encode_lower b (are_bytes_is b h)
    back tree.absent (of (shape.option s)) names h = tt
    back (tree.present t) (of (shape.option s)) names h = (refl, back t (of s) refl h)
    back (tree.items ts) (of (shape.seq s)) names h = list_back registry (is_byte s) s ts refl h (all_back ts s h)
    back (tree.items ts) (of (shape.tuple ss)) names h = each_back ts ss h
    back (tree.items ts) (of (shape.array s n)) names h =
        let fit = and_right (count ts == n) _ h in
        (list_back registry (is_byte s) s ts refl fit (all_back ts s fit), (Decides-eqb (count ts) n).0 (and_left _ _ h))
    back (tree.items ts) (fields fs) names h = fields_back ts fs names h
    back (tree.pairs ps) (of (shape.map k v)) names h = pairs_back ps k v h
    back (tree.variant n t) (one_of cs) names h = found_back registry n t cs (choice_numbered n cs) refl names (and_right (nat_lt n (2 ^ 32)) _ h) (back t)
    back (tree.named t) (of (shape.name n)) names h =
        back t (json_content_at n registry) (well_formed_names n registry well) (ap (fits false registry t) (unnamed_at n registry) ∙ h)
    back (tree.variant n t) (of s) names h = absurd (no_variant registry n t s h)
    back _ _ names h = absurd (false≢true h)

    all_back : (ts : Trees) (s : Shape) → all_fit false registry ts s ≡ true → AllSpell registry ts s (shown_all registry ts s)
    all_back no_trees s h = tt
    all_back (tree t ts) s h = (back t (of s) refl (and_left _ _ h), all_back ts s (and_right (fits false registry t (container.of s)) _ h))

    each_back : (ts : Trees) (ss : Shapes) → each_fits false registry ts ss ≡ true → EachSpells registry ts ss (shown_each registry ts ss)
    each_back no_trees no_shapes h = tt
    each_back (tree t ts) (shape s ss) h = (back t (of s) refl (and_left _ _ h), each_back ts ss (and_right (fits false registry t (container.of s)) _ h))
    each_back _ _ h = absurd (false≢true h)

    pairs_back : (ps : Pairs) (k v : Shape) → pairs_fit false registry ps k v ≡ true → PairsSpell registry ps k v (shown_pairs registry ps k v)
    pairs_back no_pairs k v h = tt
    pairs_back (pair l w ps) k v h =
        let here = and_left (fits false registry l (container.of k) && fits false registry w (container.of v)) _ h in (
          (back l (of k) refl (and_left _ _ here), back w (of v) refl (and_right (fits false registry l (container.of k)) _ here)),
          pairs_back ps k v (and_right (fits false registry l (container.of k) && fits false registry w (container.of v)) _ h),
        )

    fields_back : (ts : Trees) (fs : List Field) → has_names (fields fs) ≡ true → each_fits false registry ts (field_shapes fs) ≡ true → FieldsSpell registry ts fs (shown_fields registry ts fs)
    fields_back no_trees [] names h = tt
    fields_back (tree t ts) (f ∷ fs) names h =
        field_back registry t ts f fs names (back t (of f.1) refl (and_left _ _ h))
        (fields_back ts fs (ap (λ b. b && true) (later_names f fs (and_left _ _ names))) (and_right (fits false registry t (container.of f.1)) _ h))
    fields_back _ _ _ h = absurd (false≢true h)

-- in a well-formed registry, the JSON of a value spells it
pub spelled_back : (registry : Entries) (s : Shape) (t : Tree) → IsWellFormed registry → fits false registry t (container.of s) ≡ true → Spells registry t (of s) (shown registry t (of s))
spelled_back registry s t well h = back registry well t (of s) refl h
