-- The JSON of a registry has its shape, with its numbers in range.
use Rattle.bcs_registry.proofs.Prelude.{◌≡◌, ◌^◌, ◌&&◌, ◌||◌, ℕ, List, [], ◌∷◌, Bool, true, Ordering, Less, Equal, Greater, ap, decimal, is_some, nat_lt, refl, list_all, AllByRecursion, match_ordering, nat_cmp, slice_cmp, Data, Members, no_members, member, put, Choice, Container, Entries, Field, Payload, Shape, name, option, seq, map, tuple, array, Shapes, no_shapes, shape, all_fields, all_variants, are_formats, is_container, is_format, is_payload, is_registry, is_variant, is_variant_number, shown_registry, shown_choices, shown_container, shown_struct, shown_format, shown_formats, shown_payload, single, word_named, IsInRange, all_sizes_fit, payload_sizes_fit, sizes_fit, and-true_parts, or-true_right, a_number, has_number, has_sizes, numbered_below}
use Rattle.bcs_registry_model.specs.Container as container

module _ (loose : Bool) where
  mutual
    pub format_shaped : (s : Shape) → sizes_fit s ≡ true → is_format loose (shown_format s) ≡ true
    format_shaped (name n) h = refl
    format_shaped (option s) h = format_shaped s h
    format_shaped (seq s) h = format_shaped s h
    format_shaped (map k v) h = let p = and-true_parts (sizes_fit k) (sizes_fit v) h in rw (format_shaped k p.0, format_shaped v p.1) refl
    format_shaped (tuple ss) h = formats_shaped ss h
    format_shaped (array s n) h =
        let p = and-true_parts (sizes_fit s) (nat_lt n (2 ^ 64)) h in
        rw (format_shaped s p.0, or-true_right loose (nat_lt n (2 ^ 64)) p.1) refl
    format_shaped s h = ap is_some (word_named s refl)

    pub formats_shaped : (ss : Shapes) → all_sizes_fit ss ≡ true → are_formats loose (shown_formats ss) ≡ true
    formats_shaped no_shapes h = refl
    formats_shaped (shape s ss) h = let p = and-true_parts (sizes_fit s) (all_sizes_fit ss) h in rw (format_shaped s p.0, formats_shaped ss p.1) refl

  fields_shaped : (fs : List Field) → list_all (λ f. sizes_fit f.1) fs ≡ true → all_fields loose (shown_struct fs) ≡ true
  fields_shaped [] h = refl
  fields_shaped (f ∷ fs) h = let p = and-true_parts (sizes_fit f.1) (list_all (λ (g : Field). sizes_fit g.1) fs) h in rw (format_shaped f.1 p.0, fields_shaped fs p.1) refl

  payload_shaped : (p : Payload) → payload_sizes_fit p ≡ true → is_payload loose (shown_payload p) ≡ true
  payload_shaped container.unit h = refl
  payload_shaped (container.newtype s) h = format_shaped s h
  payload_shaped (container.tuple ss) h = formats_shaped ss h
  payload_shaped (container.fields fs) h = fields_shaped fs h

  -- putting one more variant
  put_shaped : (k : List ℕ) (d : Data) (ms : Members) → is_variant_number k ≡ true → is_variant loose d ≡ true → all_variants loose ms ≡ true → all_variants loose (put k d ms) ≡ true
  put_shaped k d no_members plain here h = rw (or-true_right loose (is_variant_number k) plain, here) refl
  put_shaped k d (member l e ms) plain here h =
      let p = and-true_parts ((loose || is_variant_number l) && is_variant loose e) (all_variants loose ms) h in
      let q = and-true_parts (loose || is_variant_number l) (is_variant loose e) p.0 in
      at (slice_cmp nat_cmp k l) q.0 q.1 p.1 (put_shaped k d ms plain here p.1)
    where
      at : (o : Ordering) → (loose || is_variant_number l) ≡ true → is_variant loose e ≡ true → all_variants loose ms ≡ true → all_variants loose (put k d ms) ≡ true
          → all_variants loose (match_ordering o (member k d (member l e ms)) (member l d ms) (member l e (put k d ms))) ≡ true
      at Less first second rest later = rw (or-true_right loose (is_variant_number k) plain, here, first, second, rest) refl
      at Equal first second rest later = rw (first, here, rest) refl
      at Greater first second rest later = rw (first, second, later) refl

  choices_shaped : (cs : List Choice) → list_all has_number cs ≡ true → list_all has_sizes cs ≡ true → all_variants loose (shown_choices cs) ≡ true
  choices_shaped [] h i = refl
  choices_shaped (c ∷ cs) h i =
      let p = and-true_parts (has_number c) (list_all has_number cs) h in
      let q = and-true_parts (has_sizes c) (list_all has_sizes cs) i in
      put_shaped (decimal c.0) (single c.1.0 (shown_payload c.1.1)) (shown_choices cs)
      (a_number c.0 (numbered_below c.0 p.0)) (payload_shaped c.1.1 q.0) (choices_shaped cs p.1 q.1)

  container_shaped : (c : Container) → IsInRange c → is_container loose (shown_container c) ≡ true
  container_shaped container.unit_struct h = refl
  container_shaped (container.newtype_struct s) h = format_shaped s h.sizes
  container_shaped (container.tuple_struct ss) h = formats_shaped ss h.sizes
  container_shaped (container.field_struct fs) h = fields_shaped fs h.sizes
  container_shaped (container.enumeration cs) h = choices_shaped cs h.numbers h.sizes

  pub registry_shaped : (r : Entries) → AllByRecursion (λ e. IsInRange e.1) r → is_registry loose (shown_registry r) ≡ true
  registry_shaped [] h = refl
  registry_shaped (e ∷ es) h = rw (container_shaped e.1 h.0, registry_shaped es h.1) refl
