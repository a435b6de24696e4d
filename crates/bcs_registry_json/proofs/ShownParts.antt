-- The JSON of a registry, as the loops build it, part by part.
use Rattle.bcs_registry_json.proofs.Prelude.{arith, sym, ◌≡◌, ◌<◌, ◌^◌, List, [], ◌∷◌, ◌++◌, Less, Greater, string_bytes, map, refl, ap, ◌∙◌, nat_list_cmp_total, ranked, slice_cmp, AllByRecursion, IsStrictlySortedBy, keys_of, ordering_reverse, Data, member, put, items_of, single, shown_format, shown_formats, shown_struct, shown_payload, shown_choices, shown_container, shown_containers, shape_of, formats_shapes, field_of, payload_of, choice_of, container_of, entries_of, Format, Named, Stored, Variant, below_later}
use Rattle.std.specs.Fmt.{decimal}
use Rattle.std.specs.Ordering.{nat_cmp}
use Rattle.std.specs.String.{string_cmp}
use Rattle.bcs_registry_json.proofs.Choices.{texts_differ}
use Rattle.bcs_registry_json.proofs.Puts.{put_either}

abbrev pub format_data : Format → Data
format_data f = shown_format (shape_of f)

abbrev pub field_data : Named Format → Data
field_data f = single (string_bytes f.name) (shown_format (shape_of f.value))

abbrev pub variant_data : Variant → Data
variant_data v = single (string_bytes v.1.name) (shown_payload (payload_of v.1.value))

pub items_formats : (fs : List Format) → items_of (map format_data fs) ≡ shown_formats (formats_shapes fs)
items_formats [] = refl
items_formats (f ∷ fs) = rw (items_formats fs) refl

pub items_fields : (fs : List (Named Format)) → items_of (map field_data fs) ≡ shown_struct (map field_of fs)
items_fields [] = refl
items_fields (f ∷ fs) = rw (items_fields fs) refl

-- a container whose name is above those before it is appended
pub shown_containers-push : (done : List Stored) (e : Stored) (more : List Stored) → IsStrictlySortedBy string_cmp (keys_of (done ++ e ∷ more))
    → put (string_bytes e.0) (shown_container (container_of e.1)) (shown_containers (entries_of done)) ≡ shown_containers (entries_of (done ++ e ∷ []))
unfolding IsStrictlySortedBy
shown_containers-push [] e more h = refl
shown_containers-push (first ∷ done) e more h =
    let above : slice_cmp nat_cmp (string_bytes e.0) (string_bytes first.0) ≡ Greater =
    nat_list_cmp_total.antisymm (string_bytes e.0) (string_bytes first.0) ∙ ap ordering_reverse (below_later string_cmp first.0 done e more h.0) in
    rw above (ap (member (string_bytes first.0) (shown_container (container_of first.1))) (shown_containers-push done e more h.1))

-- putting a variant whose number is above those before it
pub shown_choices-push : (done : List Variant) (v : Variant) (more : List Variant) → IsStrictlySortedBy nat_cmp (keys_of (done ++ v ∷ more)) → AllByRecursion (λ n. n < 2 ^ 32) (keys_of done) → v.0 < 2 ^ 32
    → put (decimal v.0) (variant_data v) (shown_choices (map choice_of done)) ≡ shown_choices (map choice_of (done ++ v ∷ []))
unfolding IsStrictlySortedBy
shown_choices-push [] v more h bounds bound = refl
shown_choices-push (first ∷ done) v more h bounds bound =
    put_either (decimal v.0) (decimal first.0) (variant_data v) (variant_data first) (shown_choices (map choice_of done))
    (texts_differ v.0 first.0 bound bounds.0 (λ same. let above : first.0 < v.0 = ranked first.0 v.0 Less (sym (below_later nat_cmp first.0 done v more h.0)) in omega (arith, above, same)))
    ∙ ap (put (decimal first.0) (variant_data first)) (shown_choices-push done v more h.1 bounds.1 bound)
