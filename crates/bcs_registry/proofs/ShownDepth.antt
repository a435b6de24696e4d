-- The JSON of a well-formed registry nests less deeply than serde_json allows.
use Rattle.bcs_registry.proofs.Prelude.{◌≤◌, ◌+◌, ◌*◌, ℕ, List, [], ◌∷◌, ◌++◌, true, ◌&&◌, Ordering, Less, Equal, Greater, IsTrue, sym, ◌∙◌, arith, leb-true, and_parts, list_all-append, slice_cmp, list_all, flat_map, nat_cmp, match_ordering, Data, Members, no_members, member, put, depth, items_depth, members_depth, max_depth, Field, Payload, Choice, Container, Entries, unit_struct, newtype_struct, tuple_struct, field_struct, enumeration, Shape, name, option, seq, map_of, tuple, array, Shapes, no_shapes, shape, single, shown_format, shown_formats, shown_struct, shown_payload, shown_choices, shown_container, shown_containers, shown_registry, IsWellFormed, has_few_levels, levels, shapes_levels, level_limit, formats, container_formats, payload_formats, shape_list, levels_hold, names_differ, names_known}
use Rattle.std.proofs.Common.{map}
use Rattle.std.specs.Fmt.{decimal}
use Rattle.bcs_registry_model.specs.Container as container

mutual
  depth-format : (s : Shape) → depth (shown_format s) ≤ 2 * levels s + 1
  depth-format (name n) = omega arith
  depth-format (option s) = omega (arith, depth-format s)
  depth-format (seq s) = omega (arith, depth-format s)
  depth-format (map_of k v) = omega (arith, depth-format k, depth-format v)
  depth-format (tuple ss) = omega (arith, depth-formats ss)
  depth-format (array s n) = omega (arith, depth-format s)
  depth-format _ = omega arith

  depth-formats : (ss : Shapes) → items_depth (shown_formats ss) ≤ 2 * shapes_levels ss + 1
  depth-formats no_shapes = omega arith
  depth-formats (shape s ss) = omega (arith, depth-format s, depth-formats ss)

depth-put_at : (o : Ordering) (k l : List ℕ) (d e : Data) (ms : Members) (n : ℕ) → depth d ≤ n → members_depth (member l e ms) ≤ n → members_depth (put k d ms) ≤ n
    → members_depth (match_ordering o (member k d (member l e ms)) (member l d ms) (member l e (put k d ms))) ≤ n
depth-put_at Less k l d e ms n p h q = omega arith
depth-put_at Equal k l d e ms n p h q = omega arith
depth-put_at Greater k l d e ms n p h q = omega arith

depth-put : (k : List ℕ) (d : Data) (ms : Members) (n : ℕ) → depth d ≤ n → members_depth ms ≤ n → members_depth (put k d ms) ≤ n
depth-put k d no_members n p h = omega arith
depth-put k d (member l e ms) n p h = depth-put_at (slice_cmp nat_cmp k l) k l d e ms n p h (depth-put k d ms n p (omega arith))

-- every format in the list has few levels
abbrev HaveFewLevels : List Shape → Type 0
HaveFewLevels ss = IsTrue (list_all has_few_levels ss)

first_few : (xs ys : List Shape) → HaveFewLevels (xs ++ ys) → HaveFewLevels xs × HaveFewLevels ys
first_few xs ys h = and_parts (list_all has_few_levels xs) (list_all has_few_levels ys) (sym (list_all-append has_few_levels xs ys) ∙ h)

depth-one : (s : Shape) → IsTrue (has_few_levels s) → depth (shown_format s) ≤ 65
depth-one s h = omega (arith, depth-format s, leb-true (levels s) level_limit h)

depth-only : (s : Shape) → HaveFewLevels (s ∷ []) → depth (shown_format s) ≤ 65
depth-only s h = depth-one s (and_parts (has_few_levels s) true h).0

depth-list : (ss : Shapes) → HaveFewLevels (shape_list ss) → items_depth (shown_formats ss) ≤ 65
depth-list no_shapes h = omega arith
depth-list (shape s ss) h =
    let both = and_parts (has_few_levels s) (list_all has_few_levels (shape_list ss)) h in
    omega (arith, depth-one s both.0, depth-list ss both.1)

depth-fields : (fs : List Field) → HaveFewLevels (map (λ f. f.1) fs) → items_depth (shown_struct fs) ≤ 66
depth-fields [] h = omega arith
depth-fields (f ∷ fs) h =
    let both = and_parts (has_few_levels f.1) (list_all has_few_levels (map (λ f. f.1) fs)) h in
    omega (arith, depth-one f.1 both.0, depth-fields fs both.1)

depth-payload : (p : Payload) → HaveFewLevels (payload_formats p) → depth (shown_payload p) ≤ 68
depth-payload container.unit h = omega arith
depth-payload (container.newtype s) h = omega (arith, depth-only s h)
depth-payload (container.tuple ss) h = omega (arith, depth-list ss h)
depth-payload (container.fields fs) h = omega (arith, depth-fields fs h)

depth-choices : (cs : List Choice) → HaveFewLevels (flat_map (λ c. payload_formats c.1.1) cs) → members_depth (shown_choices cs) ≤ 69
depth-choices [] h = omega arith
depth-choices (c ∷ cs) h =
    let both = first_few (payload_formats c.1.1) (flat_map (λ c. payload_formats c.1.1) cs) h in
    depth-put (decimal c.0) (single c.1.0 (shown_payload c.1.1)) (shown_choices cs) 69 (omega (arith, depth-payload c.1.1 both.0)) (depth-choices cs both.1)

depth-container : (c : Container) → HaveFewLevels (container_formats c) → depth (shown_container c) ≤ 71
depth-container unit_struct h = omega arith
depth-container (newtype_struct s) h = omega (arith, depth-only s h)
depth-container (tuple_struct ss) h = omega (arith, depth-list ss h)
depth-container (field_struct fs) h = omega (arith, depth-fields fs h)
depth-container (enumeration cs) h = omega (arith, depth-choices cs h)

depth-containers : (es : Entries) → HaveFewLevels (formats es) → members_depth (shown_containers es) ≤ 71
depth-containers [] h = omega arith
depth-containers (e ∷ es) h =
    let both = first_few (container_formats e.1) (formats es) h in
    omega (arith, depth-container e.1 both.0, depth-containers es both.1)

pub depth-shown : (registry : Entries) → IsWellFormed registry → depth (shown_registry registry) ≤ max_depth
depth-shown registry h =
    let few = (and_parts (levels_hold registry) (names_differ registry) (and_parts (levels_hold registry && names_differ registry) (names_known registry) h).0).0 in
    omega (arith, depth-containers registry few)
