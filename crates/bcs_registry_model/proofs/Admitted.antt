-- The formats inside a well-formed registry.
use Rattle.bcs_registry_model.proofs.Prelude.{◌≡◌, ℕ, ◌≤◌, List, [], ◌∷◌, map, Option, Some, None, Bool, true, false, cond, ◌&&◌, ◌⊎◌, inl, inr, IsTrue, refl, sym, ap, subst, ◌∙◌, arith, list_all, flat_map, lookup, option_map_or, leb-true, and_parts, and_from, list_all-append, none-some, same_Some, Shape, Shapes, no_shapes, shape, Field, Payload, Choice, Container, unit_struct, newtype_struct, tuple_struct, field_struct, enumeration, Entries, Content, of, one_of, nothing, container_at, choice_numbered, content, content_at, choice_at, payload_shape, field_shapes, shape_list, payload_formats, container_formats, levels, shapes_levels, has_few_levels, is_known, are_known, levels_hold, names_differ, names_known, IsWellFormed, admits, Admits}
use Rattle.bcs_registry_model.specs.Shape as shape
use Rattle.bcs_registry_model.specs.Container as container

-- a test that holds for all parts of all entries holds for the parts of the entry found by a look-up
pub list_all-found : {K X Y : Type 0} (p : Y → Bool) (row : X → List Y) (test : K → Bool) (es : List (K × X)) (x : X) → list_all p (flat_map (λ e. row e.1) es) ≡ true → lookup test es ≡ Some x → list_all p (row x) ≡ true
list_all-found p row test [] x h found = absurd (none-some x found)
list_all-found p row test (e ∷ es) x h found =
    let both = sym (list_all-append p (row e.1) (flat_map (λ e. row e.1) es)) ∙ h in
    elim (test e.0) as (λ b. cond b (Some e.1) (lookup test es) ≡ Some x → list_all p (row x) ≡ true) [
      | true ↦ λ is. subst (λ y. list_all p (row y) ≡ true) (same_Some e.1 x is) (and_parts (list_all p (row e.1)) (list_all p (flat_map (λ e. row e.1) es)) both).0
      | false ↦ λ rest. list_all-found p row test es x (and_parts (list_all p (row e.1)) (list_all p (flat_map (λ e. row e.1) es)) both).1 rest
    ] found

all_admitted : (registry : Entries) (ss : List Shape) → list_all has_few_levels ss ≡ true → list_all (is_known registry) ss ≡ true → list_all (admits registry) ss ≡ true
all_admitted registry [] h g = refl
all_admitted registry (s ∷ ss) h g =
    let few = list_all has_few_levels ss in
    let known = list_all (is_known registry) ss in
    and_from (admits registry s) (list_all (admits registry) ss)
    (and_from (has_few_levels s) (is_known registry s) (and_parts (has_few_levels s) few h).0 (and_parts (is_known registry s) known g).0)
    (all_admitted registry ss (and_parts (has_few_levels s) few h).1 (and_parts (is_known registry s) known g).1)

-- each format of a container is admitted
pub container_formats-admitted : (registry : Entries) → IsWellFormed registry → (n : List ℕ) (c : Container) → container_at n registry ≡ Some c → list_all (admits registry) (container_formats c) ≡ true
container_formats-admitted registry good n c found =
    let first = (and_parts (levels_hold registry && names_differ registry) (names_known registry) good).0 in
    all_admitted registry (container_formats c)
    (list_all-found has_few_levels container_formats _ registry c (and_parts (levels_hold registry) (names_differ registry) first).0 found)
    (list_all-found (is_known registry) container_formats _ registry c (and_parts (levels_hold registry && names_differ registry) (names_known registry) good).1 found)

-- each format of a variant's payload is admitted
pub payload_formats-admitted : (registry : Entries) → IsWellFormed registry → (n : List ℕ) (cs : List Choice) → container_at n registry ≡ Some (enumeration cs)
    → (k : ℕ) (v : List ℕ × Payload) → choice_numbered k cs ≡ Some v → list_all (admits registry) (payload_formats v.1) ≡ true
payload_formats-admitted registry good n cs found k v is =
    list_all-found (admits registry) (λ w. payload_formats w.1) _ cs v (container_formats-admitted registry good n (enumeration cs) found) is

-- the content of a container or a variant is known, and has at most one level more than an admitted format
abbrev pub IsInside : Entries → Shape → Type 0
IsInside registry s = IsTrue (is_known registry s) × (levels s ≤ 33)

few_levels : (s : Shape) → has_few_levels s ≡ true → levels s ≤ 32
few_levels s h = leb-true (levels s) 32 h

abbrev choices_within : Content → List Choice
choices_within (one_of cs) = cs
choices_within _ = []

module _ (registry : Entries) where
  -- an admitted format qualifies
  pub inside-from_admits : (s : Shape) → Admits registry s → IsInside registry s
  inside-from_admits s h =
      let both = and_parts (has_few_levels s) (is_known registry s) h in
      (both.1, omega (arith, few_levels s both.0))

  row_inside : (ss : Shapes) → list_all (admits registry) (shape_list ss) ≡ true → (are_known registry ss ≡ true) × (shapes_levels ss ≤ 32)
  row_inside no_shapes h = (refl, omega arith)
  row_inside (shape s ss) h =
      let both = and_parts (admits registry s) (list_all (admits registry) (shape_list ss)) h in
      let one = inside-from_admits s both.0 in
      let more = row_inside ss both.1 in (
        and_from (is_known registry s) (are_known registry ss) one.0 more.0,
        omega (arith, more.1, few_levels s (and_parts (has_few_levels s) (is_known registry s) both.0).0),
      )

  tuple_inside : (ss : Shapes) → list_all (admits registry) (shape_list ss) ≡ true → IsInside registry (shape.tuple ss)
  tuple_inside ss h = let row = row_inside ss h in (row.0, omega (arith, row.1))

  shape_list-fields : (fs : List Field) → shape_list (field_shapes fs) ≡ map (λ f. f.1) fs
  shape_list-fields [] = refl
  shape_list-fields (f ∷ fs) = ap (λ r. f.1 ∷ r) (shape_list-fields fs)

  one_inside : (s : Shape) → list_all (admits registry) (s ∷ []) ≡ true → IsInside registry s
  one_inside s h = inside-from_admits s (and_parts (admits registry s) true h).0

  abbrev shape_within : Content → Shape
  shape_within (of s) = s
  shape_within (one_of cs) = shape.unit
  shape_within nothing = shape.unit

  -- a property of the shape in a content, for the shape itself
  inside_content : (c : Content) (s : Shape) → IsInside registry (shape_within c) → c ≡ of s → IsInside registry s
  inside_content c s h is = subst (IsInside registry) (ap shape_within is) h

  container_inside : (c : Container) → list_all (admits registry) (container_formats c) ≡ true → IsInside registry (shape_within (content c))
  container_inside unit_struct h = (refl, omega arith)
  container_inside (newtype_struct s) h = one_inside s h
  container_inside (tuple_struct ss) h = tuple_inside ss h
  container_inside (field_struct fs) h = tuple_inside (field_shapes fs) (ap (list_all (admits registry)) (shape_list-fields fs) ∙ h)
  container_inside (enumeration cs) h = (refl, omega arith)

  payload_inside : (p : Payload) → list_all (admits registry) (payload_formats p) ≡ true → IsInside registry (payload_shape p)
  payload_inside container.unit h = (refl, omega arith)
  payload_inside (container.newtype s) h = one_inside s h
  payload_inside (container.tuple ss) h = tuple_inside ss h
  payload_inside (container.fields fs) h = tuple_inside (field_shapes fs) (ap (list_all (admits registry)) (shape_list-fields fs) ∙ h)

  found_content : (o : Option Container) (d : Content) → option_map_or content o nothing ≡ d → (d ≡ nothing) ⊎ ((c : Container) × (o ≡ Some c) × (content c ≡ d))
  found_content None d h = inl (sym h)
  found_content (Some c) d h = inr (c, refl, h)

  enumeration_of : (c : Container) (cs : List Choice) → content c ≡ one_of cs → c ≡ enumeration cs
  enumeration_of (enumeration ds) cs h = ap enumeration (ap choices_within h)
  enumeration_of _ cs h = absurd cc

  -- the content of a container of the registry
  pub content_at-inside : IsWellFormed registry → (n : List ℕ) (s : Shape) → content_at n registry ≡ of s → IsInside registry s
  content_at-inside good n s h = elim (found_content (container_at n registry) (of s) h) [
    | inl none ↦ absurd cc
    | inr f ↦ inside_content (content f.0) s (container_inside f.0 (container_formats-admitted registry good n f.0 f.1)) f.2
  ]

  -- the variants of an enum are those of its container
  pub content_at-one_of : (n : List ℕ) (cs : List Choice) → content_at n registry ≡ one_of cs → container_at n registry ≡ Some (enumeration cs)
  content_at-one_of n cs h = elim (found_content (container_at n registry) (one_of cs) h) [
    | inl none ↦ absurd cc
    | inr f ↦ f.1 ∙ ap Some (enumeration_of f.0 cs f.2)
  ]

  found_choice : (o : Option (List ℕ × Payload)) (s : Shape) → option_map_or (λ v. of (payload_shape v.1)) o nothing ≡ of s → (v : List ℕ × Payload) × (o ≡ Some v) × (payload_shape v.1 ≡ s)
  found_choice None s h = absurd cc
  found_choice (Some v) s h = (v, refl, ap shape_within h)

  -- the content of a variant of an enum of the registry
  pub choice_at-inside : IsWellFormed registry → (n : List ℕ) (cs : List Choice) → content_at n registry ≡ one_of cs → (k : ℕ) (s : Shape) → choice_at k cs ≡ of s → IsInside registry s
  choice_at-inside good n cs at k s h =
      let f = found_choice (choice_numbered k cs) s h in
      subst (IsInside registry) f.2 (payload_inside f.0.1 (payload_formats-admitted registry good n cs (content_at-one_of n cs at) k f.0 f.1))
