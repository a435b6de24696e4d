-- Looking up containers and variants, and the levels of the formats in a list.
use Rattle.bcs_decode_spec.proofs.Prelude.{◌≡◌, ℕ, zero, suc, ◌+◌, ◌<◌, ◌≤◌, List, [], ◌∷◌, length, get_or, map, drop, Option, Some, None, option_map, Bor, refl, sym, ap, ◌∙◌, arith, drop_more, Entries, nothing, content, container_at, content_at, field_shapes, shape_of, formats_shapes, field_of, container_of, levels, shapes_levels, Named, Format}
use Rattle.bcs_registry_model.specs.Shape as shape
use Rattle.bcs_registry_model.specs.declared.container.Container as declared
pub use Rattle.bcs_value_model.proofs.WalkViews.{choice-found as choice_found, choice-missing as choice_missing}

-- ---- looking up containers and variants

pub content_found : (registry : Entries) (name : List ℕ) (o : Option (Bor declared.Container)) (c : Bor declared.Container)
    → option_map (λ c. container_of c.now) o ≡ container_at name registry → o ≡ Some c → content_at name registry ≡ content (container_of c.now)
content_found registry name o c found some = rw (← found, some) refl

pub content_missing : (registry : Entries) (name : List ℕ) (o : Option (Bor declared.Container))
    → option_map (λ c. container_of c.now) o ≡ container_at name registry → o ≡ None → content_at name registry ≡ nothing
content_missing registry name o found none = rw (← found, none) refl

-- ---- the next format in a list

pub formats_next : (fs : List Format) (i : ℕ) (f : Format) → i < length fs → f ≡ get_or fs i f → formats_shapes (drop i fs) ≡ shape.shape (shape_of f) (formats_shapes (drop (i + 1) fs))
formats_next fs i f lt is = ap formats_shapes (drop_more fs i f lt ∙ ap (λ y. y ∷ drop (i + 1) fs) (sym is))

pub fields_next : (fs : List (Named Format)) (i : ℕ) (f : Named Format) → i < length fs → f ≡ get_or fs i f → field_shapes (map field_of (drop i fs)) ≡ shape.shape (shape_of f.value) (field_shapes (map field_of (drop (i + 1) fs)))
fields_next fs i f lt is = ap (λ (gs : List (Named Format)). field_shapes (map field_of gs)) (drop_more fs i f lt ∙ ap (λ y. y ∷ drop (i + 1) fs) (sym is))

-- ---- the levels of the formats in a list

levels_drop : (fs : List Format) (i : ℕ) → shapes_levels (formats_shapes (drop i fs)) ≤ shapes_levels (formats_shapes fs)
levels_drop [] zero = omega arith
levels_drop [] (suc i) = omega arith
levels_drop (f ∷ fs) zero = omega arith
levels_drop (f ∷ fs) (suc i) = omega (arith, levels_drop fs i)

pub levels_in : (fs : List Format) (i : ℕ) (f : Format) → i < length fs → f ≡ get_or fs i f → levels (shape_of f) ≤ shapes_levels (formats_shapes fs)
levels_in fs i f lt is = let same = ap shapes_levels (formats_next fs i f lt is) in omega (arith, levels_drop fs i, same)

field_levels_drop : (fs : List (Named Format)) (i : ℕ) → shapes_levels (field_shapes (map field_of (drop i fs))) ≤ shapes_levels (field_shapes (map field_of fs))
field_levels_drop [] zero = omega arith
field_levels_drop [] (suc i) = omega arith
field_levels_drop (f ∷ fs) zero = omega arith
field_levels_drop (f ∷ fs) (suc i) = omega (arith, field_levels_drop fs i)

pub field_levels_in : (fs : List (Named Format)) (i : ℕ) (f : Named Format) → i < length fs → f ≡ get_or fs i f → levels (shape_of f.value) ≤ shapes_levels (field_shapes (map field_of fs))
field_levels_in fs i f lt is = let same = ap shapes_levels (fields_next fs i f lt is) in omega (arith, field_levels_drop fs i, same)
