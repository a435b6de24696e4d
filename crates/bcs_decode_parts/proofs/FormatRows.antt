-- The format with a given index in a list of formats: the formats before it, and those after it.
use Rattle.bcs_decode_parts.proofs.Prelude.{◌≡◌, ℕ, ◌+◌, ◌<◌, List, [], ◌∷◌, ◌++◌, length, get_or, map, take, drop, suc, refl, sym, ap, ap₂, ◌∙◌, arith, length-take, take-append-drop, Shapes, shape, field_shapes, shape_of, formats_shapes, field_of, Format, Named, formats_next, fields_next}
use Rattle.bcs_decode_parts.proofs.Rows.{shapes_joined, shapes_count}

formats_joined : (fs gs : List Format) → formats_shapes (fs ++ gs) ≡ shapes_joined (formats_shapes fs) (formats_shapes gs)
formats_joined [] gs = refl
formats_joined (f ∷ fs) gs = ap (shape (shape_of f)) (formats_joined fs gs)

pub formats_count : (fs : List Format) → shapes_count (formats_shapes fs) ≡ length fs
formats_count [] = refl
formats_count (f ∷ fs) = ap suc (formats_count fs)

pub formats_split : (fs front : List Format) (i : ℕ) (f : Format) → front ≡ take i fs → i < length fs → f ≡ get_or fs i f
    → formats_shapes fs ≡ shapes_joined (formats_shapes front) (shape (shape_of f) (formats_shapes (drop (i + 1) fs)))
formats_split fs front i f e lt is =
    ap formats_shapes (sym (take-append-drop i fs)) ∙ formats_joined (take i fs) (drop i fs)
    ∙ ap₂ (λ (a b : Shapes). shapes_joined a b) (ap formats_shapes (sym e)) (formats_next fs i f lt is)

pub formats_before : (fs front : List Format) (i : ℕ) → front ≡ take i fs → i < length fs → shapes_count (formats_shapes front) ≡ i
formats_before fs front i e lt = formats_count front ∙ omega (arith, ap length e, length-take i fs)

abbrev named_shapes : List (Named Format) → Shapes
named_shapes fs = field_shapes (map field_of fs)

fields_joined : (fs gs : List (Named Format)) → named_shapes (fs ++ gs) ≡ shapes_joined (named_shapes fs) (named_shapes gs)
fields_joined [] gs = refl
fields_joined (f ∷ fs) gs = ap (shape (shape_of f.value)) (fields_joined fs gs)

pub fields_count : (fs : List (Named Format)) → shapes_count (named_shapes fs) ≡ length fs
fields_count [] = refl
fields_count (f ∷ fs) = ap suc (fields_count fs)

pub fields_split : (fs front : List (Named Format)) (i : ℕ) (f : Named Format) → front ≡ take i fs → i < length fs → f ≡ get_or fs i f
    → named_shapes fs ≡ shapes_joined (named_shapes front) (shape (shape_of f.value) (named_shapes (drop (i + 1) fs)))
fields_split fs front i f e lt is =
    ap named_shapes (sym (take-append-drop i fs)) ∙ fields_joined (take i fs) (drop i fs)
    ∙ ap₂ (λ (a b : Shapes). shapes_joined a b) (ap named_shapes (sym e)) (fields_next fs i f lt is)

pub fields_before : (fs front : List (Named Format)) (i : ℕ) → front ≡ take i fs → i < length fs → shapes_count (named_shapes front) ≡ i
fields_before fs front i e lt = fields_count front ∙ omega (arith, ap length e, length-take i fs)
