-- The shapes of the fields of a struct are those of their formats.
use Rattle.bcs_registry_model.proofs.Prelude.{◌≡◌, List, [], ◌∷◌, map, refl, ap, Shapes, shape, field_shapes, field_of, formats_shapes, shape_of, Named, Format}

pub fields_row : (fs : List (Named Format)) → formats_shapes (map (λ (f : Named Format). f.value) fs) ≡ field_shapes (map field_of fs)
fields_row [] = refl
fields_row (f ∷ fs) = ap (λ (ss : Shapes). shape (shape_of f.value) ss) (fields_row fs)
