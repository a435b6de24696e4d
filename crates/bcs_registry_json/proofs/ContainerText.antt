-- Containers read from JSON.
use Rattle.bcs_registry_json.proofs.Prelude.{◌≡◌, ◌∙◌, ◌&&◌, List, [], ◌∷◌, Bool, true, Global, Vec, ap, map, refl, sym, list_all, view-Array, array, items_of, items_view, view, Field, IsFieldsText, sizes_fit, field_of, shape_of, Format, Named}
use Rattle.serde_json.specs.declared.value.Value as json
use Rattle.bcs_registry_json.proofs.ShownParts.{field_data, items_fields}

-- ---- fields

abbrev pub fits_field : Named Format → Bool
fits_field f = sizes_fit (shape_of f.value)

fields_fit : (fs : List (Named Format)) → list_all (λ (f : Field). sizes_fit f.1) (map field_of fs) ≡ list_all fits_field fs
fields_fit [] = refl
fields_fit (f ∷ fs) = ap (λ b. fits_field f && b) (fields_fit fs)

-- a JSON array whose elements were all read as fields
pub fields_written : (v : json.Value) (row : Vec json.Value Global) (vs : List json.Value) (fs : List (Named Format)) → v ≡ json.Array row → vs ≡ row.items
    → items_view vs ≡ items_of (map field_data fs) → list_all fits_field fs ≡ true → IsFieldsText (view v) (map field_of fs)
fields_written v row vs fs is same shown fit = record {
  is = ap view is ∙ view-Array row ∙ ap (λ (ys : List json.Value). array (items_view ys)) (sym same) ∙ ap array (shown ∙ items_fields fs);
  sizes = fields_fit fs ∙ fit;
}
