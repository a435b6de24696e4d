-- The formats and names inside the values of a map, and inside the list of entries that represents it.
use Rattle.bcs_registry_model.proofs.Prelude.{◌≡◌, ℕ, List, [], ◌∷◌, ◌++◌, map, String, Global, string_bytes, refl, ap, flat_map, values_of, and-true, list_all-append, Shape, field_of, payload_of, choice_of, container_of, entries_of, payload_formats, container_formats, formats, payload_names, container_names, name_lists, Format, Named, VariantFormat}
use Rattle.bcs_registry_model.specs.declared.container.Container as declared

-- the formats in a list of containers
abbrev pub rows_formats : List declared.Container → List Shape
rows_formats cs = flat_map (λ c. container_formats (container_of c)) cs

-- the formats in a list of variants
abbrev pub variants_formats : List (Named VariantFormat) → List Shape
variants_formats vs = flat_map (λ v. payload_formats (payload_of v.value)) vs

pub formats-values : (es : List (String Global × declared.Container)) → formats (entries_of es) ≡ rows_formats (values_of es)
formats-values [] = refl
formats-values (e ∷ es) = ap (λ r. container_formats (container_of e.1) ++ r) (formats-values es)

pub choices-values : (es : List (ℕ × Named VariantFormat)) → flat_map (λ c. payload_formats c.1.1) (map choice_of es) ≡ variants_formats (values_of es)
choices-values [] = refl
choices-values (e ∷ es) = ap (λ r. payload_formats (payload_of e.1.value) ++ r) (choices-values es)

-- the lists of names in a list of containers
abbrev pub rows_names : List declared.Container → List (List (List ℕ))
rows_names cs = flat_map (λ c. container_names (container_of c)) cs

-- the lists of names in a list of variants
abbrev pub variants_names : List (Named VariantFormat) → List (List (List ℕ))
variants_names vs = flat_map (λ v. payload_names (payload_of v.value)) vs

pub name_lists-values : (es : List (String Global × declared.Container)) → name_lists (entries_of es) ≡ rows_names (values_of es)
name_lists-values [] = refl
name_lists-values (e ∷ es) = ap (λ r. container_names (container_of e.1) ++ r) (name_lists-values es)

pub payload_names-values : (es : List (ℕ × Named VariantFormat)) → flat_map (λ c. payload_names c.1.1) (map choice_of es) ≡ variants_names (values_of es)
payload_names-values [] = refl
payload_names-values (e ∷ es) = ap (λ r. payload_names (payload_of e.1.value) ++ r) (payload_names-values es)

pub choice_names-values : (es : List (ℕ × Named VariantFormat)) → map (λ c. c.1.0) (map choice_of es) ≡ map (λ v. string_bytes v.name) (values_of es)
choice_names-values [] = refl
choice_names-values (e ∷ es) = ap (λ r. string_bytes e.1.name ∷ r) (choice_names-values es)

pub field_names-fields : (fs : List (Named Format)) → map (λ f. f.0) (map field_of fs) ≡ map (λ f. string_bytes f.name) fs
field_names-fields [] = refl
field_names-fields (f ∷ fs) = ap (λ r. string_bytes f.name ∷ r) (field_names-fields fs)

pub ruleset row_rules = (formats-values, choices-values, list_all-append)

pub ruleset name_rules = (name_lists-values, payload_names-values, list_all-append, and-true)
