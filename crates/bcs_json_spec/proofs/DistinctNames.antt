-- In a well-formed registry, the fields of each struct have different names, and so do the variants of each enum.
use Rattle.bcs_json_spec.proofs.Prelude.{◌≡◌, ◌∙◌, ℕ, List, [], ◌∷◌, map, Option, Some, None, Bool, true, refl, flat_map, list_all, option_map_or, Container, unit_struct, newtype_struct, tuple_struct, field_struct, enumeration, Payload, newtype, tuple, Choice, Entries, container_at, choice_numbered, choice_called, payload_names, container_names, are_distinct, IsWellFormed, bytes-refl, JsonContent, fields, one_of, nothing, json_content, json_content_at, payload_content}
use Rattle.bcs_registry_model.specs.Container as container
use Rattle.bcs_json_spec.proofs.DistinctVariants.{container_distinct, payload_distinct, numbered_called as called_by_name}
use Rattle.bcs_json_spec.proofs.Fitting.{and_left}

-- the lists of names in a content that must be free of duplicates
abbrev pub names_in : JsonContent → List (List (List ℕ))
names_in (fields fs) = map (λ f. f.0) fs ∷ []
names_in (one_of cs) = map (λ c. c.1.0) cs ∷ flat_map (λ c. payload_names c.1.1) cs
names_in _ = []

abbrev pub has_names : JsonContent → Bool
has_names f = list_all are_distinct (names_in f)

container_has : (c : Container) → has_names (json_content c) ≡ list_all are_distinct (container_names c)
container_has unit_struct = refl
container_has (newtype_struct s) = refl
container_has (tuple_struct ss) = refl
container_has (field_struct fs) = refl
container_has (enumeration cs) = refl

payload_has : (p : Payload) → has_names (payload_content p) ≡ list_all are_distinct (payload_names p)
payload_has container.unit = refl
payload_has (newtype s) = refl
payload_has (tuple ss) = refl
payload_has (container.fields fs) = refl

-- ---- contents of containers and variants

names_at : (o : Option Container) → ((c : Container) → o ≡ Some c → list_all are_distinct (container_names c) ≡ true) → has_names (option_map_or json_content o nothing) ≡ true
names_at None h = refl
names_at (Some c) h = container_has c ∙ h c refl

-- in a well-formed registry, the names in each container differ
pub well_formed_names : (name : List ℕ) (registry : Entries) → IsWellFormed registry → has_names (json_content_at name registry) ≡ true
well_formed_names name registry h = names_at (container_at name registry) (container_distinct registry h name)

-- and so do those in the payload of each variant
pub payload_names_differ : (n : ℕ) (cs : List Choice) (p : List ℕ × Payload) → has_names (one_of cs) ≡ true → choice_numbered n cs ≡ Some p → has_names (payload_content p.1) ≡ true
payload_names_differ n cs p h found = payload_has p.1 ∙ payload_distinct cs h n p found

-- ---- a variant by its name

-- the variant with a number is the one with its name
pub numbered_called : (n : ℕ) (cs : List Choice) (p : List ℕ × Payload) → has_names (one_of cs) ≡ true → choice_numbered n cs ≡ Some p → choice_called p.0 cs ≡ Some (n, p)
numbered_called n cs p h found = called_by_name p.0 cs (n, p) (and_left (are_distinct (map (λ c. c.1.0) cs)) _ h) found (bytes-refl p.0)
