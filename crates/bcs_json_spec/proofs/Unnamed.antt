-- A `JsonContent` as a `Content`, which has no names of fields. Proofs use it to get from JSON to bytes.
use Rattle.bcs_json_spec.proofs.Prelude.{◌≡◌, List, ℕ, Option, Some, None, refl, option_map_or, tuple_shape, Payload, newtype, tuple, payload_shape, Container, unit_struct, newtype_struct, tuple_struct, field_struct, enumeration, Entries, Content, content, container_at, content_at, field_shapes, JsonContent, of, fields, one_of, nothing, json_content, json_content_at, payload_content}
use Rattle.bcs_registry_model.specs.Container as container

abbrev pub unnamed : JsonContent → Content
unnamed (of s) = container.of s
unnamed (fields fs) = container.of (tuple_shape (field_shapes fs))
unnamed (one_of cs) = container.one_of cs
unnamed nothing = container.nothing

unnamed_content : (c : Container) → unnamed (json_content c) ≡ content c
unnamed_content unit_struct = refl
unnamed_content (newtype_struct s) = refl
unnamed_content (tuple_struct ss) = refl
unnamed_content (field_struct fs) = refl
unnamed_content (enumeration cs) = refl

unnamed_or : (o : Option Container) → unnamed (option_map_or json_content o nothing) ≡ option_map_or content o container.nothing
unnamed_or None = refl
unnamed_or (Some c) = unnamed_content c

pub unnamed_at : (name : List ℕ) (registry : Entries) → unnamed (json_content_at name registry) ≡ content_at name registry
unnamed_at name registry = unnamed_or (container_at name registry)

pub unnamed_payload : (p : Payload) → unnamed (payload_content p) ≡ container.of (payload_shape p)
unnamed_payload container.unit = refl
unnamed_payload (newtype s) = refl
unnamed_payload (tuple ss) = refl
unnamed_payload (container.fields fs) = refl
