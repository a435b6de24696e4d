-- A container that was found: its contents, and how many levels they have.
use Rattle.bcs_json_reader.proofs.Prelude.{◌≡◌, ◌∙◌, ℕ, suc, ◌≤◌, List, Some, ap, option_map_or, Shape, Shapes, tuple_shape, Field, Choice, Container, newtype_struct, tuple_struct, field_struct, enumeration, Entries, container_at, content, content_at, field_shapes, payload_shape, choice_called, IsOrderly, container_of, IsWellFormed, levels, shapes_levels, content_at-inside, choice_at-inside, called_numbered}
use Rattle.bcs_registry_model.specs.Container as container
use Rattle.bcs_registry_model.specs.declared.container.Container as declared
use Rattle.bcs_json_reader.proofs.Called.{differ}

-- the container that was found
pub container_found : (registry : Entries) (name : List ℕ) (c k : declared.Container) → container_at name registry ≡ Some (container_of c) → c ≡ k
    → container_at name registry ≡ Some (container_of k)
container_found registry name c k found is = found ∙ ap (λ k. Some (container_of k)) is

module _ (registry : Entries) (good : IsWellFormed registry) (name : List ℕ) where
  content_found : (c : Container) → container_at name registry ≡ Some c → content_at name registry ≡ content c
  content_found c h = ap (λ p. option_map_or content p container.nothing) h

  pub newtype_levels : (s : Shape) → container_at name registry ≡ Some (newtype_struct s) → levels s ≤ 33
  newtype_levels s h = (content_at-inside registry good name s (content_found (newtype_struct s) h)).1

  pub tuple_levels : (ss : Shapes) → container_at name registry ≡ Some (tuple_struct ss) → suc (shapes_levels ss) ≤ 33
  tuple_levels ss h = (content_at-inside registry good name (tuple_shape ss) (content_found (tuple_struct ss) h)).1

  pub struct_levels : (fs : List Field) → container_at name registry ≡ Some (field_struct fs) → suc (shapes_levels (field_shapes fs)) ≤ 33
  struct_levels fs h = (content_at-inside registry good name (tuple_shape (field_shapes fs)) (content_found (field_struct fs) h)).1

  -- the contents of a variant that was found by its name
  module _ (orderly : IsOrderly registry) (cs : List Choice) (h : container_at name registry ≡ Some (enumeration cs)) where
    pub variant_levels : (word : List ℕ) (c : Choice) → choice_called word cs ≡ Some c → levels (payload_shape c.1.1) ≤ 33
    variant_levels word c called =
        (choice_at-inside registry good name cs (content_found (enumeration cs) h) c.0 (payload_shape c.1.1)
        (ap (λ o. option_map_or (λ v. container.of (payload_shape v.1)) o container.nothing) (called_numbered word cs c (differ registry name orderly cs h) called))).1
