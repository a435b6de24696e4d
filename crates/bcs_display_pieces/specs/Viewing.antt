-- Which views may be refused.
use Rattle.std.specs.Prelude.{◌≡◌, ◌⊎◌, ℕ, List, Any, Option, Some, Bool, true, false, string_bytes}
use Rattle.std.specs.Int.{w8}
use Rattle.std.specs.List.{All}
use Rattle.bcs_registry_model.specs.Container.{Entries, container_at, newtype_struct}
use Rattle.bcs_registry_model.specs.Shape.{array, unsigned}
use Rattle.bcs_registry_model.specs.declared.fault.RegistryFault.{RegistryFault}
use Rattle.bcs_registry_model.specs.declared.fault.RegistryFault.TheVariants.{UnknownName}
use Rattle.bcs_view_texts.specs.declared.view_kind.ViewKind.{ViewKind}
use Rattle.bcs_view_texts.specs.declared.view_kind.ViewKind.TheVariants.{Inside, Call, Value}
use Rattle.bcs_view_texts.specs.declared.view_text.ViewText.{ViewText}

-- the option names a byte string, or a list of them
abbrev pub names_string : ViewKind → Bool
names_string Inside = true
names_string Call = true
names_string (Value kind) = false

-- the container with this name has 32 `U8` and nothing else, so its values may be shown as Move does
abbrev pub HasMoveValue : Entries → List ℕ → Type 0
HasMoveValue registry name = container_at name registry ≡ Some (newtype_struct (array (unsigned w8) 32))

-- no byte string or list of arguments is named
abbrev pub NamesNoString : List ViewText → Type 0
NamesNoString texts = All (λ view. names_string view.kind ≡ false) texts

-- the view may be refused for this fault, or, for `None`, since the text names no part. Why a byte string is refused is for display,
-- and isn't specified
abbrev pub RefusesView : Entries → ViewText → Option RegistryFault → Type 0
RefusesView registry view fault = (names_string view.kind ≡ true)
    ⊎ ((HasMoveValue registry (string_bytes view.text) → ⊥) × (fault ≡ Some UnknownName))

-- one of the views may be refused so
abbrev pub RefusesViews : Entries → List ViewText → Option RegistryFault → Type 0
RefusesViews registry texts fault = Any (λ view. RefusesView registry view fault) texts
