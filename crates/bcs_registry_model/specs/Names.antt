-- Looking up a variant number by the names of the enum and the variant.
use Rattle.std.specs.Prelude.{◌≡◌, ℕ, List, Option, None}
use Rattle.std.specs.BTreeMap.{get_by_text}
use Rattle.std.specs.Option.{option_map_or}
use Rattle.bcs_registry_model.specs.Container.{Entries, variant_number}
use Rattle.bcs_registry_model.specs.declared.variant_numbers.VariantNumbers.{VariantNumbers}

-- the number stored for these two names
abbrev pub number_found : List ℕ → List ℕ → VariantNumbers → Option ℕ
number_found name word numbers = option_map_or (λ m. get_by_text m word) (get_by_text numbers.by_enum name) None

-- for all names, the number stored is that of the variant in the registry
abbrev pub FindsNumbers : VariantNumbers → Entries → Type 0
FindsNumbers numbers registry = (name word : List ℕ) → number_found name word numbers ≡ variant_number name word registry
