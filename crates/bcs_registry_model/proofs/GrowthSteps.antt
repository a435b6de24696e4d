-- The result of a look-up in the newer map, in terms of the search for the first growth fault.
use Rattle.bcs_registry_model.proofs.Prelude.{◌≡◌, ℕ, List, map, String, Global, Option, Some, option_map, Bor, string_bytes, sym, ap, ◌∙◌, nat_cmp, slice_cmp, lookup, option_copied, option_map_or, is_at, Payload, same_variant, fault_unless, choice_fault, container_fault, entry_fault, payload_of, choice_of, container_at, container_of, entries_of, Named, VariantFormat, Missing, VariantMissing, VariantChanged}
use Rattle.bcs_registry_model.specs.declared.container.Container as declared
use Rattle.bcs_registry_model.proofs.Lookup.{find-choice, map-copied}

abbrev variant_of : Named VariantFormat → List ℕ × Payload
variant_of v = (string_bytes v.name, payload_of v.value)

pub choice_got : (new : List (ℕ × Named VariantFormat)) (n : ℕ) (v : Named VariantFormat) (o p : Option (Bor (Named VariantFormat))) → option_copied o ≡ lookup (is_at (nat_cmp n)) new → o ≡ p
    → choice_fault (map choice_of new) (choice_of (n, v))
    ≡ option_map_or (λ w. fault_unless VariantChanged (same_variant (variant_of v) w)) (option_map variant_of (option_copied p)) (Some VariantMissing)
choice_got new n v o p value is =
    ap (λ q. option_map_or (λ w. fault_unless VariantChanged (same_variant (variant_of v) w)) q (Some VariantMissing))
    (find-choice n new ∙ ap (option_map variant_of) (sym value ∙ ap option_copied is))

pub container_got : (new : List (String Global × declared.Container)) (n : List ℕ) (c : declared.Container) (o p : Option (Bor declared.Container)) → option_map (λ d. container_of d.now) o ≡ container_at n (entries_of new) → o ≡ p
    → entry_fault (entries_of new) (n, container_of c) ≡ option_map_or (container_fault (container_of c)) (option_map container_of (option_copied p)) (Some Missing)
container_got new n c o p value is =
    ap (λ q. option_map_or (container_fault (container_of c)) q (Some Missing))
    (sym value ∙ map-copied container_of o ∙ ap (λ r. option_map container_of (option_copied r)) is)
