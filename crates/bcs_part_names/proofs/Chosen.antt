-- The variant that is there.
use Rattle.std.proofs.Common.{◌≡◌, ◌∙◌, ℕ, List, false, Option, Some, None, ap, sym, map, string_bytes}
use Rattle.std.specs.BTreeMap.{is_at}
use Rattle.std.specs.Map.{lookup}
use Rattle.std.specs.Option.{option_copied}
use Rattle.std.specs.Prelude.{option_map}
use Rattle.std.specs.Ordering.{nat_cmp}
use Rattle.std.specs.Borrow.{Bor}
use Rattle.std.specs.Str.{bytes_eq}
use Rattle.bcs_registry_model.specs.View.{choice_of, payload_of}
use Rattle.bcs_registry_model.specs.declared.named.Named.{Named}
use Rattle.bcs_registry_model.specs.declared.variant_format.VariantFormat.{VariantFormat}
use Rattle.bcs_registry_model.proofs.Lookup.{find-choice}
use Rattle.bcs_part_labels.specs.Labels.{label}
use Rattle.bcs_part_names.specs.Labels.{has_label, is_chosen}

-- a variant that the look-up finds, and one that it doesn't
pub chosen_found : (n : ℕ) (es : List (ℕ × Named VariantFormat)) (x : Bor (Named VariantFormat)) (o : Option (Bor (Named VariantFormat))) (text : List ℕ)
    → option_copied o ≡ lookup (is_at (nat_cmp n)) es → o ≡ Some x → is_chosen n text (map choice_of es) ≡ bytes_eq (label (string_bytes x.now.name)) text
chosen_found n es x o text found some =
    ap (has_label text) (find-choice n es ∙ ap (option_map (λ v. (string_bytes v.name, payload_of v.value))) (sym found ∙ ap option_copied some))

pub chosen_missing : (n : ℕ) (es : List (ℕ × Named VariantFormat)) (o : Option (Bor (Named VariantFormat))) (text : List ℕ)
    → option_copied o ≡ lookup (is_at (nat_cmp n)) es → o ≡ None → is_chosen n text (map choice_of es) ≡ false
chosen_missing n es o text found none =
    ap (has_label text) (find-choice n es ∙ ap (option_map (λ v. (string_bytes v.name, payload_of v.value))) (sym found ∙ ap option_copied none))
