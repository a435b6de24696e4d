-- Each document represents something that meets the rules, or has a least fault.
use Rattle.bcs_registry.proofs.Prelude.{◌≡◌, ◌⊎◌, ◌∙◌, ℕ, List, Bool, true, false, Option, Some, None, inl, inr, refl, sym, true≢false, IsUtf8-from_is_utf8, is_utf8-from_IsUtf8, is_utf8, Data, read, Entries, IsLeastFault, IsLeastFormatFault, IsJson, IsNotJson, Shape, is_format, is_registry, WritesFormat, WritesRegistry, FormatOrFault, RegistryOrFault, Admits, IsWellFormed, has_few_levels, is_known, levels_hold, names_differ, names_known, RegistryFault, BadNumber, BadShape, NotJson, RepeatedName, TooNested, UnknownName}
use Rattle.bcs_registry.proofs.SomeText.{format_written, registry_written}

json_or_none : (text : List ℕ) → IsNotJson text ⊎ ((d : Data) × IsJson text d)
json_or_none text = at (is_utf8 text) (read text) refl refl
  where
    at : (valid : Bool) (found : Option Data) → is_utf8 text ≡ valid → read text ≡ found → IsNotJson text ⊎ ((d : Data) × IsJson text d)
    at false found utf8 reads = inl (λ d is. true≢false (sym (is_utf8-from_IsUtf8 text is.0) ∙ utf8))
    at true None utf8 reads = inl (λ d is. let bad : Some d ≡ None = sym is.1 ∙ reads in absurd cc)
    at true (Some d) utf8 reads = inr (d, (IsUtf8-from_is_utf8 text utf8, reads))

-- ---- registries

module _ (text : List ℕ) where
  abbrev Outcome : Type 0
  Outcome = ((r : Entries) × WritesRegistry text r × IsWellFormed r) ⊎ ((e : RegistryFault) × IsLeastFault text e)

  by_rules : (r : Entries) → WritesRegistry text r → Outcome
  by_rules r writes = at (levels_hold r) (names_differ r) (names_known r) refl refl refl
    where
      at : (levels names known : Bool) → levels_hold r ≡ levels → names_differ r ≡ names → names_known r ≡ known → Outcome
      at false names known h i k = inr (TooNested, (r, writes, h))
      at true false known h i k = inr (RepeatedName, (r, writes, (h, i)))
      at true true false h i k = inr (UnknownName, (r, writes, (h, i, k)))
      at true true true h i k = inl (r, writes, rw (h, i, k) refl)

  by_shape : (d : Data) → IsJson text d → Outcome
  by_shape d json = at (is_registry true d) (is_registry false d) refl refl
    where
      at : (loose strict : Bool) → is_registry true d ≡ loose → is_registry false d ≡ strict → Outcome
      at false strict h i = inr (BadShape, (d, json, h))
      at true false h i = inr (BadNumber, (d, json, h, i))
      at true true h i = let w = registry_written text d json i in by_rules w.0 w.1

  by_json : IsNotJson text ⊎ ((d : Data) × IsJson text d) → Outcome
  by_json (inl none) = inr (NotJson, none)
  by_json (inr found) = by_shape found.0 found.1

pub registry_or_fault : RegistryOrFault
registry_or_fault text = by_json text (json_or_none text)

-- ---- formats

module _ (registry : Entries) (text : List ℕ) where
  abbrev FormatOutcome : Type 0
  FormatOutcome = ((s : Shape) × WritesFormat text s × Admits registry s) ⊎ ((e : RegistryFault) × IsLeastFormatFault registry text e)

  format_by_rules : (s : Shape) → WritesFormat text s → FormatOutcome
  format_by_rules s writes = at (has_few_levels s) (is_known registry s) refl refl
    where
      at : (levels known : Bool) → has_few_levels s ≡ levels → is_known registry s ≡ known → FormatOutcome
      at false known h i = inr (TooNested, (s, writes, h))
      at true false h i = inr (UnknownName, (s, writes, (h, i)))
      at true true h i = inl (s, writes, rw (h, i) refl)

  format_by_shape : (d : Data) → IsJson text d → FormatOutcome
  format_by_shape d json = at (is_format true d) (is_format false d) refl refl
    where
      at : (loose strict : Bool) → is_format true d ≡ loose → is_format false d ≡ strict → FormatOutcome
      at false strict h i = inr (BadShape, (d, json, h))
      at true false h i = inr (BadNumber, (d, json, h, i))
      at true true h i = let w = format_written text d json i in format_by_rules w.0 w.1

  format_by_json : IsNotJson text ⊎ ((d : Data) × IsJson text d) → FormatOutcome
  format_by_json (inl none) = inr (NotJson, none)
  format_by_json (inr found) = format_by_shape found.0 found.1

pub format_or_fault : FormatOrFault
format_or_fault registry text = format_by_json registry text (json_or_none text)
