-- What the proofs use from other crates, and from this crate's definitions.
pub use Rattle.std.proofs.Common.{[], ap, arith, Bool, bytes_eq, codes, cond, decimal, Equal, false, Greater, if◌then◌else◌, inl, inr, is_some, IsTrue, Less, List, nat_lt, None, Option, option_map, Ordering, refl, rules, Some, string_bytes, subst, sym, true, unwrap_or, ℕ, ◌&&◌, ◌*◌, ◌++◌, ◌+◌, ◌<◌, ◌^◌, ◌||◌, ◌∙◌, ◌∷◌, ◌≡◌, ◌≤◌, ◌⊎◌}
pub use Rattle.std.proofs.lemmas.Bool.{and_parts, false≢true, leb-true, or_from, or_parts, true≢false}
pub use Rattle.std.proofs.lemmas.Bool.Decides.{Decides-ltb}
pub use Rattle.std.proofs.lemmas.Cmp.{nat_cmp_total, ranked}
pub use Rattle.std.proofs.lemmas.Grind.{common_steps}
pub use Rattle.std.proofs.lemmas.List.Folds.{list_all-append}
pub use Rattle.std.proofs.lemmas.Map.Lookups.{exact_unsigned}
pub use Rattle.std.proofs.lemmas.Result.{IfOk-weaker}
pub use Rattle.std.proofs.lemmas.Slice.Eq.{bytes_eq-Decides}
pub use Rattle.std.proofs.lemmas.Str.{is_utf8-from_IsUtf8, IsUtf8-from_is_utf8, IsUtf8-string_bytes}
pub use Rattle.std.specs.BTreeMap.{insert_entry}
pub use Rattle.std.specs.Cmp.Lexicographic.{slice_cmp}
pub use Rattle.std.specs.FinMap.Entries.{below_all, find, is_sorted, same_entries}
pub use Rattle.std.specs.List.{AllByRecursion, flat_map, list_all}
unfoldable pub use Rattle.std.specs.List.Sorted.{IsStrictlySortedBy}
pub use Rattle.std.specs.Map.{keys_of}
pub use Rattle.std.specs.Ordering.{is_eq, match_ordering, nat_cmp}
pub use Rattle.std.specs.Prelude.{T}
pub use Rattle.std.specs.Str.{is_utf8}
pub use Rattle.std.specs.Str.Parse.{digits_value}
pub use Rattle.bcs_registry_json.proofs.Choices.{has_number, has_sizes, insert_all, insert_rises, insert_shown, numbered_below, texts_differ, variant_shown}
pub use Rattle.bcs_registry_json.proofs.FormatText.{word_written}
pub use Rattle.bcs_registry_json.proofs.RisingMembers.{IsRising, MembersRising, names_of, NamesRise, read_rising}
pub use Rattle.bcs_registry_json.proofs.TwoTests.{and-true_parts, or-true_right}
pub use Rattle.bcs_registry_json.proofs.VariantNumbers.{a_number}
pub use Rattle.bcs_registry_json.specs.Json.{IsJson, IsNotJson}
pub use Rattle.bcs_registry_json.specs.Parts.{IsContainerText, IsFieldsText, IsFieldText, IsPayloadText, IsTupleText, IsVariantsText, IsVariantText}
pub use Rattle.bcs_registry_json.specs.Shaped.{all_containers, all_fields, all_variants, are_fields, are_formats, are_variants, is_container, is_field, is_format, is_map, is_payload, is_registry, is_size, is_text, is_tuple, is_tuple_array, is_variant, is_variant_number}
pub use Rattle.bcs_registry_json.specs.Shown.{shown_choices, shown_container, shown_containers, shown_format, shown_formats, shown_payload, shown_registry, shown_struct, single}
pub use Rattle.bcs_registry_json.specs.Text.{IsFormatText, IsRegistryText, WritesFormat, WritesRegistry}
pub use Rattle.bcs_registry_model.proofs.FirstFaults.{fault_exactly, ok_exactly}
pub use Rattle.bcs_registry_model.proofs.GrowthLaws.{growth_keeps_admitting_holds}
pub use Rattle.bcs_registry_model.proofs.KnownNames.{admits_both, is_known_there}
pub use Rattle.bcs_registry_model.proofs.Lookup.{find-container, map-copied}
pub use Rattle.bcs_registry_model.proofs.Ranges.{enums_rise}
pub use Rattle.bcs_registry_model.proofs.WordsBack.{word_named}
pub use Rattle.bcs_registry_model.specs.Breaks.{Breaks, FormatBreaks}
pub use Rattle.bcs_registry_model.specs.Container.{Choice, Container, container_at, Entries, enumeration, Field, field_struct, newtype_struct, Payload, tuple_struct, unit_struct}
pub use Rattle.bcs_registry_model.specs.Growing.{growth_fault}
pub use Rattle.bcs_registry_model.specs.Ranges.{all_sizes_fit, container_sizes_fit, IsInRange, numbers_fit, NumbersRise, payload_sizes_fit, sizes_fit}
pub use Rattle.bcs_registry_model.specs.Shape.{array, map, map as map_of, name, no_shapes, option, seq, Shape, shape, Shapes, tuple, unit}
pub use Rattle.bcs_registry_model.specs.View.{container_of, entries_of, shape_of}
pub use Rattle.bcs_registry_model.specs.WellFormed.{Admits, container_formats, formats, has_few_levels, is_known, IsWellFormed, level_limit, levels, levels_hold, names_differ, names_known, payload_formats, shape_list, shapes_levels}
pub use Rattle.bcs_registry_model.specs.Words.{format_named}
pub use Rattle.bcs_registry_model.specs.declared.fault.RegistryFault.{RegistryFault}
pub use Rattle.bcs_registry_model.specs.declared.fault.RegistryFault.TheVariants.{BadNumber, BadShape, NotJson, OutOfMemory, RepeatedName, TooNested, UnknownName}
pub use Rattle.serde_json.proofs.Views.{get_member-put, get_member-put_other}
pub use Rattle.serde_json.specs.Data.{Data, depth, item, Items, items_depth, array as list, member, Members, members_depth, no_items, no_members, number, object, put, string, unsigned as whole}
pub use Rattle.serde_json.specs.Find.{get_member}
pub use Rattle.serde_json.specs.Read.{max_depth, read}
pub use Rattle.serde_json.specs.View.{view}
pub use Rattle.serde_json.specs.Written.{compact_text, has_float, items_have_float, members_have_float}
pub use Rattle.bcs_registry.specs.Faults.{IsLeastFault, IsLeastFormatFault}
pub use Rattle.bcs_registry.specs.TextLaws.{FormatOrFault, OneFault, OneFormat, OneFormatFault, OneRegistry, RegistryOrFault, SomeFormat, SomeRegistry}
