-- What the proofs use from other crates, and from this crate's definitions.
pub use Rattle.std.proofs.Common.{[], ap, append-nil, append_assoc, ap₂, arith, Bool, bytes_eq, codes, decimal, drop, Equal, false, get_or, Global, Greater, IfOk, if◌then◌else◌, length, Less, List, map, nat_cmp, nat_le, nat_lt, None, Option, option_and_then, option_map, Ordering, refl, Result, rules, Some, String, string_bytes, string_cmp, subst, suc, sym, take, true, Vec, zero, ℕ, ◌&&◌, ◌*◌, ◌++◌, ◌+◌, ◌-◌, ◌<◌, ◌^◌, ◌||◌, ◌∙◌, ◌∷◌, ◌≡◌, ◌≤◌}
pub use Rattle.std.proofs.lemmas.Bool.Decides.{Decides-ltb}
pub use Rattle.std.proofs.lemmas.Cmp.{nat_cmp_total, nat_list_cmp_total, ranked, tied_itself}
pub use Rattle.std.proofs.lemmas.Fmt.{decimal_injective, decimal_is_IsNumeral}
pub use Rattle.std.proofs.lemmas.List.{drop_all, map-append, take_all, take_more}
pub use Rattle.std.proofs.lemmas.List.Folds.{list_all-append}
pub use Rattle.std.proofs.lemmas.Map.Text.{is_eq-slice_cmp}
pub use Rattle.std.proofs.lemmas.Result.{err_from_is_err_and}
pub use Rattle.std.proofs.lemmas.Slice.Eq.{bytes_eq-Decides}
pub use Rattle.std.specs.BTreeMap.{insert_entry}
pub use Rattle.std.specs.BTreeSet.{insert_key}
pub use Rattle.std.specs.Cmp.{IsTotalOrder}
pub use Rattle.std.specs.Cmp.Lexicographic.{slice_cmp}
pub use Rattle.std.specs.List.{AllByRecursion, list_all}
unfoldable pub use Rattle.std.specs.List.Sorted.{IsStrictlySortedBy}
pub use Rattle.std.specs.Map.{keys_of}
pub use Rattle.std.specs.Option.{ok_or}
pub use Rattle.std.specs.Ordering.{is_eq, match_ordering, ordering_reverse}
pub use Rattle.std.specs.Str.Parse.{digits_value}
pub use Rattle.bcs_registry_model.proofs.Rising.{all_push, below_later, names_rise, numbers_rise, Stored, Variant}
pub use Rattle.bcs_registry_model.specs.Container.{Choice, Entries, Field, Payload}
pub use Rattle.bcs_registry_model.specs.Ranges.{all_sizes_fit, IsInRange, IsOrderly, payload_sizes_fit, sizes_fit}
pub use Rattle.bcs_registry_model.specs.Shape.{Shape}
pub use Rattle.bcs_registry_model.specs.View.{choice_of, container_of, entries_of, field_of, formats_shapes, payload_of, shape_of}
pub use Rattle.bcs_registry_model.specs.WellFormed.{levels, shapes_levels}
pub use Rattle.bcs_registry_model.specs.Words.{format_named, format_words, word_among}
unfoldable pub use Rattle.bcs_registry_model.specs.Words.{word_of}
pub use Rattle.bcs_registry_model.specs.declared.container.Container.{Container}
pub use Rattle.bcs_registry_model.specs.declared.fault.RegistryFault.{RegistryFault}
pub use Rattle.bcs_registry_model.specs.declared.fault.RegistryFault.TheVariants.{BadNumber, BadShape, NotJson, OutOfMemory, RepeatedName, TooNested, UnknownName}
pub use Rattle.bcs_registry_model.specs.declared.format.Format.{Format}
pub use Rattle.bcs_registry_model.specs.declared.named.Named.{Named}
pub use Rattle.bcs_registry_model.specs.declared.variant_format.VariantFormat.{VariantFormat}
pub use Rattle.json.proofs.Grammar.{items_end, items_more, members_end, members_more, read_key-shorter, value-begin_array, value-begin_object, value_is}
pub use Rattle.json.specs.Json.{after_end_array, if_last, items, Json, members, Parse, parse_map, read_key, value}
pub use Rattle.json.specs.Lex.{tokens}
pub use Rattle.json.specs.Reads.{token_of}
pub use Rattle.json.specs.Token.{Token}
pub use Rattle.serde_json.proofs.Numbers.{number_of-decimal}
pub use Rattle.serde_json.proofs.Views.{Entry, members_view-insert_entry, put_last, view-Array, view-Object}
pub use Rattle.serde_json.specs.Data.{array, boolean, Data, depth, item, Items, items_depth, member, Members, members_depth, no_items, no_members, null, number, object, put, string, unsigned}
pub use Rattle.serde_json.specs.Read.{converted, max_depth, number_of, of_items, of_json, of_members, read}
pub use Rattle.serde_json.specs.View.{items_of, items_view, members_view, number_view, view}
pub use Rattle.serde_json.specs.declared.value.Value.{Array, Null, Number, the_lemmas, Value}
pub use Rattle.bcs_registry_json.specs.Parts.{IsContainerText, IsFaultBy, IsFieldsText, IsTupleText, IsVariantsText, IsVariantText}
pub use Rattle.bcs_registry_json.specs.Shaped.{all_containers, all_fields, all_variants, are_fields, are_formats, are_variants, is_container, is_field, is_format, is_map, is_registry, is_size, is_tuple, is_tuple_array, is_variant, is_variant_number}
pub use Rattle.bcs_registry_json.specs.Shown.{shown_choices, shown_container, shown_containers, shown_format, shown_formats, shown_payload, shown_registry, shown_struct, single}
pub use Rattle.bcs_registry_json.specs.Text.{IsFormatText, IsRegistryText}
