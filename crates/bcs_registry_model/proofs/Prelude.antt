-- What the proofs use from other crates, and from this crate's definitions.
pub use Rattle.std.proofs.Common.{[], All, ap, arith, Bool, Bor, Box, cond, drop, Err, false, get_or, Global, inl, inr, is_some, IsTrue, length, Less, List, map, None, not, Ok, Option, option_map, Ordering, refl, Result, rules, Some, String, string_bytes, subst, sym, true, Vec, ℕ, ◌&&◌, ◌*◌, ◌++◌, ◌+◌, ◌<◌, ◌==◌, ◌||◌, ◌↔◌, ◌∙◌, ◌∷◌, ◌≡◌, ◌≢◌, ◌≤◌, ◌⊎◌}
pub use Rattle.std.proofs.Math.Bool.{and-false, and-true}
pub use Rattle.std.proofs.lemmas.Bool.{and_from, and_parts, false≢true, leb-true, true≢false}
pub use Rattle.std.proofs.lemmas.Bool.Decides.{Decides-eqb}
pub use Rattle.std.proofs.lemmas.Cmp.{nat_list_eq_equiv}
pub use Rattle.std.proofs.lemmas.List.{drop_more}
pub use Rattle.std.proofs.lemmas.List.Elements.{All-cons, All-head, All-nil, All-tail}
pub use Rattle.std.proofs.lemmas.List.Folds.{list_all-append}
pub use Rattle.std.proofs.lemmas.Map.Text.{btree_map_updates_text, is_eq-slice_cmp}
pub use Rattle.std.proofs.lemmas.Option.{none-some, same_Some}
pub use Rattle.std.proofs.lemmas.Slice.Eq.{bytes_eq-Decides}
pub use Rattle.std.specs.BTreeMap.{BTreeMap, get_by_text, is_at, Updates}
pub use Rattle.std.specs.BTreeSet.{BTreeSet, contains_by}
pub use Rattle.std.specs.Cmp.Lexicographic.{slice_cmp}
pub use Rattle.std.specs.Cmp.Rules.{comparing}
pub use Rattle.std.specs.Int.{w128, w16, w32, w64, w8, Width}
pub use Rattle.std.specs.List.{AllByRecursion, flat_map, list_all, list_any}
unfoldable pub use Rattle.std.specs.List.Sorted.{IsStrictlySortedBy}
pub use Rattle.std.specs.Map.{keys_of, lookup, values_of}
pub use Rattle.std.specs.Option.{option_copied, option_map_or, option_or}
pub use Rattle.std.specs.Ordering.{is_eq, nat_cmp}
pub use Rattle.std.specs.Prelude.{nat_le}
pub use Rattle.std.specs.Result.{IsErrOf, IsOk, result_err}
pub use Rattle.std.specs.Str.{bytes_eq}
pub use Rattle.std.specs.String.{string_cmp}
pub use Rattle.bcs_registry_model.specs.Container.{Choice, choice_at, choice_numbered, Container, container_at, Content, content, content_at, Entries, enumeration, Field, field_shapes, field_struct, newtype_struct, nothing, number_called, of, one_of, Payload, payload_shape, tuple_struct, unit_struct, variant_number}
pub use Rattle.bcs_registry_model.specs.Equality.{same_fields, same_payload, same_shape, same_shapes, same_struct, same_unsupported, same_variant, same_width}
pub use Rattle.bcs_registry_model.specs.Growing.{choice_fault, container_fault, entry_fault, fault_unless, first_fault, growth_fault}
pub use Rattle.bcs_registry_model.specs.Grows.{BreaksTo, Grows, GrowsTo, HasChoice, HasContainer, IsFirst, IsFirstGrowthFault, LacksChoice, LacksContainer}
pub use Rattle.bcs_registry_model.specs.Kind.{kind_shape}
pub use Rattle.bcs_registry_model.specs.Laws.{GrowthKeepsAdmitting}
pub use Rattle.bcs_registry_model.specs.Ranges.{IsInRange, NumbersRise}
pub use Rattle.bcs_registry_model.specs.Rules.{keeps}
pub use Rattle.bcs_registry_model.specs.Shape.{array, bytes, character, float32, float64, name, no_shapes, option, seq, Shape, shape, Shapes, signed, text, truth, tuple, unit, unsigned, Unsupported, unsupported}
pub use Rattle.bcs_registry_model.specs.View.{choice_of, container_of, entries_of, field_of, formats_shapes, payload_of, shape_of}
pub use Rattle.bcs_registry_model.specs.WellFormed.{Admits, admits, are_distinct, are_known, container_formats, container_names, formats, has_few_levels, is_known, IsWellFormed, levels, levels_hold, name_lists, names_differ, names_known, payload_formats, payload_names, shape_list, shapes_levels}
pub use Rattle.bcs_registry_model.specs.Words.{format_named}
unfoldable pub use Rattle.bcs_registry_model.specs.Words.{word_of}
pub use Rattle.bcs_registry_model.specs.declared.container.Container.TheVariants.{Enum, NewTypeStruct, Struct, TupleStruct, UnitStruct}
pub use Rattle.bcs_registry_model.specs.declared.format.Format.{Format, the_lemmas, TypeName}
pub use Rattle.bcs_registry_model.specs.declared.growth_fault.GrowthFault.{GrowthFault}
pub use Rattle.bcs_registry_model.specs.declared.growth_fault.GrowthFault.TheVariants.{Changed, Missing, VariantChanged, VariantMissing}
pub use Rattle.bcs_registry_model.specs.declared.kind.Kind.{Kind}
pub use Rattle.bcs_registry_model.specs.declared.named.Named.{Named}
pub use Rattle.bcs_registry_model.specs.declared.variant_format.VariantFormat.{VariantFormat}
