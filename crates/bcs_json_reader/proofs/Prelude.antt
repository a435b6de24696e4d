-- Names from other crates and from this crate's definitions that the proofs share.
pub use Rattle.std.proofs.Common.{[], All, ap, arith, Bool, Bor, bytes_eq, codes, cond, drop, Err, false, get_or, Global, IfErr, IfOk, IfSome, if◌then◌else◌, is_eq, length, length-append, List, map, max, nat_cmp, negsuc, None, Ok, Option, option_map, pos, refl, Result, reverse, rules, Some, String, string_bytes, subst, suc, sym, true, true≢false, Vec, zero, ℕ, ℤ, ◌*◌, ◌++◌, ◌+◌, ◌==◌, ◌^◌, ◌∙◌, ◌∷◌, ◌≡◌, ◌≢◌, ◌≤◌}
pub use Rattle.std.proofs.lemmas.Bool.{and_parts}
pub use Rattle.std.proofs.lemmas.Bool.Decides.{Decides-eqb, Decides-ltb}
pub use Rattle.std.proofs.lemmas.Grind.{common_steps}
pub use Rattle.std.proofs.lemmas.Int.{to_z-of_z}
pub use Rattle.std.proofs.lemmas.List.{drop_all, drop_more, map-append, nil_from_length, reverse-append}
pub use Rattle.std.proofs.lemmas.List.Elements.{All-nil}
pub use Rattle.std.proofs.lemmas.Map.Text.{is_eq-slice_cmp}
pub use Rattle.std.proofs.lemmas.Result.{err_from_is_err_and}
pub use Rattle.std.proofs.lemmas.Slice.Eq.{bytes_eq-Decides}
pub use Rattle.std.proofs.lemmas.Str.{is_utf8-from_IsUtf8, IsUtf8-string_bytes}
pub use Rattle.std.specs.BTreeMap.{is_at}
pub use Rattle.std.specs.Cmp.Lexicographic.{slice_cmp}
pub use Rattle.std.specs.Int.{w128, Width}
pub use Rattle.std.specs.Map.{lookup, remove_entry}
pub use Rattle.std.specs.Option.{option_copied, option_map_or}
pub use Rattle.std.specs.Result.{result_err}
pub use Rattle.std.specs.Str.{is_utf8}
pub use Rattle.std.specs.Vec.Iter.{into_iter_items}
pub use Rattle.bcs_json_spec.proofs.Exact.{go_on, not_both, when_false, when_true}
pub use Rattle.bcs_json_spec.proofs.FaultAt.{fault_at, good_of, none_of}
pub use Rattle.bcs_json_spec.proofs.Fitting.{called_numbered, numbering_at}
pub use Rattle.bcs_json_spec.proofs.LeafVerdicts.{exact_signed, exact_unsigned}
pub use Rattle.bcs_json_spec.proofs.Numbering.{has_numbering, numbers_differ, numbers_fit, orderly_numbering}
pub use Rattle.bcs_json_spec.proofs.Places.{place-here, place-later}
pub use Rattle.bcs_json_spec.specs.Bytes.{byte_trees, is_byte}
pub use Rattle.bcs_json_spec.specs.JsonContent.{json_content, nothing, of, payload_content}
pub use Rattle.bcs_json_spec.specs.Look.{item_count, shape_count, without}
pub use Rattle.bcs_json_spec.specs.Numbers.{is_signed_of, is_unsigned_of, SpellsWhole, whole_refusal}
pub use Rattle.bcs_json_spec.specs.Place.{array_parts, each_parts, entry, entry_parts, enum_parts, field_parts, IsGood, IsPlaceAmong, item_parts, JsonPart, map_parts, option_parts, pair_parts, part, parts, pointer_step_of, PointerStep, seq_parts, struct_parts, tuple_parts, value}
pub use Rattle.bcs_json_spec.specs.Reading.{follow, Read, read_all, read_array, read_byte_text, read_choice, read_content, read_data, read_each, read_enum, read_fields, read_member, read_named, read_option, read_pair, read_pairs, read_part, read_seq, read_shape, read_text, read_tuple, Reports, sized}
unfoldable pub use Rattle.bcs_json_spec.specs.Reading.{read_hex, read_signed, read_unsigned}
pub use Rattle.bcs_json_spec.specs.declared.json_fault.JsonFault.{JsonFault}
pub use Rattle.bcs_json_spec.specs.declared.json_fault.JsonFault.TheVariants.{BadNumber, BadShape, OutOfMemory}
pub use Rattle.bcs_json_spec.specs.declared.json_step.JsonStep.{JsonStep}
pub use Rattle.bcs_num.proofs.Ranges.{half_most, holds_signed-is, is-holds_signed}
pub use Rattle.bcs_num.specs.Le.{IsSigned, IsUnsigned, width_of}
pub use Rattle.bcs_registry_model.proofs.Admitted.{choice_at-inside, content_at-inside}
pub use Rattle.bcs_registry_model.proofs.KindShapes.{shape_seen}
pub use Rattle.bcs_registry_model.proofs.Lookup.{find-choice}
pub use Rattle.bcs_registry_model.specs.Container.{Choice, choice_called, choice_numbered, Container, container_at, content, content_at, Entries, enumeration, Field, field_shapes, field_struct, newtype, newtype_struct, number_called, Payload, payload_shape, tuple_struct, variant_number}
pub use Rattle.bcs_registry_model.specs.Ranges.{IsOrderly}
pub use Rattle.bcs_registry_model.specs.Shape.{Shape, Shapes, tuple as tuple_shape}
pub use Rattle.bcs_registry_model.specs.View.{choice_of, container_of, field_of, formats_shapes, payload_of, shape_of}
pub use Rattle.bcs_registry_model.specs.WellFormed.{IsWellFormed, levels, shapes_levels}
pub use Rattle.bcs_registry_model.specs.Whole.{whole_shape}
pub use Rattle.bcs_registry_model.specs.declared.format.Format.{Format}
pub use Rattle.bcs_registry_model.specs.declared.named.Named.{Named}
pub use Rattle.bcs_registry_model.specs.declared.variant_format.VariantFormat.{VariantFormat}
pub use Rattle.bcs_value_model.specs.Tree.{count, items, no_pairs, no_trees, pair, Pairs, signed, text, Tree, tree, Trees, unsigned}
pub use Rattle.bcs_value_model.specs.View.{entries_pairs, items_trees, tree_of}
pub use Rattle.bcs_value_model.specs.declared.value.Value.{Signed, the_lemmas, Unsigned, Value}
pub use Rattle.serde_json.proofs.Views.{view-lookup}
pub use Rattle.serde_json.specs.Data.{array, Data, item, Items, member, Members, no_items, no_members, number, object, string}
pub use Rattle.serde_json.specs.Find.{get_member}
pub use Rattle.serde_json.specs.View.{items_view, members_view, view}
pub use Rattle.serde_json.specs.declared.value.Value.{Value as Json, the_lemmas as json_lemmas}
pub use mir.Val.{bits}
pub use Rattle.bcs_json_reader.specs.Kinds.{enum_json, list_json, option_json}
pub use Rattle.bcs_json_reader.specs.Refused.{fault_alone, IsPlaced, location_of, steps}
pub use Rattle.bcs_json_reader.specs.declared.refusal.JsonLocation.TheVariants.{Here}
pub use Rattle.bcs_json_reader.specs.declared.refusal.Refusal.{Refusal}
