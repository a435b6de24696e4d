-- Names from other crates and from this crate's definitions that the proofs share.
pub use Rattle.std.proofs.Common.{[], ap, arith, Bool, codes, cond, decimal, drop, Equal, Err, false, get_or, Global, Greater, IfOk, IsUtf8, length, Less, List, map, max, nat_cmp, negsuc, None, not, Ok, Option, option_and_then, option_map, Ordering, pos, refl, replicate, Result, rules, set, slice_get, Some, string_bytes, subst, suc, sym, true, Vec, zero, ℕ, ℤ, ◌*◌, ◌++◌, ◌+◌, ◌-◌, ◌<◌, ◌==◌, ◌^◌, ◌∙◌, ◌∷◌, ◌≡◌, ◌≤◌, append-nil, take, IfErr, length-append, ◌&&◌}
pub use Rattle.std.proofs.lemmas.Bool.{and_parts, not-true, or_parts, or_from}
pub use Rattle.std.proofs.lemmas.Bool.Decides.{Decides-eqb}
pub use Rattle.std.proofs.lemmas.Int.{to_z-of_z}
pub use Rattle.std.proofs.lemmas.List.{drop_all, drop_more}
pub use Rattle.std.proofs.lemmas.Map.Text.{is_eq-slice_cmp}
pub use Rattle.std.proofs.lemmas.Option.{none-some, slice_get-get_or}
pub use Rattle.std.proofs.lemmas.Slice.Eq.{bytes_eq-Decides}
pub use Rattle.std.specs.Bool.{OnTrue}
pub use Rattle.std.specs.Prelude.{if◌then◌else◌}
pub use Rattle.std.specs.Cmp.Lexicographic.{slice_cmp}
pub use Rattle.std.specs.Fmt.{signed_decimal}
pub use Rattle.std.specs.Int.{w128, w64, Width}
pub use Rattle.std.specs.List.{list_all, list_any}
pub use Rattle.std.specs.Option.{option_map_or}
pub use Rattle.std.specs.Ordering.{is_eq, match_ordering}
pub use Rattle.std.specs.Prelude.{⊤, IfSome, All, OnOk, ◌≢◌}
pub use Rattle.std.specs.Str.{bytes_eq}
pub use Rattle.bcs_json_reader.proofs.Called.{differ, lacks_called, stands_called}
pub use Rattle.bcs_json_reader.proofs.Formats.{field_levels_here, levels_here}
pub use Rattle.bcs_json_reader.proofs.Levels.{container_found, newtype_levels, struct_levels, tuple_levels, variant_levels}
pub use Rattle.bcs_json_reader.proofs.PairRows.{joined_pairs}
pub use Rattle.bcs_json_reader.proofs.Rows.{byte_more, joined, joined-none, row_more, row_fault}
pub use Rattle.bcs_json_reader.proofs.Texts.{text_read, view_string}
pub use Rattle.bcs_json_reader.proofs.Whole.{signed_told, tree_signed, tree_unsigned, unsigned_told, widen, unsigned_refused, signed_refused}
pub use Rattle.bcs_json_reader.specs.Leaf.{read_leaf}
pub use Rattle.bcs_json_spec.proofs.DistinctVariants.{container_distinct, payload_distinct}
pub use Rattle.bcs_json_spec.proofs.Exact.{when_true}
pub use Rattle.bcs_json_spec.proofs.Fitting.{and_left, and_right, called_numbered}
pub use Rattle.bcs_json_spec.proofs.TextOutcomes.{read_is_spelled}
pub use Rattle.bcs_json_spec.specs.Bytes.{byte_trees, is_byte}
pub use Rattle.bcs_json_spec.specs.JsonContent.{json_content, json_content_at, JsonContent, nothing, of, payload_content}
pub use Rattle.bcs_json_spec.specs.Look.{item_count, shape_count, without}
pub use Rattle.bcs_json_spec.specs.Numbers.{SpellsWhole}
pub use Rattle.bcs_json_spec.specs.Reading.{follow, Read, read_all, read_array, read_byte_text, read_choice, read_data, read_each, read_end, read_enum, read_fields, read_map, read_member, read_named, read_option, read_pair, read_pairs, read_part, read_seq, read_shape, read_struct, read_text, read_word, sized, unit_variant, read_unit, read_truth, read_bytes}
pub use Rattle.bcs_json_spec.specs.Texts.{SpelledBy}
pub use Rattle.bcs_json_spec.specs.declared.json_fault.JsonFault.TheVariants.{BadShape, BadHex, BadNumber, MissingField, OutOfMemory, TooDeep, UnknownField, Unsupported}
pub use Rattle.bcs_num.specs.Le.{IsSigned, IsUnsigned, width_of}
pub use Rattle.bcs_registry_json.proofs.Turns.{converted-array, converted-object, converted_some, item_read, items_over, member_read, members_over, none_before, whole_read}
pub use Rattle.bcs_registry_model.proofs.KindShapes.{shape_seen}
pub use Rattle.bcs_registry_model.specs.Container.{Choice, choice_called, container_at, Entries, Field, field_shapes, payload_shape}
pub use Rattle.bcs_registry_model.specs.Kind.{scalar_shape}
pub use Rattle.bcs_registry_model.specs.Shape.{Shape, Shapes, tuple as tuple_shape}
pub use Rattle.bcs_registry_model.specs.View.{choice_of, field_of, formats_shapes, payload_of, shape_of}
pub use Rattle.bcs_registry_model.specs.WellFormed.{are_distinct, levels, payload_names, shapes_levels}
pub use Rattle.bcs_registry_model.specs.Whole.{whole_shape}
pub use Rattle.bcs_registry_model.specs.declared.format.Format.{Format}
pub use Rattle.bcs_registry_model.specs.declared.integer_kind.IntegerKind.{IntegerKind}
pub use Rattle.bcs_registry_model.specs.declared.integer_kind.IntegerKind.TheVariants.{Signed, Unsigned}
pub use Rattle.bcs_registry_model.specs.declared.named.Named.{Named}
pub use Rattle.bcs_registry_model.specs.declared.scalar.Scalar.{Scalar}
pub use Rattle.bcs_value_model.proofs.Equivalence.{bytes-refl}
pub use Rattle.bcs_value_model.specs.Limits.{Bounds}
pub use Rattle.bcs_value_model.specs.Tree.{bytes, count, items as items_tree, no_pairs, no_trees, pair, Pairs, Tree, tree, Trees}
pub use Rattle.bcs_value_model.specs.View.{entries_pairs, items_trees, tree_of}
pub use Rattle.bcs_value_model.specs.declared.value.Value.{the_lemmas, Value}
pub use Rattle.json.proofs.Grammar.{left, read_key-shorter, skip_value-shorter, value_is}
pub use Rattle.json.proofs.Nesting.{value-depth}
pub use Rattle.json.specs.Json.{after_end_array, items_step, Json, members_step, Parse, parse_map, read_key, value_with}
unfoldable pub use Rattle.json.specs.Json.{items, members, value}
pub use Rattle.json.specs.Lex.{tokens}
pub use Rattle.json.specs.Reads.{token_of}
pub use Rattle.json.specs.Token.{Token}
pub use Rattle.serde_json.proofs.Numbers.{number_of-decimal, number_of-negative}
pub use Rattle.serde_json.proofs.Views.{get_member-put, get_member-put_other}
pub use Rattle.serde_json.specs.Data.{array, boolean, Data, depth, item, Items, items_depth, member, Members, members_depth, negative, no_items, no_members, null, number, object, put, string, unsigned, Num}
pub use Rattle.serde_json.specs.Find.{get_member}
pub use Rattle.serde_json.specs.Read.{converted, number_of, of_items, of_json, of_members, read}
pub use Rattle.bcs_json_tokens.specs.Tokens.{AreEach, AreItems, AreMembers, CountedRefused, counted_parts, read_counted, IsRead, IsToken, AreRefused, IsOutOfRange, IsRefused, IsRefusedAs, IsStartRefused, IsTokenRefused, IsWay, MembersRefused, IsTextRefused}
pub use Rattle.std.proofs.lemmas.List.Elements.{All-nil}
pub use Rattle.std.specs.Result.{result_err}
pub use Rattle.bcs_json_spec.specs.Place.{PointerStep, JsonPart, Target, part, parts, each_parts, item_parts, field_parts, IsPlaceAmong, IsGood}
pub use Rattle.bcs_json_reader.proofs.Placed.{read_later, placed_here, placed_none, placed_on}
pub use Rattle.bcs_json_spec.proofs.FaultAt.{fault_at}
pub use Rattle.bcs_json_reader.specs.Refused.{steps}
pub use Rattle.bcs_json_reader.specs.declared.refusal.Refusal.{Refusal}
pub use Rattle.bcs_json_reader.specs.declared.refusal.JsonLocation.TheVariants.{Here}
pub use Rattle.bcs_json_spec.specs.declared.json_fault.JsonFault.{JsonFault}
unfoldable pub use Rattle.bcs_json_spec.specs.Reading.{read_unsigned, read_signed}
pub use Rattle.bcs_json_passing.specs.Passing.{alone, AreKept, ArePassed, IfRefused, IsHere, is_count, IsItemsRefusal, IsNamePassed, IsPassed, IsPassedWith, IsRefusal, IsWithin, IsWithinItem, IsWithinOnly, OthersPassed, StartsAs}
pub use Rattle.bcs_json_passing.specs.declared.given_up.GivenUp.{GivenUp}
pub use Rattle.bcs_json_tokens.specs.Slots.{first_empty, first_names, IsFieldRefused, IsNameRefused}
