-- Imports of the proofs: definitions and lemmas of other crates, and definitions of this one.
pub use Rattle.std.proofs.Common.{[], ap, arith, Bor, Box, BTreeMap, drop, Equal, false, get_or, Global, Greater, IfOk, length, Less, List, map, max, nat_le, None, Option, option_map, Ordering, refl, rules, Some, String, string_bytes, subst, suc, sym, true, true≢false, Vec, zero, ℕ, ◌&&◌, ◌*◌, ◌++◌, ◌+◌, ◌-◌, ◌<◌, ◌∙◌, ◌∷◌, ◌≡◌, ◌≤◌}
pub use Rattle.std.proofs.Math.Nat.{max-le}
pub use Rattle.std.proofs.lemmas.Bool.{and_parts}
pub use Rattle.std.proofs.lemmas.Grind.{common_steps}
pub use Rattle.std.proofs.lemmas.List.{drop_all, drop_more}
pub use Rattle.std.proofs.lemmas.Map.Views.{All-values-insert_entry}
pub use Rattle.std.proofs.lemmas.Result.{IfOk-weaker, on_ok_weaker}
pub use Rattle.std.proofs.lemmas.Str.{IsUtf8-string_bytes}
pub use Rattle.std.specs.BTreeMap.{insert_entry, is_at}
pub use Rattle.std.specs.Cmp.Lexicographic.{slice_cmp}
pub use Rattle.std.specs.Int.{w8}
pub use Rattle.std.specs.List.{All, list_all}
pub use Rattle.std.specs.Map.{lookup, values_of}
pub use Rattle.std.specs.Option.{option_copied, option_map_or}
pub use Rattle.std.specs.Ordering.{match_ordering, nat_cmp}
pub use Rattle.bcs_json_spec.proofs.DistinctVariants.{container_distinct, payload_distinct}
pub use Rattle.bcs_json_spec.proofs.Lowest.{put_depth}
pub use Rattle.bcs_json_spec.proofs.Members.{new_field, put_others_depth, put_own_depth}
pub use Rattle.bcs_json_spec.proofs.ReadBack.{bytes_again}
pub use Rattle.bcs_json_spec.proofs.ShownText.{shown_writable}
pub use Rattle.bcs_json_spec.specs.Bytes.{trees_bytes}
pub use Rattle.bcs_json_spec.specs.JsonContent.{json_content, of}
pub use Rattle.bcs_json_spec.specs.Shown.{shown, shown_all, shown_choice, shown_each, shown_fields, shown_pairs}
pub use Rattle.bcs_json_spec.specs.Texts.{IsReadAs}
pub use Rattle.bcs_registry_model.proofs.Lookup.{find-choice}
pub use Rattle.bcs_registry_model.specs.Container.{of as at_format, choice_numbered, Container, content, Entries, enumeration, Field, field_shapes, field_struct, nothing, Payload, payload_shape}
pub use Rattle.bcs_registry_model.specs.Shape.{map as map_shape, no_shapes, option, Shape, unsigned as unsigned_shape}
pub use Rattle.bcs_registry_model.specs.View.{choice_of, container_of, field_of, formats_shapes, payload_of, shape_of}
pub use Rattle.bcs_registry_model.specs.WellFormed.{are_distinct, container_names}
pub use Rattle.bcs_registry_model.specs.declared.container.Container.TheVariants.{Enum, Struct}
pub use Rattle.bcs_registry_model.specs.declared.format.Format.{Format, the_lemmas as format_lemmas, Map, Opt, U8}
pub use Rattle.bcs_registry_model.specs.declared.named.Named.{Named}
pub use Rattle.bcs_registry_model.specs.declared.variant_format.VariantFormat.{VariantFormat}
pub use Rattle.bcs_value_model.proofs.Views.{tree_of_items, tree_of_pairs, tree_of_present, tree_of_variant}
pub use Rattle.bcs_value_model.specs.Fits.{all_fit, are_bytes, each_fits, Fits, fits, pairs_fit}
pub use Rattle.bcs_value_model.specs.Tree.{items, nodes, pairs, pairs_nodes, present, Tree, tree, Trees, trees_nodes, variant}
pub use Rattle.bcs_value_model.specs.View.{entries_pairs, items_trees, tree_of}
pub use Rattle.bcs_value_model.specs.declared.value.Value.{Items, Pairs, Present, the_lemmas, Value, Variant}
pub use Rattle.serde.specs.Event.{Log, Logs, map_begins, seq_begins}
pub use Rattle.serde_json.proofs.FreeTexts.{text_of_value}
pub use Rattle.serde_json.specs.Data.{array, Data, depth, items_depth, member, Members, members_depth, null, object, put}
pub use Rattle.serde_json.specs.Events.{items_len, members_len, SendsItems, SendsMembers, SendsValue}
pub use Rattle.serde_json.specs.Find.{get_member}
pub use Rattle.serde_json.specs.Read.{max_depth, read}
pub use Rattle.serde_json.specs.Sent.{IsTextOf}
pub use Rattle.serde_json.specs.Written.{compact_text}
pub use Rattle.bcs_json_printer.specs.Places.{Ascend, AscendFrom, IsOrder, name_at, name_of, ordered, placed, put_from}
