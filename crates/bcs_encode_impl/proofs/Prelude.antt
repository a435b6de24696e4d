-- Names from other crates and from this crate's definitions that the proofs share.
pub use Rattle.std.proofs.Common.{[], ap, append-nil, append_assoc, ap₂, arith, Bool, Bor, Box, BTreeMap, drop, Err, false, get_or, Global, IfOk, if◌then◌else◌, inl, inr, is_some, IsTrue, le-leb, leb-true, length, length-append, length-drop, List, lt-ltb, map, nat_le, nat_lt, None, not, Ok, Option, option_map, refl, Result, rules, Some, subst, suc, sym, take, true, Vec, vec_capacity, vec_len, ℕ, ℤ, ◌&&◌, ◌*◌, ◌++◌, ◌+◌, ◌-◌, ◌<◌, ◌==◌, ◌^◌, ◌↔◌, ◌∙◌, ◌∷◌, ◌≡◌, ◌≤◌, ◌⊎◌}
pub use Rattle.std.proofs.Math.ListN.{drop_of_length-le}
pub use Rattle.std.proofs.Math.Seq.{drop-append_seam, take-append_seam}
pub use Rattle.std.proofs.lemmas.Bool.{and_from, and_left, and_parts, cases_Bool, eq-eqb, false_from_ne_true, false≢true, lt-leb, ne_eqb, true≢false}
pub use Rattle.std.proofs.lemmas.Grind.{common_steps}
pub use Rattle.std.proofs.lemmas.List.{drop_more, length-map, take_all}
pub use Rattle.std.proofs.lemmas.List.Concat.{length-flat_map}
pub use Rattle.std.proofs.lemmas.List.Sorted.{IsPermutation-cons, IsPermutation-map, IsPermutation-refl, IsPermutation-swap, IsPermutation-sym, IsPermutation-trans, sum_by-IsPermutation}
pub use Rattle.std.proofs.lemmas.Option.{cond_some, none-some, same_Some}
pub use Rattle.std.proofs.lemmas.Str.{is_utf8-from_IsUtf8}
pub use Rattle.std.specs.BTreeMap.{is_at}
pub use Rattle.std.specs.Cmp.Lexicographic.{slice_cmp}
pub use Rattle.std.specs.Int.{w8}
pub use Rattle.std.specs.List.{flat_map}
pub use Rattle.std.specs.List.Sorted.{IsPermutation, IsSortedByKey}
pub use Rattle.std.specs.Map.{lookup}
pub use Rattle.std.specs.Option.{IfSome, option_and_then, option_copied, option_map_or}
pub use Rattle.std.specs.Ordering.{nat_cmp}
pub use Rattle.std.specs.Prelude.{is_ok, OnErr}
pub use Rattle.std.specs.Str.{is_utf8}
pub use Rattle.bcs_encode_spec.proofs.BelowLaws.{Below-is_lt, not_below, order}
pub use Rattle.bcs_encode_spec.proofs.CanonicalForm.{each_form, form_of, items_form}
pub use Rattle.bcs_encode_spec.proofs.EntryOrder.{equal_neighbours_twice, moved, once_moved, rising_alike, rising_once}
pub use Rattle.bcs_encode_spec.proofs.FormOf.{count-items_form}
pub use Rattle.bcs_encode_spec.proofs.Sorting.{equal_neighbours_repeat, form_entries, form_has_bytes, has_bytes_of_form, rise_or_equal_neighbours, sorted_by_bytes, sorted_entries}
pub use Rattle.bcs_encode_spec.specs.Canonical.{Below}
pub use Rattle.bcs_encode_spec.specs.Entries.{EntriesOf, EntriesRise, EntriesRiseFrom, Entry, entry_bytes, HasEqualNeighbours, Keyed, map_bytes}
pub use Rattle.bcs_encode_spec.specs.Lengths.{all_hold, each_holds, length_limit, lengths_hold, pairs_hold}
pub use Rattle.bcs_encode_spec.specs.Plain.{plain, plain_each, plain_items, plain_pairs}
pub use Rattle.bcs_encode_spec.specs.Refused.{IsSoundBesidesKeys}
pub use Rattle.bcs_encode_spec.specs.declared.fault.EncodeFault.{EncodeFault}
pub use Rattle.bcs_encode_spec.specs.declared.fault.EncodeFault.TheVariants.{NotOfFormat, RepeatedKey}
pub use Rattle.bcs_key_order.proofs.EqualNeighbours.{equal_neighbours_found, few_no_equal_neighbours, rising_no_equal_neighbours}
pub use Rattle.bcs_key_order.specs.Order.{has_equal_neighbours, is_below, keys_rise}
pub use Rattle.bcs_key_order.specs.Spans.{lone_key_at, Ordered, part}
pub use Rattle.bcs_key_order.specs.declared.spans.Span.{Span}
pub use Rattle.bcs_num.proofs.LeLaws.{le-w8}
pub use Rattle.bcs_num.proofs.UlebLaws.{uleb-low}
pub use Rattle.bcs_num.specs.Le.{holds_signed, holds_unsigned, le, width_of}
pub use Rattle.bcs_num.specs.Uleb.{uleb}
pub use Rattle.bcs_num.specs.declared.width.Width.{Width}
pub use Rattle.bcs_num.specs.declared.width.Width.TheVariants.{W1}
pub use Rattle.bcs_registry_model.proofs.FormatViews.{shape-Map, shape-Tuple}
pub use Rattle.bcs_registry_model.specs.Container.{choice_at, container_at, Content, content, content_at, Entries, field_shapes, nothing, of, one_of, payload_shape}
pub use Rattle.bcs_registry_model.specs.Shape.{name as name_shape, no_shapes, Shape, shape, Shapes, tuple}
pub use Rattle.bcs_registry_model.specs.View.{choice_of, container_of, field_of, formats_shapes, payload_of, shape_of}
pub use Rattle.bcs_registry_model.specs.Whole.{whole_len, whole_shape}
pub use Rattle.bcs_registry_model.specs.declared.container.Container.{Container}
pub use Rattle.bcs_registry_model.specs.declared.container.Container.TheVariants.{Enum, Struct, TupleStruct}
pub use Rattle.bcs_registry_model.specs.declared.format.Format.{Format, Map, Seq, Tuple, TupleArray}
pub use Rattle.bcs_registry_model.specs.declared.integer_kind.IntegerKind.{IntegerKind}
pub use Rattle.bcs_registry_model.specs.declared.integer_kind.IntegerKind.TheVariants.{Signed, Unsigned}
pub use Rattle.bcs_registry_model.specs.declared.named.Named.{Named}
pub use Rattle.bcs_registry_model.specs.declared.variant_format.VariantFormat.{VariantFormat}
pub use Rattle.bcs_value_model.proofs.FitsByViews.{bytes_are, fits-unsupported}
pub use Rattle.bcs_value_model.proofs.VariantFits.{payload_fits}
pub use Rattle.bcs_value_model.proofs.Views.{tree_of_items, tree_of_pairs, tree_of_signed, tree_of_unsigned}
pub use Rattle.bcs_value_model.proofs.WalkViews.{at_array, at_enum, at_list, at_map, choice-found, choice-missing, count_items, count_pairs}
pub use Rattle.bcs_value_model.specs.Fits.{all_fit, are_bytes, each_fits, fits, pairs_fit}
pub use Rattle.bcs_value_model.specs.Limits.{Bounds}
pub use Rattle.bcs_value_model.specs.Same.{all_distinct, all_pairs, distinct, pairs_distinct, same}
pub use Rattle.bcs_value_model.specs.Tree.{count, depth, items as items_tree, named as named_tree, no_pairs, no_trees, nodes, pair, pair_count, Pairs, pairs_depth, pairs_nodes, pairs as pairs_tree, Tree, tree, Trees, trees_depth, trees_nodes}
pub use Rattle.bcs_value_model.specs.View.{entries_pairs, items_trees, tree_of}
pub use Rattle.bcs_value_model.specs.declared.value.Value.{Items, the_lemmas, Value, Variant}
pub use borrow.Author.Tests.{ltb-true}
pub use mir.Val.{bits}
pub use Rattle.bcs_encode_impl.specs.Appends.{Appends, Continues, Gives, GivesOn, is_complete, is_told, Keeps, rises_after, TakesWhatFits, told, verdict_at}
pub use Rattle.bcs_encode_impl.specs.Held.{HeldBytes}
pub use Rattle.bcs_encode_impl.specs.Laying.{entry_of, span, span_entry}
pub use Rattle.bcs_encode_impl.specs.Validating.{all_validated, each_validated, leaf, less, pairs_validated, validated}
pub use Rattle.bcs_encode_impl.specs.Writing.{chain, each_written, entries_written, in_order, insert_in_order, items_written, length_written, ReportsVerdict, shape_count, unsigned_written, Verdict, written}
unfoldable pub use Rattle.bcs_encode_impl.specs.Writing.{sorted_entries_written}
pub use Rattle.bcs_encode_impl.specs.declared.output.Extent.{Extent}
pub use Rattle.bcs_encode_impl.specs.declared.output.Extent.TheVariants.{Incomplete, Repeated, Rising, Sorting}
pub use Rattle.bcs_encode_impl.specs.declared.output.Output.{Output}
