-- Names from other crates and from this crate's definitions that the proofs share.
pub use Rattle.std.proofs.Common.{[], ap, append_assoc, arith, Bool, codes, cond, drop, encode_utf8, encode_utf8_all, Err, false, get_or, Global, IfOk, if◌then◌else◌, inl, inr, IsErr, IsErrAnd, IsUtf8, length, length-append, length-drop, length-take, length-take-le, List, map, max, nat_lt, None, Ok, Option, refl, replicate, Result, rules, slice_range, Some, String, string_bytes, subst, suc, sym, take, take-add, take-take, take_all, true, Vec, vec_len, zero, ℕ, ℤ, ◌&&◌, ◌*◌, ◌++◌, ◌+◌, ◌-◌, ◌<◌, ◌==◌, ◌∙◌, ◌∷◌, ◌≡◌, ◌≢◌, ◌≤◌, ◌⊎◌}
pub use Rattle.std.proofs.Math.Nat.{suc-mul}
pub use Rattle.std.proofs.lemmas.Bool.{and_left, and_parts, and_right, cases_lt, false_from_ne_true, le-ltb, lt-ltb, ne_eqb}
pub use Rattle.std.proofs.lemmas.Grind.{common_steps}
pub use Rattle.std.proofs.lemmas.List.{append-nil, drop-drop, drop-take, drop_all, drop_at, length-replicate, map_push, take-append-le, take_at}
pub use Rattle.std.proofs.lemmas.Result.{err_from_is_err_and}
pub use Rattle.std.proofs.lemmas.Str.{is_utf8-from_IsUtf8, IsCharBoundary-from_take, IsUtf8-append, IsUtf8-drop, IsUtf8-from_is_utf8, IsUtf8-nil, len_utf8_bounds, length-encode, utf8_valid_len-IsValidUpTo, utf8_valid_len_le}
pub use Rattle.std.specs.Int.{byte_len, cast_signed, from_le_bytes, w8}
pub use Rattle.std.specs.Io.KnownBytes.{Consumes}
pub use Rattle.std.specs.Map.{lookup}
pub use Rattle.std.specs.Option.{option_map_or}
pub use Rattle.std.specs.Str.{is_utf8, IsValidUpTo}
pub use Rattle.std.specs.Str.Lossy.{utf8_valid_len}
pub use Rattle.bcs_decode_spec.proofs.PartSteps.{chained_bare, content_nothing, content_past, content_shape, each, each_end, each_on, each_stop, items_end, items_on, items_same, items_stop, named_on, named_stop, pairs_end, pairs_on, pairs_stop_key, pairs_stop_value, tuple_on, tuple_stop}
pub use Rattle.bcs_decode_spec.proofs.ScalarSteps.{bare, past_scalar, unit_is}
pub use Rattle.bcs_decode_spec.specs.Steps.{node_here, skip}
unfoldable pub use Rattle.bcs_decode_spec.specs.Steps.{bytes_past, counted_here, enter_here, text_past, truth_here, unsupported_here, whole_here}
pub use Rattle.bcs_decode_spec.proofs.LookedUp.{choice_found, choice_missing, content_found, content_missing, field_levels_in, fields_next, formats_next, levels_in}
pub use Rattle.bcs_decode_spec.specs.Reading.{building, follow, key_after, length_here, Making, number_read, Parser, Read, shifted, skipping, uleb_from}
unfoldable pub use Rattle.bcs_decode_spec.specs.Reading.{bytes_here, chain, choice_here, content_here, each_here, fail, fail_here, flag_here, give, items_here, key_here, named_here, node, number_here, option_here, pairs_here, shape_here, signed_here, text_here, unsigned_here, value_here, variant_here}
pub use Rattle.bcs_decode_spec.specs.declared.decode_fault.DecodeFault.{DecodeFault}
pub use Rattle.bcs_decode_spec.specs.declared.decode_fault.DecodeFault.TheVariants.{OutOfMemory, Read as ReadFault, Stop}
pub use Rattle.bcs_decode_spec.specs.declared.reason.Reason.{Reason}
pub use Rattle.bcs_decode_spec.specs.declared.reason.Reason.TheVariants.{BadUtf8, LongForm, NumberTooLarge, TooDeep, TooManyNodes, UnknownVariant, Unsupported}
pub use Rattle.bcs_num.proofs.LeReading.{byte_len_within}
pub use Rattle.bcs_num.specs.Le.{width_of}
pub use Rattle.bcs_num.specs.declared.fault.NumFault.{NumFault}
pub use Rattle.bcs_registry_model.proofs.Admitted.{choice_at-inside, content_at-inside}
pub use Rattle.bcs_registry_model.proofs.KindShapes.{shape_seen}
pub use Rattle.bcs_registry_model.specs.Container.{Choice, choice_at, Content, content, content_at, Entries, enumeration, field_shapes, field_struct, newtype, newtype_struct, nothing, of, one_of, payload_shape, unit}
pub use Rattle.bcs_registry_model.specs.Kind.{scalar_shape}
pub use Rattle.bcs_registry_model.specs.Shape.{name as name_shape, no_shapes, Shape, shape, Shapes, tuple as tuple_shape}
pub use Rattle.bcs_registry_model.specs.View.{choice_of, container_of, field_of, formats_shapes, payload_of, shape_of}
pub use Rattle.bcs_registry_model.specs.WellFormed.{levels, shapes_levels}
pub use Rattle.bcs_registry_model.specs.Whole.{whole_len, whole_shape}
pub use Rattle.bcs_registry_model.specs.declared.container.Container.{Container}
pub use Rattle.bcs_registry_model.specs.declared.format.Format.{Format}
pub use Rattle.bcs_registry_model.specs.declared.integer_kind.IntegerKind.{IntegerKind}
pub use Rattle.bcs_registry_model.specs.declared.integer_kind.IntegerKind.TheVariants.{Signed, Unsigned}
pub use Rattle.bcs_registry_model.specs.declared.named.Named.{Named}
pub use Rattle.bcs_registry_model.specs.declared.scalar.Scalar.{Scalar}
pub use Rattle.bcs_value_model.specs.Tree.{no_pairs, no_trees, pair, Pairs, Tree, tree, Trees}
pub use Rattle.bcs_value_model.specs.View.{entries_pairs, items_trees, pairs_of, tree_of, trees_of}
pub use Rattle.bcs_value_model.specs.declared.value.Value.{the_lemmas, Value}
pub use lib.Utf8.{scalar, scalars}
pub use Rattle.bcs_decode_source.specs.Kept.{key_of, last_bytes, Stands, Validates}
pub use Rattle.bcs_decode_source.specs.Numbers.{number_of, numbers}
unfoldable pub use Rattle.bcs_decode_source.specs.Past.{bytes_run, text_run}
pub use Rattle.bcs_decode_source.specs.Reaching.{content_has_no_map, has_no_map, have_no_map, named_reaches_no_map, reaches_no_map}
pub use Rattle.bcs_decode_source.specs.Reads.{IsSame, Reads, Ready}
pub use Rattle.bcs_decode_source.specs.Sees.{Along, AlongMap, content_value, FindsFault, GaveFront, Goes, Halts, is_told, leaf_here, Left, named_value, OutOfMemoryOnlyInKey, read, Records, rest_of, Sees, tail_read, takes_no_memory, unit_leaf, unsupported_leaf}
unfoldable pub use Rattle.bcs_decode_source.specs.Sees.{byte_here, container_value, flag_node, items_node, number_node, option_node, pairs_node, row_here, tail_here, tuple_value}
pub use Rattle.bcs_decode_source.specs.Texts.{BeginsNoText}
pub use Rattle.bcs_decode_source.specs.declared.keys.Span.{Span}
pub use Rattle.bcs_decode_source.specs.declared.progress.Progress.{Progress}
pub use Rattle.bcs_decode_source.specs.declared.reader.Reader.{Reader}
