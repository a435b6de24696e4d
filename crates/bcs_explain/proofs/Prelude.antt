-- Names from other crates and from this crate's definitions that the proofs share.
pub use Rattle.std.proofs.Common.{[], ap, ap₂, arith, Bool, drop, Err, false, if◌then◌else◌, length, List, map, max, nat_lt, None, Ok, Option, refl, Result, rules, subst, suc, sym, take, true, zero, ℕ, ◌*◌, ◌++◌, ◌+◌, ◌-◌, ◌<◌, ◌==◌, ◌^◌, ◌∙◌, ◌∷◌, ◌≡◌, ◌≤◌}
pub use Rattle.std.proofs.Math.Seq.{take-add}
pub use Rattle.std.proofs.lemmas.List.{drop-drop, drop_all, get_or_default, length-drop, length-take-le}
pub use Rattle.std.proofs.lemmas.Result.{err_from_is_err_and}
pub use Rattle.std.specs.Int.{byte_len, cast_signed, from_le_bytes, w8}
pub use Rattle.std.specs.Str.{is_utf8}
pub use Rattle.std.specs.Str.Lossy.{utf8_valid_len}
pub use Rattle.bcs_decode_spec.proofs.PartSteps.{array_on, array_stop, content_nothing, content_past, content_shape, each, each_end, each_on, each_stop, items_end, items_on, items_same, items_stop, list_on, list_stop, map_on, map_stop, named_on, named_past, named_stop, option_none, option_some, option_stop, pairs_end, pairs_on, pairs_stop_key, pairs_stop_value, tuple_on, tuple_stop, variant_on, variant_stop, variant_unknown}
pub use Rattle.bcs_decode_spec.proofs.ScalarSteps.{dropped, unit_is, unsigned_is}
pub use Rattle.bcs_decode_slice.proofs.Passings.{passes_from, passes_here}
pub use Rattle.bcs_decode_slice.proofs.Reaching.{items_reach}
pub use Rattle.bcs_decode_spec.specs.Steps.{node_here, skip}
pub use Rattle.bcs_decode_slice.specs.Passing.{Onward, Passes}
unfoldable pub use Rattle.bcs_decode_spec.specs.Steps.{bytes_past, counted_here, enter_here, flag_past, text_past, unsupported_here, variant_past, whole_here}
pub use Rattle.bcs_decode_slice.specs.declared.cursor.Cursor.{Cursor}
pub use Rattle.bcs_decode_spec.proofs.Combine.{done, follow_ok, halted, parts}
pub use Rattle.bcs_decode_spec.proofs.LookedUp.{choice_found, choice_missing, content_found, content_missing, field_levels_in, fields_next, formats_next, levels_in}
pub use Rattle.bcs_decode_spec.proofs.Scanned.{found_never, found_only, stopped_never, stopped_only}
pub use Rattle.bcs_decode_spec.proofs.Verdicts.{skips_accepts, skips_stops}
pub use Rattle.bcs_decode_spec.specs.Exact.{AreBytes}
pub use Rattle.bcs_decode_spec.specs.Reading.{key_after, number_read, pairs_here, Parser, skipping, uleb_from}
unfoldable pub use Rattle.bcs_decode_spec.specs.Reading.{bytes_here, chain, fail, fail_here, flag_here, give, items_here, key_here, length_here, node, number_here, shape_here, signed_here, text_here, unsigned_here, value_here}
pub use Rattle.bcs_decode_spec.specs.declared.reason.Reason.{Reason}
pub use Rattle.bcs_decode_spec.specs.declared.reason.Reason.TheVariants.{BadUtf8, EndOfInput, LengthTooLarge}
pub use Rattle.bcs_decode_spec.specs.declared.stop.Stop.{Stop}
pub use Rattle.bcs_key_order.specs.Following.{key_bytes}
pub use Rattle.bcs_num.specs.Le.{width_of}
pub use Rattle.bcs_num.specs.declared.fault.NumFault.{NumFault}
pub use Rattle.bcs_registry_model.proofs.Admitted.{choice_at-inside, content_at-inside}
pub use Rattle.bcs_registry_model.proofs.KindShapes.{shape_seen}
pub use Rattle.bcs_registry_model.specs.Container.{choice_at, Content, content, content_at, Entries, field_shapes, nothing as no_content, of, one_of, payload_shape}
pub use Rattle.bcs_registry_model.specs.Kind.{scalar_shape}
pub use Rattle.bcs_registry_model.specs.Shape.{Shape, tuple as tuple_shape}
pub use Rattle.bcs_registry_model.specs.View.{choice_of, container_of, field_of, formats_shapes, payload_of, shape_of}
pub use Rattle.bcs_registry_model.specs.WellFormed.{levels, shapes_levels}
pub use Rattle.bcs_registry_model.specs.declared.container.Container.{Container}
pub use Rattle.bcs_registry_model.specs.declared.format.Format.{Format}
pub use Rattle.bcs_registry_model.specs.declared.integer_kind.IntegerKind.TheVariants.{Signed, Unsigned}
pub use Rattle.bcs_registry_model.specs.declared.scalar.Scalar.{Scalar}
pub use Rattle.bcs_registry_model.specs.declared.variant_format.VariantFormat.{VariantFormat}
pub use Rattle.bcs_explain.specs.Covering.{Covered, Covers, Heard, ReportsAnyStop, ReportsStop, StaysCovered}
pub use Rattle.bcs_explain.specs.ScalarParsing.{scalar_past}
unfoldable pub use Rattle.bcs_explain.specs.ScalarParsing.{discarding, node_and_bytes}
