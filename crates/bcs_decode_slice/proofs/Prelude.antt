-- Names from other crates and from this crate's definitions that the proofs share.
pub use Rattle.std.proofs.Common.{[], ap, arith, Bool, drop, Err, false, if◌then◌else◌, inl, inr, IsUtf8, length, List, map, max, mul-le-mul_right, None, Ok, refl, Result, rules, subst, suc, sym, take, true, zero, ℕ, ◌*◌, ◌++◌, ◌+◌, ◌-◌, ◌/◌, ◌<◌, ◌^◌, ◌∙◌, ◌≡◌, ◌≤◌, ◌⊎◌}
pub use Rattle.std.proofs.Math.Nat.{le-div_iff_mul-le, suc-mul}
pub use Rattle.std.proofs.lemmas.Bool.{le-ltb, lt-ltb}
pub use Rattle.std.proofs.lemmas.Grind.{common_steps}
pub use Rattle.std.proofs.lemmas.List.{drop-drop, drop_all, length-drop, length-take, take-append-drop}
pub use Rattle.std.proofs.lemmas.Option.{IfSome_then}
pub use Rattle.std.proofs.lemmas.Result.{err_from_is_err_and}
pub use Rattle.std.proofs.lemmas.Str.{is_utf8-from_IsUtf8, IsUtf8-from_is_utf8}
pub use Rattle.std.specs.Str.{is_utf8}
pub use Rattle.std.specs.Str.Lossy.{utf8_valid_len}
pub use Rattle.bcs_decode_spec.proofs.LookedUp.{choice_found, choice_missing, content_found, content_missing, field_levels_in, fields_next, formats_next, levels_in}
pub use Rattle.bcs_decode_spec.proofs.Numbers.{exact_number}
pub use Rattle.bcs_decode_spec.specs.Reading.{follow, number_here, Parser, Read, skipping}
unfoldable pub use Rattle.bcs_decode_spec.specs.Reading.{bytes_here, chain, choice_here, fail, fail_here, give, items_here, named_here, node, pairs_here, shape_here, text_here, value_here}
pub use Rattle.bcs_decode_spec.specs.declared.reason.Reason.{Reason}
pub use Rattle.bcs_decode_spec.specs.declared.reason.Reason.TheVariants.{BadUtf8, EndOfInput, LongForm, NumberTooLarge, TooManyNodes, UnknownVariant}
pub use Rattle.bcs_decode_spec.specs.declared.stop.Stop.{Stop}
pub use Rattle.bcs_key_order.specs.Following.{key_bytes}
pub use Rattle.bcs_num.specs.Uleb.{IsLongForm, IsTooLarge, IsUnended, uleb}
pub use Rattle.bcs_registry_model.proofs.Admitted.{choice_at-inside, content_at-inside}
pub use Rattle.bcs_registry_model.proofs.FieldRows.{fields_row}
pub use Rattle.bcs_registry_model.proofs.KindShapes.{shape_seen}
pub use Rattle.bcs_registry_model.specs.Container.{Choice, choice_at, Content, content, content_at, Entries, field_shapes, nothing, of, one_of, payload_shape}
pub use Rattle.bcs_registry_model.specs.Layout.{content_seen, layout_shape, row_formats}
pub use Rattle.bcs_registry_model.specs.Shape.{array as array_shape, name as name_shape, Shape, Shapes, tuple as tuple_shape, unit as unit_shape}
pub use Rattle.bcs_registry_model.specs.View.{choice_of, container_of, field_of, formats_shapes, payload_of, shape_of}
pub use Rattle.bcs_registry_model.specs.WellFormed.{levels, shapes_levels}
pub use Rattle.bcs_decode_slice.specs.Fixed.{GoesPast, IsFixed, IsFixedInside}
pub use Rattle.bcs_decode_spec.specs.Steps.{node_here, skip}
pub use Rattle.bcs_decode_slice.specs.Passing.{Onward, Passes}
unfoldable pub use Rattle.bcs_decode_spec.specs.Steps.{bytes_past, chosen_here, opened_here, text_past, truth_here, unsupported_here, variant_past, whole_here}
pub use Rattle.bcs_decode_slice.specs.declared.cursor.Cursor.{Cursor}
