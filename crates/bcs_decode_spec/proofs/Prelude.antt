-- What the proofs use from other crates, and from this crate's definitions.
pub use Rattle.std.proofs.Common.{[], ap, append_assoc, ap₂, arith, Bool, Bor, codes, drop, Err, false, get_or, if◌then◌else◌, inl, inr, is_some, length, List, map, max, nat_le, nat_lt, None, Ok, Option, option_map, refl, Result, Some, subst, suc, sym, take, true, zero, ℕ, ℤ, ◌&&◌, ◌++◌, ◌+◌, ◌-◌, ◌<◌, ◌==◌, ◌^◌, ◌∙◌, ◌∷◌, ◌≡◌, ◌≢◌, ◌≤◌, ◌⊎◌}
pub use Rattle.std.proofs.Math.Nat.{le-max_left, le-max_right, max-le}
pub use Rattle.std.proofs.lemmas.Bool.{and_from, and_parts, cases_Bool, cases_eq, cases_lt, eq-eqb, false≢true, le-leb, le-ltb, leb-true, lt-ltb, ltb-true}
pub use Rattle.std.proofs.lemmas.List.{append-nil, drop_at, drop_more, length-append, length-take, take-append-drop, take_all, take_at}
pub use Rattle.std.proofs.lemmas.List.Elements.{All-cons, All-head, All-nil, All-tail}
pub use Rattle.std.specs.Cmp.Lexicographic.{slice_cmp}
pub use Rattle.std.specs.Int.{byte_len, cast_signed, from_le_bytes, w16, w8, Width}
pub use Rattle.std.specs.Option.{option_map_or}
pub use Rattle.std.specs.Ordering.{match_ordering, nat_cmp}
pub use Rattle.std.specs.Str.{is_utf8}
pub use Rattle.std.specs.Str.Lossy.{utf8_valid_len}
pub use Rattle.std.specs.declared.cmp.Ordering.{Ordering}
pub use Rattle.std.specs.declared.cmp.Ordering.TheVariants.{Equal, Greater, Less}
pub use Rattle.bcs_encode_spec.proofs.BelowLaws.{below_greater, below_less, less_below, order, same_equal}
pub use Rattle.bcs_encode_spec.proofs.FormLaws.{has_one_form}
pub use Rattle.bcs_encode_spec.proofs.Growth.{keeps_bytes, keeps_order, keeps_soundness}
pub use Rattle.bcs_encode_spec.proofs.SoundForms.{canonical_distinct}
pub use Rattle.bcs_encode_spec.specs.Canonical.{AllCanonical, Below, EachCanonical, IsCanonical, PairsCanonical, Rises, RisesFrom}
pub use Rattle.bcs_encode_spec.specs.Encodes.{Encodes}
pub use Rattle.bcs_encode_spec.specs.Lengths.{all_hold, each_holds, length_limit, lengths_hold, pairs_hold}
pub use Rattle.bcs_encode_spec.specs.Plain.{plain, plain_each, plain_items, plain_pairs, truth_byte}
pub use Rattle.bcs_encode_spec.specs.Sound.{IsSoundAt}
pub use Rattle.bcs_num.proofs.LeReading.{signed_number, signed_read, signed_written, unsigned_read, unsigned_written}
pub use Rattle.bcs_num.proofs.Ranges.{holds_signed-is, is-holds_signed}
pub use Rattle.bcs_num.proofs.UlebReading.{number_at, number_at_fault, number_at_is_fault, number_at_is_number, number_at_number, number_from}
pub use Rattle.bcs_num.specs.Le.{IsSigned, IsUnsigned, le, le_signed, width_of}
pub use Rattle.bcs_num.specs.Uleb.{IsLongForm, IsTooLarge, uleb}
pub use Rattle.bcs_num.specs.declared.fault.NumFault.{NumFault}
pub use Rattle.bcs_num.specs.declared.width.Width.{Width as NumberWidth}
pub use Rattle.bcs_num.specs.declared.width.Width.TheVariants.{W1, W16, W2, W4, W8}
pub use Rattle.bcs_registry_model.proofs.Admitted.{choice_at-inside, content_at-inside}
pub use Rattle.bcs_registry_model.proofs.KindShapes.{shape_seen}
pub use Rattle.bcs_registry_model.proofs.GrowthLaws.{choice_at-grows, content_at-grows, HasChoices, StaysIn}
pub use Rattle.bcs_registry_model.specs.Container.{Choice, choice_at, choice_numbered, Container, container_at, Content, content, content_at, Entries, enumeration, field_shapes, field_struct, newtype, newtype_struct, nothing, of, one_of, Payload, payload_shape, tuple_struct, unit, unit_struct}
pub use Rattle.bcs_registry_model.specs.Grows.{Grows}
pub use Rattle.bcs_registry_model.specs.Kind.{scalar_shape}
pub use Rattle.bcs_registry_model.specs.Shape.{no_shapes, Shape, shape, Shapes}
pub use Rattle.bcs_registry_model.specs.View.{container_of, field_of, formats_shapes, shape_of}
pub use Rattle.bcs_registry_model.specs.WellFormed.{are_known, has_few_levels, is_known, IsWellFormed, levels, shapes_levels}
pub use Rattle.bcs_registry_model.specs.Whole.{whole_len, whole_shape}
pub use Rattle.bcs_registry_model.specs.declared.format.Format.{Format}
pub use Rattle.bcs_registry_model.specs.declared.integer_kind.IntegerKind.{IntegerKind}
pub use Rattle.bcs_registry_model.specs.declared.integer_kind.IntegerKind.TheVariants.{Signed, Unsigned}
pub use Rattle.bcs_registry_model.specs.declared.named.Named.{Named}
pub use Rattle.bcs_registry_model.specs.declared.scalar.Scalar.{Scalar}
pub use Rattle.bcs_value_model.proofs.Equivalence.{nat-same, same-refl}
pub use Rattle.bcs_value_model.proofs.VariantFits.{number_fits, payload_fits}
pub use Rattle.bcs_value_model.specs.Fits.{all_fit, are_bytes, each_fits, fits, pairs_fit}
pub use Rattle.bcs_value_model.specs.Limits.{Bounds}
pub use Rattle.bcs_value_model.specs.Same.{Same}
pub use Rattle.bcs_value_model.specs.Tree.{count, depth, no_pairs, no_trees, nodes, pair, pair_count, Pairs, pairs_depth, pairs_nodes, Tree, tree, Trees, trees_depth, trees_nodes}
pub use mir.Val.{bits}
pub use Rattle.bcs_decode_spec.specs.Accepting.{Accepts, IsDecodable, IsDecoded}
pub use Rattle.bcs_decode_spec.specs.Exact.{AreBytes, Exact, Reads}
pub use Rattle.bcs_decode_spec.specs.Laws.{AcceptedIsEncoded, AcceptsOnce, EncodedIsAccepted, ExactDecoding, GrowthKeepsAccepting, GrowthKeepsStops, GrowthKeepsStopsAll, NoTwoVerdicts, NoTwoVerdictsOfAll, SomeVerdict, SomeVerdictOfAll, StopsAllOnce, StopsOnce, VerdictIsStable}
pub use Rattle.bcs_decode_spec.specs.Reading.{building, follow, Making, number_read, Parser, Read, read_value, shifted, skip_value, skipping, uleb_from}
unfoldable pub use Rattle.bcs_decode_spec.specs.Reading.{bytes_here, chain, choice_here, content_here, each_here, fail, fail_here, flag_here, give, items_here, key_after, key_here, length_here, named_here, node, number_here, option_here, pairs_here, shape_here, signed_here, text_here, unsigned_here, value_here, variant_here}
pub use Rattle.bcs_decode_spec.specs.Stopping.{AfterLength, AllAre, AllRise, BytesStop, ChoiceStop, ContentStop, EachStop, EntryStop, FailStop, FlagStop, Follows, ItemsStop, last_key, LengthStop, Misplaced, NamedStop, NodeStop, NumberStop, OptionStop, PairsStop, ShapeStop, Stopping, Stops, StopsAll, TextStop, VariantStop}
pub use Rattle.bcs_decode_spec.specs.declared.reason.Reason.{Reason}
pub use Rattle.bcs_decode_spec.specs.declared.reason.Reason.TheVariants.{BadBool, BadOption, BadUtf8, EndOfInput, KeyOrder, KeyRepeated, LengthTooLarge, LongForm, NumberTooLarge, TooDeep, TooManyNodes, TrailingBytes, UnknownVariant, Unsupported}
pub use Rattle.bcs_decode_spec.specs.Steps.{node_here, skip}
unfoldable pub use Rattle.bcs_decode_spec.specs.Steps.{bytes_past, counted_here, enter_here, flag_past, text_past, truth_here, unsupported_here, variant_past, whole_here}
