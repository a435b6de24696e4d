-- Names from other crates and from this crate's definitions that the proofs share.
pub use Rattle.std.proofs.Common.{[], All, ap, append-nil, append_assoc, ap₂, arith, Bool, bytes_eq, codes, cond, Contains, Decides, decimal, drop, Equal, Err, false, Float, get_or, Greater, if◌then◌else◌, inl, inr, IsTrue, IsUtf8, length, length-append, Less, List, map, max, nat_cmp, nat_eq, nat_lt, negsuc, None, not, Ok, Option, option_map, Ordering, pos, refl, Result, rules, Some, subst, suc, sym, take, true, true≢false, zero, ℕ, ℤ, ◌&&◌, ◌*◌, ◌++◌, ◌+◌, ◌-◌, ◌<◌, ◌==◌, ◌^◌, ◌∙◌, ◌∷◌, ◌≡◌, ◌≢◌, ◌≤◌, ◌⊎◌}
pub use Rattle.std.proofs.Math.Nat.{le-max_left, le-max_right, max-le, pow-le-pow_right}
pub use Rattle.std.proofs.lemmas.Bool.{and_from, and_parts, cases_Bool, cases_lt, eqb-true, false≢true, ltb-false, not-true, or_cases, or_from, or_left, or_parts, or_right}
pub use Rattle.std.proofs.lemmas.Bool.Decides.{Decides-eqb, Decides-ltb}
pub use Rattle.std.proofs.lemmas.Cmp.{nat_list_cmp_total}
pub use Rattle.std.proofs.lemmas.Fmt.{decimal_is_IsNumeral_wide, IsAscii-decimal, IsAscii-decimal_wide, IsAscii-signed}
pub use Rattle.std.proofs.lemmas.List.{drop_at, take_at}
pub use Rattle.std.proofs.lemmas.List.Elements.{All-cons, All-contains, All-head, All-nil, All-tail, Contains-append_right}
pub use Rattle.std.proofs.lemmas.Map.Text.{is_eq-slice_cmp}
pub use Rattle.std.proofs.lemmas.Option.{none-some, same_Some}
pub use Rattle.std.proofs.lemmas.Slice.Eq.{bytes_eq-Decides}
pub use Rattle.std.proofs.lemmas.Str.{is_utf8-from_IsUtf8, IsCharBoundary-after_ascii, IsCharBoundary-before_ascii, IsUtf8-append, IsUtf8-drop, IsUtf8-encode, IsUtf8-from_ascii, IsUtf8-from_is_utf8, IsUtf8-take}
pub use Rattle.std.proofs.lemmas.Str.Ascii.{IsAscii-cons, IsAscii-from_all, IsAscii-nil}
pub use Rattle.std.specs.Char.{digit_value, encode_utf8, is_digit, IsScalar}
pub use Rattle.std.specs.Cmp.{nat_cmp_is}
pub use Rattle.std.specs.Cmp.Lexicographic.{slice_cmp}
pub use Rattle.std.specs.Fmt.{signed_decimal}
pub use Rattle.std.specs.Int.{byte_len, w128, w16, w8, Width}
pub use Rattle.std.specs.List.{AllByRecursion, flat_map, list_all, list_any, starts_with}
unfoldable pub use Rattle.std.specs.List.Sorted.{IsStrictlySortedBy}
pub use Rattle.std.specs.Map.{keys_of}
pub use Rattle.std.specs.Option.{option_map_or, option_or}
pub use Rattle.std.specs.Ordering.{is_eq, match_ordering, ordering_reverse}
pub use Rattle.std.specs.Prelude.{option_and_then, ⊤}
pub use Rattle.std.specs.Result.{result_err}
pub use Rattle.std.specs.Str.{is_utf8}
pub use Rattle.std.specs.Str.Parse.{AllDigits, digits_value}
pub use Rattle.bcs_decode_spec.proofs.Encoded.{accepted_is_encoded_is}
pub use Rattle.bcs_decode_spec.specs.Accepting.{Accepts}
pub use Rattle.bcs_encode_spec.proofs.FormLaws.{bytes_decide_same, forms_same, has_one_form}
pub use Rattle.bcs_encode_spec.proofs.Growth.{keeps_soundness}
pub use Rattle.bcs_encode_spec.specs.Encodes.{Encodes, IsForm}
pub use Rattle.bcs_encode_spec.specs.Lengths.{length_limit, lengths_hold}
pub use Rattle.bcs_encode_spec.specs.Refused.{LengthsHold}
pub use Rattle.bcs_encode_spec.specs.Sound.{IsSound}
pub use Rattle.bcs_encode_spec.specs.declared.fault.EncodeFault.{EncodeFault}
pub use Rattle.bcs_num.proofs.LeLaws.{width_bytes}
pub use Rattle.bcs_num.proofs.Ranges.{bits_most, half_most, holds_signed-is, two_halves}
pub use Rattle.bcs_num.specs.Le.{holds_signed, holds_unsigned, IsSigned}
pub use Rattle.bcs_registry_json.proofs.Choices.{texts_differ}
pub use Rattle.bcs_registry_json.proofs.RisingMembers.{names_of, names_put, NamesRise, sorted_inserted}
pub use Rattle.bcs_registry_json.specs.Json.{IsJson, IsNotJson}
pub use Rattle.bcs_registry_json.specs.Shown.{shown_choices, shown_container, shown_containers, shown_payload, shown_struct, single}
pub use Rattle.bcs_registry_json.specs.Text.{WritesRegistry}
pub use Rattle.bcs_registry_model.proofs.Admitted.{list_all-found}
pub use Rattle.bcs_registry_model.proofs.GrowthLaws.{container_at-grows, has_choices, HasChoices}
pub use Rattle.bcs_registry_model.specs.Container.{Choice, choice_at, choice_called, choice_numbered, Container, container_at, Content, content, content_at, Entries, enumeration, Field, field_shapes, field_struct, newtype, newtype_struct, Payload, payload_shape, tuple, tuple_struct, unit_struct}
pub use Rattle.bcs_registry_model.specs.Grows.{Grows, GrowsTo, HasChoice, IsFirst}
pub use Rattle.bcs_registry_model.specs.Ranges.{IsInRange, IsOrderly}
pub use Rattle.bcs_registry_model.specs.Shape.{float64, no_shapes, Shape, shape, Shapes, tuple as tuple_shape}
pub use Rattle.bcs_registry_model.specs.WellFormed.{are_distinct, container_names, IsWellFormed, levels_hold, names_differ, names_known, payload_names}
pub use Rattle.bcs_value_model.proofs.Equivalence.{bytes-refl, nat-same, same-refl}
pub use Rattle.bcs_value_model.proofs.Loosening.{strictly_then_loosely}
pub use Rattle.bcs_value_model.specs.Fits.{all_fit, are_bytes, each_fits, Fits, fits, pairs_fit}
pub use Rattle.bcs_value_model.specs.Limits.{Bounds}
pub use Rattle.bcs_value_model.specs.Same.{all_pairs, all_same, distinct, has_pair, HasDistinctKeys, is_within, same}
pub use Rattle.bcs_value_model.specs.Tree.{absent, bytes, count, items, no_pairs, no_trees, pair, Pairs, pairs, pairs_depth, present, signed, text, Tree, tree, Trees, trees_depth, truth, unit, variant}
pub use Rattle.hex.proofs.HexLemmas.{decode_of-encode_lower, decode_of-ok}
unfoldable pub use Rattle.hex.proofs.OnLiterals.{hex_on_literals}
pub use Rattle.hex.specs.Hex.{decode_of, encode_lower, is_hex_digit, IsBytes}
pub use Rattle.hex.specs.declared.error.FromHexError.{FromHexError}
pub use Rattle.json.proofs.Printed.Decimals.{IsNumber-decimal, IsNumber-signed_decimal}
pub use Rattle.json.proofs.Printed.Tokens.{tokens-print}
pub use Rattle.json.proofs.Printed.Trees.{ArePrintable-json_tokens, value-json_tokens}
pub use Rattle.json.proofs.Printed.Utf8.{IsUtf8-are_ascii, IsUtf8-boolean, IsUtf8-quoted}
pub use Rattle.json.specs.Json.{after_end_array, items_step, Json, members_step, Parse, parse_map, read_key, value_with}
pub use Rattle.json.specs.Lex.{after_comma, after_key, after_value, backslash, begins_colon, between, Class, class, colon, comma, fresh, if_allowed, in_escape, in_string, in_word, lex_byte, Lexeme, may_begin, may_close, Mode, operator, operator_lexeme, other, Place, place_token, quote, space, string_token, token, tokens}
unfoldable pub use Rattle.json.specs.Lex.{lex, punctuate}
pub use Rattle.json.specs.Print.{IsNumber, quoted}
pub use Rattle.json.specs.Text.{after_backslash, after_high, after_u, is_high_surrogate, is_low_surrogate, plain, prepend, surrogate_pair}
unfoldable pub use Rattle.json.specs.Text.{code_unit, short_escape}
pub use Rattle.json.specs.Token.{Token}
pub use Rattle.json.specs.Tree.{HasNumbers, ItemsHaveNumbers, json_tokens, MembersHaveNumbers}
pub use Rattle.json.specs.Word.{after_number, ends_word, head, is_operator, is_space, literal, number_before}
unfoldable pub use Rattle.json.specs.Word.{word}
pub use Rattle.serde_json.proofs.Numbers.{number_of-decimal, number_of-negative}
pub use Rattle.serde_json.proofs.Texts.{print-outline}
pub use Rattle.serde_json.proofs.Views.{get_member-put, get_member-put_other}
pub use Rattle.serde_json.specs.Data.{array, boolean, Data, depth, float, item, Items, items_depth, member, Members, members_depth, negative, no_items, no_members, null, Num, number, object, put, string, unsigned, unsigned as whole}
pub use Rattle.serde_json.specs.Find.{get_member, of_integer}
pub use Rattle.serde_json.specs.Read.{max_depth, number_of, of_items, of_json, of_members, read}
pub use Rattle.serde_json.specs.Written.{comma_if, compact_text, has_float, items_have_float, items_outline, items_text, members_have_float, members_outline, members_text, number_text, outline}
pub use mir.Val.{bits, hbits}
pub use Rattle.bcs_json_spec.specs.ArraySpells.{AllArraySpell, ArraySpells, EachArraySpells, FieldsArraySpell, PairsArraySpell}
pub use Rattle.bcs_json_spec.specs.Bytes.{byte_trees, ByteTextSpells, is_byte, IsHexOf, trees_bytes}
pub use Rattle.bcs_json_spec.specs.Causes.{fault_of_value}
pub use Rattle.bcs_json_spec.specs.Headline.{HasBytes, Normalises, ShowsBytes}
pub use Rattle.bcs_json_spec.specs.JsonContent.{fields, json_content, json_content_at, JsonContent, nothing, of, one_of, payload_content}
pub use Rattle.bcs_json_spec.specs.Laws.{ArraySpellingStillSpells, DenotedIsNotRefused, DenotesOnce, EqualValuesEqualBytes, GrowthKeepsDenoting, GrowthKeepsShowing, GrowthKeepsSpelling, NormalTextIsStable, OnePlace, OneTree, OneVerdict, PlaceIsRefusedAlone, ShownBytesComeBack, ShownIsLowest, ShownIsReadBack, SomePlace, SpelledFits, TextDenotesOrIsRefused}
pub use Rattle.bcs_json_spec.specs.Look.{IfArray, IfObject, IfOne, IfString, IfStringOrArray, IfThere, IfTwo, IfWordOrOne, IsNull, item_count, shape_count, without}
pub use Rattle.bcs_json_spec.specs.Numbers.{is_signed_of, is_unsigned_of, negated, SpellsWhole, whole_of, worth}
pub use Rattle.bcs_json_spec.specs.Place.{array_parts, each_parts, entry, entry_parts, enum_parts, field_parts, IsGood, IsPlaceAmong, IsPlaceOf, IsRefusedAlone, IsRefusedWith, item_parts, JsonPart, map_parts, named_parts, option_parts, pair_parts, part, parts, PointerStep, seq_parts, shape_parts, struct_parts, Target, tuple_parts, value}
pub use Rattle.bcs_json_spec.specs.Reading.{follow, hex_or_fault, Read, read_all, read_array, read_byte_text, read_bytes, read_choice, read_content, read_data, read_each, read_enum, read_fields, read_map, read_member, read_named, read_option, read_pair, read_pairs, read_part, read_seq, read_shape, read_struct, read_text, read_truth, read_tuple, read_unit, read_whole, read_word, size_of, sized, whole_in}
unfoldable pub use Rattle.bcs_json_spec.specs.Reading.{read_hex, read_signed, read_unsigned}
pub use Rattle.bcs_json_spec.specs.Refuses.{AllRefuse, ArrayRefuses, Bad, BytesRefuse, ByteTextRefuses, ChoiceRefuses, ContentRefuses, EachRefuses, EnumRefuses, FieldsRefuse, IsNoHex, MapRefuses, MemberRefuses, NameRefuses, OptionRefuses, PairRefuses, PairsRefuse, PartRefuses, Refuses, SeqRefuses, ShapeRefuses, StructRefuses, TextRefuses, TruthRefuses, TupleRefuses, UnitRefuses, WholeRefuses, WordRefuses}
pub use Rattle.bcs_json_spec.specs.Shown.{is_wide, shown, shown_all, shown_choice, shown_each, shown_fields, shown_pairs}
pub use Rattle.bcs_json_spec.specs.Spells.{AllSpell, EachSpells, FieldsSpell, IsWordOf, PairsSpell, Spells, SpellsWithin}
pub use Rattle.bcs_json_spec.specs.Texts.{Denotes, IsReadAs, Misspells, nesting_limit, RefusesText, SpelledBy}
pub use Rattle.bcs_json_spec.specs.declared.json_fault.JsonFault.{JsonFault}
pub use Rattle.bcs_json_spec.specs.declared.json_fault.JsonFault.TheVariants.{BadHex, BadNumber, BadShape, MissingField, NotJson, OutOfMemory, RepeatedKey, TooDeep, TooLong, TooManyNodes, TooNested, UnknownField, UnknownVariant, Unsupported}
