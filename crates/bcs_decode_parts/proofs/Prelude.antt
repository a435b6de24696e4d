-- Names from other crates and from this crate's definitions that the proofs share.
pub use Rattle.std.proofs.Common.{[], ap, append_assoc, ap₂, arith, Bool, codes, decimal, drop, Err, false, get_or, if◌then◌else◌, inl, inr, length, List, lit<, map, nat_le, nat_lt, None, not, Ok, Option, refl, Result, rules, Some, subst, suc, sym, take, true, true≢false, zero, ℕ, ◌&&◌, ◌++◌, ◌+◌, ◌-◌, ◌<◌, ◌==◌, ◌^◌, ◌∙◌, ◌∷◌, ◌≡◌, ◌≢◌, ◌≤◌, ◌⊎◌}
pub use Rattle.std.proofs.lemmas.Bool.{and_from, and_parts, eq-eqb, false≢true, leb-true, ltb-true, ne_eqb}
pub use Rattle.std.proofs.lemmas.Bool.Decides.{Decides-ltb}
pub use Rattle.std.proofs.lemmas.Fmt.{decimal_injective, decimal_is_IsNumeral}
pub use Rattle.std.proofs.lemmas.Iterator.Splits.{YieldsList-from_str_split}
pub use Rattle.std.proofs.lemmas.List.{append-nil, drop-drop, drop_all, drop_at, drop_more, length-append, length-take, map-append, take-append-drop, take_at}
pub use Rattle.std.proofs.lemmas.List.Elements.{All-append, All-cons, All-nil, All-weaker}
pub use Rattle.std.proofs.lemmas.List.Splits.{join_with_byte-slice_split, length-slice_split, slice_split_at, slice_split_none}
pub use Rattle.std.proofs.lemmas.List.Sums.{AllPass-from_list_all}
pub use Rattle.std.proofs.lemmas.Result.{err_from_is_err_and}
pub use Rattle.std.proofs.lemmas.Slice.Eq.{bytes_eq-Decides}
pub use Rattle.std.proofs.lemmas.Str.Parse.{digit_from_value}
pub use Rattle.std.specs.Int.{w16}
pub use Rattle.std.specs.Iterator.{AlwaysYields}
pub use Rattle.std.specs.List.{All, AllZip, join_with_byte, list_all, slice_split}
pub use Rattle.std.specs.Str.{bytes_eq}
pub use Rattle.std.specs.Str.Iter.{split_steps}
pub use Rattle.std.specs.Str.Parse.{AllDigits, digits_value}
pub use Rattle.std.specs.Str.Pattern.{FindsChar}
pub use Rattle.bcs_decode_spec.proofs.ScalarSteps.{bare}
pub use Rattle.bcs_decode_spec.specs.Steps.{skip}
pub use Rattle.bcs_decode_slice.specs.declared.cursor.Cursor.{Cursor}
pub use Rattle.bcs_decode_spec.proofs.Combine.{parts}
pub use Rattle.bcs_decode_spec.proofs.Decodable.{are_items, are_pairs, decodable, each_is, EachIs, is_each, items_are}
pub use Rattle.bcs_decode_spec.proofs.LookedUp.{choice_found, choice_missing, content_found, fields_next, formats_next}
pub use Rattle.bcs_decode_spec.proofs.Verdicts.{accepts_skips}
pub use Rattle.bcs_decode_spec.specs.Accepting.{Accepts, IsDecodable}
pub use Rattle.bcs_decode_spec.specs.Reading.{items_here, Parser, Read, skipping}
unfoldable pub use Rattle.bcs_decode_spec.specs.Reading.{chain, node, shape_here, value_here}
pub use Rattle.bcs_decode_spec.specs.Stopping.{AllAre, AllRise}
pub use Rattle.bcs_decode_spec.specs.declared.reason.Reason.{Reason}
pub use Rattle.bcs_encode_spec.proofs.BelowLaws.{Below-irrefl, Below-trans}
pub use Rattle.bcs_encode_spec.proofs.Growth.{fitting_stays, plain_newer, stays_alike}
pub use Rattle.bcs_encode_spec.specs.Canonical.{Below, Rises, RisesFrom}
pub use Rattle.bcs_encode_spec.specs.Lengths.{all_hold, length_limit, pairs_hold}
pub use Rattle.bcs_encode_spec.specs.Plain.{plain, plain_each, plain_items, plain_pairs}
unfoldable pub use Rattle.bcs_num.specs.Uleb.{uleb}
pub use Rattle.bcs_num.specs.declared.fault.NumFault.{NumFault}
pub use Rattle.bcs_registry_model.proofs.GrowthLaws.{choice_at-grows, content_at-grows, StaysIn}
pub use Rattle.bcs_registry_model.specs.Container.{Choice, choice_at, Content, content_at, Entries, field_shapes, nothing, of, one_of, payload_shape}
pub use Rattle.bcs_registry_model.specs.Grows.{Grows}
pub use Rattle.bcs_registry_model.specs.Shape.{array as array_shape, map as map_shape, name as name_shape, no_shapes, option as option_shape, seq as seq_shape, Shape, shape, Shapes, tuple as tuple_shape}
pub use Rattle.bcs_registry_model.specs.View.{choice_of, field_of, formats_shapes, payload_of, shape_of}
pub use Rattle.bcs_registry_model.specs.declared.format.Format.{Format}
pub use Rattle.bcs_registry_model.specs.declared.named.Named.{Named}
pub use Rattle.bcs_value_model.proofs.Equivalence.{nat-same}
pub use Rattle.bcs_value_model.proofs.VariantFits.{number_fits, payload_fits}
pub use Rattle.bcs_value_model.specs.Fits.{all_fit, each_fits, fits, pairs_fit}
pub use Rattle.bcs_value_model.specs.Limits.{Bounds}
pub use Rattle.bcs_value_model.specs.Tree.{count, no_pairs, no_trees, nodes, pair, pair_count, Pairs, pairs_nodes, Tree, tree, Trees, trees_nodes}
pub use Rattle.hex.proofs.HexLemmas.{decode_of-ok}
pub use Rattle.hex.specs.Hex.{decode_of, is_hex_digit}
pub use Rattle.hex.specs.declared.error.FromHexError.{FromHexError}
pub use borrow.Author.Tests.{not-true}
pub use Rattle.bcs_decode_parts.specs.Fronts.{Fronts, LeadsTo, Reaches, StepsTo}
pub use Rattle.bcs_decode_parts.specs.Here.{content_of}
pub use Rattle.bcs_decode_parts.specs.Inside.{Opens}
pub use Rattle.bcs_decode_parts.specs.PartLaws.{GrowthKeepsParts, IsSamePart, joined, KeyLeadsToOne, PartStands}
pub use Rattle.bcs_decode_parts.specs.Parts.{inner, item, item_in, item_of, key, Part, part_after, part_at, part_onward, Stands, Step, step_at, value_of}
pub use Rattle.bcs_decode_parts.specs.Path.{SpellsNoPath, SpellsPath, SpellsStep}
pub use Rattle.bcs_decode_parts.specs.PathLaws.{OnePath}
pub use Rattle.bcs_decode_parts.specs.PathSteps.{all_spelled, spelled}
pub use Rattle.bcs_decode_parts.specs.Steps.{GivesPart, step_of}
pub use Rattle.bcs_decode_parts.specs.declared.ahead.Ahead.{Ahead}
pub use Rattle.bcs_decode_parts.specs.declared.here.Reached.{Reached}
pub use Rattle.bcs_decode_parts.specs.declared.inside.Inside.{Inside}
pub use Rattle.bcs_decode_parts.specs.declared.path_fault.PathFault.TheVariants.{BadPath}
pub use Rattle.bcs_decode_parts.specs.declared.step.Step.TheVariants.{Item}
