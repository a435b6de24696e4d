-- What the proofs use from other crates, and from this crate's definitions.
pub use Rattle.std.proofs.Common.{[], ap, arith, Bool, Bor, Box, BTreeMap, false, get_or, Global, inl, inr, length, List, map, nat_lt, None, not, Option, option_map, refl, rules, Some, String, string_bytes, subst, suc, sym, take, true, true≢false, Vec, zero, ℕ, ℤ, ◌&&◌, ◌<◌, ◌==◌, ◌^◌, ◌||◌, ◌∙◌, ◌∷◌, ◌≡◌}
pub use Rattle.std.proofs.lemmas.Bool.{and_from, and_parts, and_right, eq-eqb, eqb-true, false≢true, lt-ltb, ltb-true, or_cases, or_left, or_right}
pub use Rattle.std.proofs.lemmas.List.Elements.{same_from_all_zip}
pub use Rattle.std.proofs.lemmas.Str.{is_utf8-from_IsUtf8, IsUtf8-string_bytes}
pub use Rattle.std.specs.BTreeMap.{is_at}
pub use Rattle.std.specs.Cmp.Rules.{comparing}
pub use Rattle.std.specs.Map.{lookup}
pub use Rattle.std.specs.Option.{option_copied, option_map_or}
pub use Rattle.std.specs.Ordering.{int_eq, nat_cmp}
pub use Rattle.std.specs.Str.{bytes_eq}
pub use Rattle.bcs_registry_model.proofs.FormatViews.{shape-Bytes, shape-Map, shape-Seq, shape-Str, shape-TupleArray}
pub use Rattle.bcs_registry_model.proofs.GrowthLaws.{choice_at-grows, content_at-grows, HasChoices, StaysIn}
pub use Rattle.bcs_registry_model.proofs.Lookup.{find-choice}
pub use Rattle.bcs_registry_model.specs.Container.{Choice, choice_at, Content, content, content_at, Entries, field_shapes, nothing, of, one_of, Payload, payload_shape}
pub use Rattle.bcs_registry_model.specs.Grows.{Grows}
pub use Rattle.bcs_registry_model.specs.Shape.{array, map as map_shape, no_shapes, seq, Shape, shape, Shapes, Unsupported, unsupported}
pub use Rattle.bcs_registry_model.specs.View.{choice_of, container_of, field_of, formats_shapes, payload_of, shape_of}
pub use Rattle.bcs_registry_model.specs.declared.container.Container.TheVariants.{Enum}
pub use Rattle.bcs_registry_model.specs.declared.format.Format.{Bytes, Format, Map, Seq, Str, TupleArray}
pub use Rattle.bcs_registry_model.specs.declared.named.Named.{Named}
pub use Rattle.bcs_registry_model.specs.declared.variant_format.VariantFormat.{VariantFormat}
pub use Rattle.bcs_value_model.specs.Fits.{all_fit, are_bytes, each_fits, fits, pairs_fit}
pub use Rattle.bcs_value_model.specs.Laws.{FitsStrictlyThenLoosely, GrowthKeepsFitting, MapsWithDistinctKeys, SameHaveSameFormats, SameMaps}
pub use Rattle.bcs_value_model.specs.Same.{all_pairs, all_same, any_pair, both, distinct, has_pair, is_within, pairs_distinct, Same, same}
pub use Rattle.bcs_value_model.specs.Tree.{absent, bytes, count, items, named, no_pairs, no_trees, pair, pair_count, Pairs, pairs, present, signed, text, Tree, tree, Trees, truth, unit, unsigned, variant}
pub use Rattle.bcs_value_model.specs.View.{entries_pairs, items_trees, tree_of}
pub use Rattle.bcs_value_model.specs.Words.{EachHasMatch, IsEntry, key_at, KeysDiffer, PartsHaveDistinctKeys}
pub use Rattle.bcs_value_model.specs.declared.value.Value.{Items, Present, Signed, Text, the_lemmas, Unsigned, Value, Variant}
