-- What the proofs use from other crates, and from this crate's definitions.
pub use Rattle.std.proofs.Common.{[], ap, append_assoc, ap₂, arith, Bool, cond, false, get_or, if◌then◌else◌, inl, inr, leb, length, List, map, max, nat_lt, None, not, Option, refl, Some, subst, suc, sym, true, ℕ, ◌&&◌, ◌++◌, ◌+◌, ◌<◌, ◌==◌, ◌^◌, ◌||◌, ◌∙◌, ◌∷◌, ◌≡◌, ◌≤◌, ◌⊎◌}
pub use Rattle.std.proofs.lemmas.Bool.{and_from, and_parts, cases_Bool, cases_lt, cases_order, eq-eqb, eqb-true, false_from_ne_true, false≢true, le-leb, le-ltb, lt-leb, lt-ltb, ltb-true, or_cases, or_left, or_right}
pub use Rattle.std.proofs.lemmas.Bool.Decides.{nat_tests}
pub use Rattle.std.proofs.lemmas.Fn.{always_returns_same}
pub use Rattle.std.proofs.lemmas.List.Elements.{All-cons, All-head, All-nil, All-tail, All-weaker}
pub use Rattle.std.proofs.lemmas.List.Sorted.{All-permutation, IsPermutation-sym, ranks_by, sum_by-IsPermutation}
pub use Rattle.std.proofs.lemmas.List.Sums.{sum_by-cons}
pub use Rattle.std.specs.Cmp.{IsStrictWeakOrder}
pub use Rattle.std.specs.Cmp.Lexicographic.{nat_list_cmp_total, slice_cmp}
pub use Rattle.std.specs.Fn.{Called, ComparesAs}
pub use Rattle.std.specs.List.{All, flat_map, sum_by}
pub use Rattle.std.specs.List.Sorted.{IsPermutation, IsSortedBy, IsSortedByKey}
pub use Rattle.std.specs.Option.{option_map_or}
pub use Rattle.std.specs.Ordering.{is_lt, nat_cmp}
pub use Rattle.std.specs.Prelude.{IsTrue, ◌↔◌}
pub use Rattle.std.specs.Str.{bytes_eq}
pub use Rattle.std.specs.declared.cmp.Ordering.{Ordering}
pub use Rattle.std.specs.declared.cmp.Ordering.TheVariants.{Equal, Greater, Less}
pub use Rattle.bcs_num.proofs.LeLaws.{le_prefix_free, le_signed_prefix_free}
pub use Rattle.bcs_num.proofs.Ranges.{holds_signed-is}
pub use Rattle.bcs_num.proofs.UlebLaws.{uleb_prefix_free}
pub use Rattle.bcs_num.specs.Uleb.{uleb}
pub use Rattle.bcs_registry_model.proofs.GrowthLaws.{content_at-grows, HasChoices, StaysIn}
pub use Rattle.bcs_registry_model.specs.Container.{Choice, choice_at, choice_numbered, Content, content_at, Entries, nothing, of, one_of, Payload, payload_shape}
pub use Rattle.bcs_registry_model.specs.Grows.{Grows}
pub use Rattle.bcs_registry_model.specs.Shape.{no_shapes, Shape, shape, Shapes}
pub use Rattle.bcs_value_model.proofs.Equivalence.{all_same-refl, both-same, bytes-refl, bytes-same, int-same, nat-same, same-refl, same-sym, same-trans}
pub use Rattle.bcs_value_model.proofs.Growth.{fits-grows}
pub use Rattle.bcs_value_model.proofs.Loosening.{strictly_then_loosely}
pub use Rattle.bcs_value_model.proofs.MapsInWords.{any_found}
pub use Rattle.bcs_value_model.proofs.VariantFits.{payload_fits}
pub use Rattle.bcs_value_model.specs.Fits.{all_fit, each_fits, fits, pairs_fit}
pub use Rattle.bcs_value_model.specs.Limits.{Bounds}
pub use Rattle.bcs_value_model.specs.Same.{all_distinct, all_pairs, all_same, any_pair, distinct, has_pair, is_within, pairs_distinct, Same, same}
pub use Rattle.bcs_value_model.specs.Tree.{count, depth, no_pairs, no_trees, nodes, pair, pair_count, Pairs, pairs, pairs_depth, pairs_nodes, Tree, tree, Trees, trees_depth, trees_nodes}
pub use Rattle.bcs_value_model.specs.Words.{IsEntry}
pub use denote.Param.Members.{Mut}
pub use denote.Ref.{Bor}
pub use mir.Val.{bits}
pub use Rattle.bcs_encode_spec.specs.Canonical.{AllCanonical, Below, EachCanonical, IsCanonical, PairsCanonical, Rises, RisesFrom}
pub use Rattle.bcs_encode_spec.specs.Encodes.{IsForm}
pub use Rattle.bcs_encode_spec.specs.Entries.{EncodesWithoutLimits, EntriesOf, EntriesRise, EntriesRiseFrom, Entry, entry_bytes, EqualNeighboursRepeat, HasEqualNeighbours, Keyed, SortedEntries}
pub use Rattle.bcs_encode_spec.specs.Laws.{BytesDecide, GrowthKeepsBytes, GrowthKeepsEncodings, GrowthKeepsOrder, GrowthKeepsSoundness, OneCanonicalForm, OneRefusal, PrefixFree, RefusedOrSound}
pub use Rattle.bcs_encode_spec.specs.Lengths.{all_hold, each_holds, length_limit, lengths_hold, pairs_hold}
pub use Rattle.bcs_encode_spec.specs.Plain.{plain, plain_each, plain_items, plain_pairs, truth_byte}
pub use Rattle.bcs_encode_spec.specs.Refused.{RefusesValue}
pub use Rattle.bcs_encode_spec.specs.Sound.{IsSound, IsSoundAt}
pub use Rattle.bcs_encode_spec.specs.declared.fault.EncodeFault.{EncodeFault}
pub use Rattle.bcs_encode_spec.specs.declared.fault.EncodeFault.TheVariants.{NotOfFormat, OutOfMemory, RepeatedKey, TooDeep, TooLong, TooManyNodes, Unsupported}
