-- What the proofs use from other crates, and from this crate's definitions.
pub use Rattle.std.proofs.Common.{[], ap, arith, Bool, cond, drop, false, get_or, Global, inl, inr, length, List, map, max, min, refl, rules, subst, suc, sym, true, true≢false, Vec, ℕ, ◌&&◌, ◌+◌, ◌<◌, ◌||◌, ◌∙◌, ◌∷◌, ◌≡◌, ◌≤◌}
pub use Rattle.std.proofs.lemmas.Bool.{and_from, and_parts, and_right, cases_Bool, or_cases, or_left, or_parts, or_right}
pub use Rattle.std.proofs.lemmas.List.{at_drop_all, drop_more}
pub use Rattle.bcs_registry_model.specs.Container.{field_shapes}
pub use Rattle.bcs_registry_model.specs.View.{field_of, formats_shapes, shape_of}
pub use Rattle.bcs_value_model.proofs.Equivalence.{covers, same-refl, same-sym, same-trans}
pub use Rattle.bcs_value_model.proofs.FitsByViews.{bytes_are, each_fits-unlike, fields_fit-unlike, fits-bytes, fits-found, fits-map, fits-missing, fits-text}
pub use Rattle.bcs_value_model.proofs.Views.{tree_of_pairs, tree_of_signed, tree_of_unsigned}
pub use Rattle.bcs_value_model.proofs.WalkViews.{count_pairs}
pub use Rattle.bcs_value_model.specs.Same.{all_pairs, all_same, any_pair, has_pair, is_within, same}
pub use Rattle.bcs_value_model.specs.Tree.{no_pairs, nodes, pair, pair_count, Pairs, pairs_depth, pairs_nodes, Tree, trees_depth, trees_nodes}
pub use Rattle.bcs_value_model.specs.View.{entries_pairs, items_trees, tree_of}
pub use Rattle.bcs_value_model.specs.declared.value.Value.{Value}
pub use Rattle.bcs_value_model.specs.declared.value.Value.TheFolds.{the_lemmas}
pub use Rattle.bcs_value.specs.RepeatedEntries.{has_repeated_entries}
