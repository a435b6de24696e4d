-- Names from other crates and from this crate's definitions that the proofs share.
pub use Rattle.std.proofs.Common.{[], ap, append_assoc, arith, Bool, codes, decimal, drop, Err, false, get_or, if◌then◌else◌, length, List, map, nat_le, nat_lt, None, not, Ok, Option, refl, Result, rules, Some, subst, suc, sym, take, true, true≢false, zero, ℕ, ◌&&◌, ◌||◌, ◌++◌, ◌+◌, ◌<◌, ◌==◌, ◌^◌, ◌∙◌, ◌∷◌, ◌≡◌, ◌≢◌, ◌≤◌}
pub use Rattle.std.proofs.lemmas.Bool.{eqb-true, ne_eqb}
pub use Rattle.std.proofs.lemmas.Bool.Decides.{Decides-ltb}
pub use Rattle.std.proofs.lemmas.Fmt.{decimal_is_IsNumeral}
pub use Rattle.std.proofs.lemmas.Grind.{common_steps}
pub use Rattle.std.proofs.lemmas.List.{append-nil, drop_at, drop_more, length-append, map-append, take-append-drop, take_at}
pub use Rattle.std.proofs.lemmas.Slice.Eq.{bytes_eq-Decides}
pub use Rattle.std.proofs.lemmas.Str.{IsUtf8-from_ascii}
pub use Rattle.std.proofs.lemmas.Str.Parse.{digit_from_value}
pub use Rattle.std.specs.List.{All}
pub use Rattle.std.specs.Str.{bytes_eq, IsUtf8}
pub use Rattle.std.specs.Str.Parse.{AllDigits, digits_value}
pub use Rattle.hex.proofs.HexLemmas.{decode_of-encode_lower}
pub use Rattle.hex.specs.Hex.{decode_of, encode_lower, IsBytes}
pub use Rattle.hex.specs.declared.error.FromHexError.{FromHexError}
pub use Rattle.bcs_part_labels.specs.Labels.{is_mark}
pub use Rattle.bcs_part_names.specs.Names.{bracketed, closed_len, closing, coloned, cut, exact_key, field, followed_by, head_step, in_brackets, entry_key, entry_value, inside, item, key, key_of, label_len, labelled, name_steps, name_text, NameStep, number_of, numbered, plain_len, quoted_len, step_text, steps_of, steps_text, then_steps, before_all, variant}
unfoldable pub use Rattle.bcs_part_names.specs.Names.{steps_within}
pub use Rattle.bcs_part_names.specs.NameSteps.{all_named, named}
