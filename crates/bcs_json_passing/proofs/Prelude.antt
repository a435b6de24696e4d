-- Names from other crates and from this crate's definitions that the proofs share.
pub use Rattle.std.proofs.Common.{[], ap, arith, decimal, Err, false, length, List, negsuc, None, Ok, Option, option_map, pos, refl, Result, Some, subst, suc, sym, ℕ, ℤ, ◌*◌, ◌+◌, ◌-◌, ◌<◌, ◌^◌, ◌∙◌, ◌∷◌, ◌≡◌, ◌≤◌}
pub use Rattle.std.proofs.lemmas.Option.{none-some}
pub use Rattle.std.specs.Prelude.{OnOk}
pub use Rattle.bcs_registry_json.proofs.Turns.{converted-array, converted-object, converted_some, item_read, items_over, member_read, members_over, none_before}
pub use Rattle.json.proofs.Grammar.{left, read_key-shorter, skip_value-shorter, value_is}
pub use Rattle.json.specs.Json.{after_end_array, parse_map, read_key}
unfoldable pub use Rattle.json.specs.Json.{items, members, value}
pub use Rattle.json.specs.Reads.{token_of}
pub use Rattle.json.specs.Token.{Token}
pub use Rattle.serde_json.specs.Data.{array, boolean, Data, item, Items, Members, no_items, no_members, null, number, object, put, string, unsigned}
pub use Rattle.serde_json.specs.Read.{converted, number_of, of_items, of_json, of_members}
pub use Rattle.bcs_json_spec.specs.Look.{item_count}
pub use Rattle.bcs_json_passing.specs.Passing.{alone, StartsAs, IsPassed, IsPassedFrom, ArePassed, MembersPassed}
pub use Rattle.std.specs.Fmt.{signed_decimal}
pub use Rattle.std.specs.Int.{w64}
pub use Rattle.serde_json.proofs.Numbers.{number_of-decimal, number_of-negative}
pub use Rattle.serde_json.specs.Data.{negative}
pub use Rattle.bcs_num.specs.Le.{IsSigned}
pub use Rattle.bcs_json_spec.specs.Numbers.{SpellsWhole}
pub use Rattle.std.proofs.Common.{Bool, drop, map, string_bytes, true}
pub use Rattle.std.proofs.lemmas.Bool.{or_parts}
pub use Rattle.std.proofs.lemmas.Slice.Eq.{bytes_eq-Decides}
pub use Rattle.std.specs.List.{list_any}
pub use Rattle.std.specs.Str.{bytes_eq}
pub use Rattle.serde_json.specs.Find.{get_member}
pub use Rattle.serde_json.proofs.Views.{get_member-put, get_member-put_other}
pub use Rattle.bcs_json_passing.specs.Passing.{AreKept, OthersPassed}
