-- What the proofs use from other crates, and from this crate's definitions.
pub use Rattle.std.proofs.Common.{[], add-one, ap, append_assoc, arith, decimal, drop, Err, false, get_or, get_or-drop, if◌then◌else◌, inl, inr, length, length-append, length-drop, length-take, length-take-le, List, min, nat_lt, negsuc, None, Ok, Option, pos, refl, Result, rules, set, Some, subst, suc, sym, take, true, zero, ℕ, ℤ, ◌%◌, ◌&&◌, ◌*◌, ◌++◌, ◌+◌, ◌-◌, ◌/◌, ◌<◌, ◌==◌, ◌^◌, ◌∙◌, ◌∷◌, ◌≡◌, ◌≤◌}
pub use Rattle.std.proofs.Math.Facts.{Fits-of_lt, Fits-of_z, sfits_to_z}
pub use Rattle.std.proofs.Math.ListN.{get_or-append}
pub use Rattle.std.proofs.Math.Nat.{div-div-eq-div-mul, div-one, mod-eq_of_lt, pow-le-pow_right, pow-suc}
pub use Rattle.std.proofs.lemmas.Bool.{cases_eq, cases_lt, le-ltb, lt-ltb, ltb-true}
pub use Rattle.std.proofs.lemmas.Bool.Decides.{nat_tests}
pub use Rattle.std.proofs.lemmas.Fmt.{decimal_by_steps_wide, decimal_digit, decimal_is_IsNumeral_wide, decimal_step_wide}
pub use Rattle.std.proofs.lemmas.Grind.{common_steps}
pub use Rattle.std.proofs.lemmas.Int.{ints, of_z-to_z, to_z-of_z}
pub use Rattle.std.proofs.lemmas.Int.Digits.{digits_more, digits_value-lt, digits_value_more}
pub use Rattle.std.proofs.lemmas.List.{append-nil, drop-set-lt, drop_all, drop_at, drop_more, take-append-drop, take_all, take_at, take_more_set}
pub use Rattle.std.proofs.lemmas.List.Elements.{All-cons, All-from_get_or, All-head, All-nil, All-tail, All-take}
pub use Rattle.std.proofs.lemmas.Nat.{and_mask}
pub use Rattle.std.proofs.lemmas.Str.{digit_value_digit}
pub use Rattle.std.proofs.lemmas.Str.Parse.{digit_at, digit_from_value, digits_value-take-le}
pub use Rattle.std.specs.Char.{digit_value}
pub use Rattle.std.specs.Fmt.{signed_decimal}
pub use Rattle.std.specs.Int.{byte_at, byte_len, byte_worth, bytes_low_first, cast_signed, cast_unsigned, from_le_bytes, sum_through, to_le_bytes, w128, w16, w32, w64, w8, Width}
pub use Rattle.std.specs.Int.Bits.{bit_and}
pub use Rattle.std.specs.List.{All}
pub use Rattle.std.specs.Prelude.{IfOk, IfSome, IsErrOf, ok_or, SomeIff, ◌↔◌}
pub use Rattle.std.specs.Str.Parse.{AllDigits, digits_value, digits_value_after}
pub use mir.Val.{bits, hbits}
pub use Rattle.bcs_num.specs.Le.{holds_signed, IsSigned, IsUnsigned, le_signed, low_bytes, width_of}
unfoldable pub use Rattle.bcs_num.specs.Le.{le}
pub use Rattle.bcs_num.specs.Uleb.{groups, HasHighBit, IsLongForm, IsTooLarge, IsUnended}
unfoldable pub use Rattle.bcs_num.specs.Uleb.{uleb}
pub use Rattle.bcs_num.specs.declared.fault.NumFault.{NumFault}
pub use Rattle.bcs_num.specs.declared.fault.NumFault.TheVariants.{EndOfInput, LongForm, NumberTooLarge}
