use Rattle.bcs_num.proofs.Prelude.{◌≡◌, ◌<◌, ◌^◌, ◌+◌, take, length, min, AllDigits, digits_value}
use Rattle.bcs_num.proofs.decimal.number.Given as goal

abbrev pub invariant-loop-byte : goal.invariant-loop-byte
invariant-loop-byte l = record {
  digits_so_far : AllDigits 10 (take (min (length l.digits) 19 + l.byte-index) l.digits);
  value : l.n ≡ digits_value 10 (take (min (length l.digits) 19 + l.byte-index) l.digits);
  fits : l.n < 2 ^ 128;
}
