use Rattle.bcs_num.proofs.Prelude.{◌≡◌, take, AllDigits, digits_value}
use Rattle.bcs_num.proofs.decimal.short_number.Given as goal

abbrev pub invariant-loop-byte : goal.invariant-loop-byte
invariant-loop-byte l = record {
  digits_so_far : AllDigits 10 (take l.byte-index l.digits);
  value : l.n ≡ digits_value 10 (take l.byte-index l.digits);
}
