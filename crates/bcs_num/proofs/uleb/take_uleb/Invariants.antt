use Rattle.bcs_num.proofs.Prelude.{◌≡◌, ◌≤◌, ◌<◌, ◌^◌, drop}
use Rattle.bcs_num.proofs.UlebReading.{shifted, number_from}
use Rattle.bcs_num.proofs.uleb.take_uleb.Given as goal

abbrev pub invariant-loop-i : goal.invariant-loop-i
invariant-loop-i l = record {
  few : l.i ≤ 4;
  worth_is : l.worth ≡ 128 ^ l.i;
  below : l.low < l.worth;
  whole : number_from 0 l.bytes ≡ shifted l.low l.worth l.i (number_from l.i (drop l.i l.bytes));
}
