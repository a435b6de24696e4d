use Rattle.bcs_num.proofs.Prelude.{◌≡◌, ◌<◌, ◌++◌, take, drop, uleb}
use Rattle.bcs_num.proofs.Room.{room}
use Rattle.bcs_num.proofs.uleb.put_uleb.Given as goal

abbrev pub invariant-loop-left : goal.invariant-loop-left
invariant-loop-left l = record {
  written : take l.i l.out ++ uleb l.left ≡ uleb l.n;
  kept : drop l.i l.out ≡ drop l.i l.fn.out;
  fits : l.left < room l.i;
}

abbrev pub decreases-loop-left : goal.decreases-loop-left
decreases-loop-left l = l.left
