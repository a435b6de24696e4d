use Rattle.bcs_num.proofs.Prelude.{◌≡◌, ap, length, take, length-take, length-append, add-one, arith, rules, drop-set-lt, common_steps, uleb}
use Rattle.bcs_num.proofs.UlebLaws.{uleb-low}
use Rattle.bcs_num.proofs.Room.{room_few, room_next}
use Rattle.bcs_num.proofs.UlebWriting.{put_more, put_last}
use Rattle.bcs_num.proofs.uleb.put_uleb.Goals as goal

pub loop-left-preserved : goal.loop-left-preserved
loop-left-preserved c =
    let here = room_few c.loop-left.i c.loop-left.left c.loop-left.invariant.fits in
    record {
      written = put_more c.loop-left.out c.loop-left.i c.loop-left.left _ (omega arith) c.loop-left-test.true c.loop-left.invariant.written;
      kept = grind (arith, common_steps, drop-set-lt);
      fits = rw add-one (room_next c.loop-left.i c.loop-left.left c.loop-left-test.true c.loop-left.invariant.fits).1;
    }

pub returns-clause-bytes : goal.returns-clause-bytes
returns-clause-bytes c =
    let here = room_few c.loop-left.i c.loop-left.left c.loop-left.invariant.fits in
    let known = put_last c.loop-left.out c.loop-left.i c.loop-left.left _ (omega arith) c.loop-left-test.false c.loop-left.invariant.written in
    search (rules, known)

pub returns-clause-len : goal.returns-clause-len
returns-clause-len c =
    let here = room_few c.loop-left.i c.loop-left.left c.loop-left.invariant.fits in
    let one : length (uleb c.loop-left.left) ≡ 1 = ap length (uleb-low c.loop-left.left c.loop-left-test.false) in
    let front = length-take c.loop-left.i c.loop-left.out in
    let both = length-append (take c.loop-left.i c.loop-left.out) (uleb c.loop-left.left) in
    omega (arith, ap length c.loop-left.invariant.written)

pub returns-clause-room : goal.returns-clause-room
returns-clause-room c = search rules

pub returns-clause-rest : goal.returns-clause-rest
returns-clause-rest c = search rules
