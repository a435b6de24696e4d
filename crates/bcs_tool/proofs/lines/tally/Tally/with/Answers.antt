use Rattle.bcs_tool.proofs.Prelude.{◌==◌, ◌+◌, ap, arith, refl}
use Rattle.bcs_tool.proofs.TallyLemmas.{bit_within, count_room, tally_more}
use Rattle.bcs_tool.proofs.lines.tally.Tally.with.Goals as goal

pub overflow_add-result-2 : goal.overflow_add-result-2
overflow_add-result-2 c =
    let room = count_room c.args.self c.requires.counted.0 c.requires.counted.1 in
    omega (arith, c.requires.room, room.0, c.from.ensures, bit_within (c.args.status == 0))

pub overflow_add-result-3 : goal.overflow_add-result-3
overflow_add-result-3 c =
    let room = count_room c.args.self c.requires.counted.0 c.requires.counted.1 in
    omega (arith, c.requires.room, room.1, c.from-2.ensures, bit_within (c.args.status == 1))

pub overflow_add-result-4 : goal.overflow_add-result-4
overflow_add-result-4 c =
    let room = count_room c.args.self c.requires.counted.0 c.requires.counted.1 in
    omega (arith, c.requires.room, room.2, c.from-3.ensures, bit_within (c.args.status == 2))

pub returns : goal.returns
returns c =
    let tally = c.args.self in
    tally_more tally _ c.args.status refl (ap (λ n. tally.done + n) c.from.ensures) (ap (λ n. tally.negative + n) c.from-2.ensures) (ap (λ n. tally.refused + n) c.from-3.ensures) c.max.ensures
