use Rattle.bcs_decode_slice.proofs.Prelude.{common_steps, arith}
use Rattle.bcs_decode_slice.proofs.Steps.{number_found, number_ended, number_long, number_large}
use Rattle.bcs_decode_slice.proofs.cursor.number.Goals as goal

pub returns-in-Ok-clause-passes : goal.returns-in-Ok-clause-passes
returns-in-Ok-clause-passes c =
    let f = c.in-Ok.ensures.found in
    rw (c.advance.ensures.rest, c.advance.ensures.place, c.advance.ensures.nodes) (number_found c.args.cursor.now.place c.args.cursor.now.nodes c.args.cursor.now.rest.now c.in-Ok.number c.in-Ok.len f.0 f.1 f.2)

pub returns-in-Err-EndOfInput-clause-passes : goal.returns-in-Err-EndOfInput-clause-passes
returns-in-Err-EndOfInput-clause-passes c = grind (arith, number_ended)

pub returns-in-Err-LongForm-clause-passes : goal.returns-in-Err-LongForm-clause-passes
returns-in-Err-LongForm-clause-passes c = grind (arith, number_long)

pub returns-in-Err-NumberTooLarge-clause-passes : goal.returns-in-Err-NumberTooLarge-clause-passes
returns-in-Err-NumberTooLarge-clause-passes c = grind (arith, number_large)

pub returns-in-Ok-clause-onward : goal.returns-in-Ok-clause-onward
returns-in-Ok-clause-onward c = grind (arith, common_steps)
