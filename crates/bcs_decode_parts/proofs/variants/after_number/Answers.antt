use Rattle.bcs_decode_parts.proofs.Numbers.{number_found, number_refused}
use Rattle.bcs_decode_parts.proofs.variants.after_number.Goals as goal

pub returns-in-Ok : goal.returns-in-Ok
returns-in-Ok c = λ n after small is.
    number_found c.args.bytes.now c.take_uleb.result c.take_uleb.ensures.only n after small is c.in-Ok.number c.in-Ok.length c.split_at.result.1.now c.in-Ok.is c.split_at.ensures.back

pub returns-in-Err : goal.returns-in-Err
returns-in-Err c = λ n after small is. number_refused c.args.bytes.now c.take_uleb.result c.take_uleb.ensures.only n after small is c.in-Err.field-0 c.in-Err.is
