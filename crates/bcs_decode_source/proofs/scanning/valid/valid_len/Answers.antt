use Rattle.bcs_decode_source.proofs.Utf8Fronts.{longest_behind}
use Rattle.bcs_decode_source.proofs.scanning.valid.valid_len.Goals as goal

pub returns-in-Err-clause-behind : goal.returns-in-Err-clause-behind
returns-in-Err-clause-behind c = rw c.valid_up_to.ensures (longest_behind c.args.bytes.now c.in-Err.error.valid_up_to c.in-Err.ensures.cases.1)
