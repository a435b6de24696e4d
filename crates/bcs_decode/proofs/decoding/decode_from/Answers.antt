use Rattle.bcs_decode.proofs.Prelude.{rules}
use Rattle.bcs_decode.proofs.decoding.decode_from.Goals as goal

pub returns-in_err-value-clause-read : goal.returns-in_err-value-clause-read
returns-in_err-value-clause-read g c = search rules

pub returns-in_err-value-clause-told : goal.returns-in_err-value-clause-told
returns-in_err-value-clause-told g c = search rules
