use Rattle.bcs_value.proofs.Prelude.{sym, bytes_are}
use Rattle.bcs_value.proofs.fitting.are_bytes.Goals as goal

pub returns : goal.returns
returns c = sym (bytes_are c.args.bytes.now (λ i. (c.type_inv.bytes i).fits))
