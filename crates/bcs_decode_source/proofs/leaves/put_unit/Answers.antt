use Rattle.bcs_decode_source.proofs.Readers.{Reads-node-ends, Reads-exit}
use Rattle.bcs_decode_source.proofs.leaves.put_unit.Goals as goal

pub returns-in_err-begin-clause-reads : goal.returns-in_err-begin-clause-reads
returns-in_err-begin-clause-reads g c = Reads-exit c.from_residual.ensures.1 (Reads-node-ends _ c.in_err-begin.ensures.reads)
