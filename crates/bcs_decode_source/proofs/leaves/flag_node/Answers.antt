use Rattle.bcs_decode_source.proofs.Prelude.{flag_node}
use Rattle.bcs_decode_source.proofs.Readers.{Reads-then, Reads-ends, Reads-exit}
use Rattle.bcs_decode_source.proofs.leaves.flag_node.Goals as goal

pub returns-in_err-begin-clause-reads : goal.returns-in_err-begin-clause-reads
unfolding flag_node
returns-in_err-begin-clause-reads g c = Reads-exit c.from_residual.ensures.1 (Reads-ends _ c.in_err-begin.ensures.reads)

pub returns-clause-reads : goal.returns-clause-reads
unfolding flag_node
returns-clause-reads g c = Reads-then _ c.in_ok-begin.ensures.reads c.flag.ensures.reads
