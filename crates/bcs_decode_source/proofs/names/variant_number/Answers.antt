use Rattle.bcs_decode_source.proofs.Prelude.{number_node}
use Rattle.bcs_decode_source.proofs.Readers.{Reads-then, Reads-ends, Reads-exit}
use Rattle.bcs_decode_source.proofs.names.variant_number.Goals as goal

pub returns-in_err-begin-clause-reads : goal.returns-in_err-begin-clause-reads
unfolding number_node
returns-in_err-begin-clause-reads g c = Reads-exit c.from_residual.ensures.1 (Reads-ends _ c.in_err-begin.ensures.reads)

pub returns-clause-reads : goal.returns-clause-reads
unfolding number_node
returns-clause-reads g c = Reads-then _ c.in_ok-begin.ensures.reads c.number.ensures.reads
