use Rattle.bcs_decode_source.proofs.Prelude.{arith}
use Rattle.bcs_value_model.specs.Tree as tree
use Rattle.bcs_decode_source.proofs.Readers.{Reads-node, Reads-made, Reads-ends, Reads-node-ends, Reads-exit}
use Rattle.bcs_decode_source.proofs.ValueViews.{tree_signed}
use Rattle.bcs_decode_source.proofs.leaves.put_signed.Goals as goal

pub returns-clause-reads : goal.returns-clause-reads
returns-clause-reads g c = Reads-node c.in_ok-begin.ensures.reads (Reads-made tree.signed (grind (arith, tree_signed)) c.in_ok-number.ensures.reads)

pub returns-in_err-begin-clause-reads : goal.returns-in_err-begin-clause-reads
returns-in_err-begin-clause-reads g c = Reads-exit c.from_residual.ensures.1 (Reads-node-ends _ c.in_err-begin.ensures.reads)

pub returns-in_err-number-clause-reads : goal.returns-in_err-number-clause-reads
returns-in_err-number-clause-reads g c = Reads-exit c.from_residual-in_err-number.ensures.1 (Reads-node c.in_ok-begin.ensures.reads (Reads-ends _ c.in_err-number.ensures.reads))
